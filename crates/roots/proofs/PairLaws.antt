-- Laws of the pairs of a number: the place of the first one, and how many there are.
-- Assumes nothing.
use Rattle.std.specs.Prelude.{◌≡◌, refl, ℕ, suc, ◌+◌, ◌-◌, ◌/◌, ◌%◌, ◌^◌, ◌≤◌, ◌<◌, max, List, length, replicate, set, slice_index}
use Rattle.std.proofs.Common.{lt_of_not-le, sym, ◌∙◌, mod-lt, div-lt_iff_lt-mul, pow-suc, arith, le-leb, leb-true, leb-false}
use Rattle.std.proofs.Math.Nat.{one-le-pow, pow-le-pow_right, pow-succ', div-one, div-eq_of_lt, div-div-eq-div-mul, mul-add-div_right}
use Rattle.std.proofs.Math.Arith.{mod-mul}
use Rattle.std.proofs.lemmas.Nat.{mod-mul-add}
use Rattle.std.proofs.lemmas.Grind.{get_or-set_at}
use Rattle.std.proofs.lemmas.List.{length-set, get_or-set_other}
use Rattle.std.proofs.Math.Decide.{dec_le}
use Rattle.std.proofs.Math.Dec.{leb}
use Rattle.std.proofs.lemmas.Bool.{lt-leb}
use Rattle.sines.specs.Greatest.{IsGreatest}
use Rattle.sines.proofs.GreatestLaws.{greatest_is, greatest_meets}
use Rattle.roots.specs.School.{behind_first}

pub hundred_some : (k : ℕ) → 0 < 100 ^ k
hundred_some k = one-le-pow k 100 (omega arith)

-- a pair has two digits
pub two_digits : (m later : ℕ) → later < 100 ^ suc m → later / 100 ^ m < 100
two_digits m later below = (div-lt_iff_lt-mul {k = 100 ^ m} {x = later} {y = 100} (hundred_some m)).1 (omega (arith, below, pow-suc 100 m))

few : {h k : ℕ} → h < 2 ^ 64 → 100 ^ k ≤ max h 1 → k ≤ 9
few {h} {k} fits l = omega (arith, many)
  where
    many : 10 ≤ k → ⊥
    many m = omega (arith, pow-le-pow_right {n = 100} (omega arith) m)

-- how many stand behind the first pair
pub first : (h k : ℕ) → h < 2 ^ 64 → 100 ^ k ≤ max h 1 → h / 100 < 100 ^ k → k ≡ behind_first h
unfolding behind_first
first h k fits l u =
    greatest_is (λ j. leb (100 ^ j) (max h 1)) (record {
      inside = few {h = h} fits l;
      holds = le-leb (100 ^ k) (max h 1) l;
      later = λ j m _. lt-leb (100 ^ j) (max h 1) (past j m);
    })
  where
    past : (j : ℕ) → k < j → max h 1 < 100 ^ j
    past j m = omega (arith, hundred_some k, pow-le-pow_right {n = 100} (omega arith) {i = suc k} {j = j} m, pow-suc 100 k)

-- ---- parted from the right

-- the two digits behind which m pairs stand
pub pair_at : (h m : ℕ) → h % 100 ^ suc m / 100 ^ m ≡ h / 100 ^ m % 100
pair_at h m =
    rw (pow-succ' 100 m, mod-mul h {m = 100} {c = 100 ^ m} (omega arith) (hundred_some m))
    (mul-add-div_right (hundred_some m) (h / 100 ^ m % 100) (h % 100 ^ m) ∙ rw (div-eq_of_lt (mod-lt h (hundred_some m))) (omega arith))

pub pairs_behind : (h m : ℕ) → h % 100 ^ suc m % 100 ^ m ≡ h % 100 ^ m
pairs_behind h m =
    rw (pow-succ' 100 m, mod-mul h {m = 100} {c = 100 ^ m} (omega arith) (hundred_some m))
    (mod-mul-add (h / 100 ^ m % 100) (100 ^ m) (h % 100 ^ m) (mod-lt h (hundred_some m)))

pub one_on : (h m : ℕ) → h / 100 ^ m / 100 ≡ h / 100 ^ suc m
one_on h m = rw (pow-suc 100 m) (div-div-eq-div-mul h (100 ^ m) 100)

-- what a loop knows that parts them: m are put down, and the others are left
pub record Parted (h count at left : ℕ) (pairs : List ℕ) : Type 0 where
  pub m : ℕ
  pub far : at + m ≡ count
  pub others : left ≡ h / 100 ^ m
  pub room : count ≤ 10
  pub many : length pairs ≡ 10
  pub down : (k j : ℕ) → at ≤ k → k + suc j ≡ count → slice_index pairs k ≡ h / 100 ^ j % 100

pub parted_start : (h count : ℕ) → count ≤ 10 → Parted h count count h (replicate 10 0)
parted_start h count room = record {
  m = 0;
  far = omega arith;
  others = sym (div-one h);
  room = room;
  many = refl;
  down = λ k j l e. absurd (omega arith);
}

pub parted_next : {h count at left : ℕ} {pairs : List ℕ} → 0 < at → Parted h count at left pairs
    → Parted h count (at - 1) (left / 100) (set pairs (at - 1) (left % 100))
parted_next {h} {count} {at} {left} {pairs} some p = record {
  m = suc p.m;
  far = omega (arith, p.far);
  others = rw p.others (one_on h p.m);
  room = p.room;
  many = length-set pairs (at - 1) (left % 100) ∙ p.many;
  down = λ k j l e. go k j e (dec_le at k) l;
}
  where
    go : (k j : ℕ) → k + suc j ≡ count → Dec (at ≤ k) → at - 1 ≤ k → slice_index (set pairs (at - 1) (left % 100)) k ≡ h / 100 ^ j % 100
    go k j e (yes l) _ = get_or-set_other pairs (at - 1) k (left % 100) 0 (omega arith) ∙ p.down k j l e
    go k j e (no f) b =
        let same : k ≡ at - 1 = omega (arith, lt_of_not-le f) in
        let last : j ≡ p.m = omega (arith, p.far) in
        get_or-set_at pairs (at - 1) k (left % 100) 0 same (omega (arith, p.far, p.room, p.many)) ∙ rw (last, p.others) refl

module _ (h : ℕ) where
  behind_meets : IsGreatest (λ j. leb (100 ^ j) (max h 1)) 9 (behind_first h)
  unfolding behind_first
  behind_meets = greatest_meets (λ j. leb (100 ^ j) (max h 1)) (le-leb (100 ^ 0) (max h 1) (omega arith))

  pub behind_few : behind_first h ≤ 9
  behind_few = behind_meets.inside

  pub behind_low : 100 ^ behind_first h ≤ max h 1
  behind_low = leb-true _ (max h 1) behind_meets.holds

  pub behind_top : h < 2 ^ 64 → h < 100 ^ suc (behind_first h)
  behind_top fits = go (dec_le (suc (behind_first h)) 9)
    where
      go : Dec (suc (behind_first h) ≤ 9) → h < 100 ^ suc (behind_first h)
      go (yes l) = omega (arith, leb-false _ (max h 1) (behind_meets.later (suc (behind_first h)) (omega arith) l))
      go (no f) = omega (arith, pow-le-pow_right {n = 100} (omega arith) {i = 10} (lt_of_not-le f))
