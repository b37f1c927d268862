-- Laws of the school method: its digit, the one that is tried first, and the method's invariant.
-- Assumes nothing.
use Rattle.std.specs.Prelude.{◌≡◌, refl, Bool, ℕ, zero, suc, ◌+◌, ◌-◌, ◌*◌, ◌/◌, ◌^◌, ◌≤◌, ◌<◌, leb}
use Rattle.std.proofs.Common.{lt_of_not-le, mul-le-mul, div-lt_iff_lt-mul, arith}
use Rattle.std.proofs.Math.Nat.{lt-div-mul-add}
use Rattle.std.proofs.Math.Decide.{dec_le}
use borrow.Author.Tests.{le-leb, lt-leb, leb-true, leb-false}
use Rattle.sines.specs.Greatest.{IsGreatest}
use Rattle.sines.proofs.GreatestLaws.{greatest_is, greatest_meets}
use Rattle.roots.specs.Root.{root_of}
use Rattle.roots.proofs.RootLaws.{root_is}
use Rattle.roots.specs.School.{taken, digit_of, Worked}

-- ---- the digit

apart : (d k : ℕ) → 2 * (d * (d + k)) ≤ d * d + (d + k) * (d + k)
apart d k = omega arith

-- (5 - d)² is no less than 0
off_five : (d : ℕ) → 10 * d ≤ d * d + 25
off_five d = go (dec_le d 5)
  where
    go : Dec (d ≤ 5) → 10 * d ≤ d * d + 25
    go (yes l) = let e : d + (5 - d) ≡ 5 = omega arith in omega (arith, rw e at (apart d (5 - d)))
    go (no f) = let e : 5 + (d - 5) ≡ d = omega (arith, lt_of_not-le f) in omega (arith, rw e at (apart 5 (d - 5)))

pub taken_le : (root : ℕ) {d e : ℕ} → d ≤ e → taken root d ≤ taken root e
taken_le root l = mul-le-mul (omega arith) l

module _ (root rest : ℕ) where
  abbrev goes : ℕ → Bool
  goes d = leb (taken root d) rest

  digit_meets : IsGreatest goes 9 (digit_of root rest)
  unfolding digit_of
  digit_meets = greatest_meets goes (le-leb (taken root 0) rest (omega arith))

  digit_fits : taken root (digit_of root rest) ≤ rest
  digit_fits = leb-true _ rest digit_meets.holds

  pub found : {d : ℕ} → d ≡ digit_of root rest → (d ≤ 9) × (taken root d ≤ rest)
  found e = rw e (digit_meets.inside, digit_fits)

  pub digit_next : rest < taken root 10 → rest < taken root (digit_of root rest + 1)
  digit_next ten = go (dec_le (digit_of root rest + 1) 9)
    where
      go : Dec (digit_of root rest + 1 ≤ 9) → rest < taken root (digit_of root rest + 1)
      go (yes l) = leb-false _ rest (digit_meets.later (digit_of root rest + 1) (omega arith) l)
      go (no f) = omega (arith, taken_le root {d = 10} (lt_of_not-le f))

  pub digit_is : {d : ℕ} → taken root d ≤ rest → rest < taken root (d + 1) → rest < taken root 10 → d ≡ digit_of root rest
  unfolding digit_of
  digit_is {d} low next ten =
      greatest_is goes (record {
        inside = omega (arith, below);
        holds = le-leb _ rest low;
        later = λ e l _. lt-leb _ rest (past e l);
      })
    where
      below : 10 ≤ d → ⊥
      below l = omega (arith, taken_le root l)

      past : (e : ℕ) → d < e → rest < taken root e
      past e l = let m : d + 1 ≤ e = omega arith in omega (arith, taken_le root m)

  -- the digit that is tried first: the next one does not fit, and it is little above 9
  pub trial_next : rest < taken root ((rest + 25) / (20 * root + 10) + 1)
  trial_next =
      let q = (rest + 25) / (20 * root + 10) in
      omega (arith, off_five (q + 1), lt-div-mul-add {a = rest + 25} {b = 20 * root + 10} (omega arith))

  pub trial_top : rest < taken root 10 → (rest + 25) / (20 * root + 10) < 13
  trial_top ten = (div-lt_iff_lt-mul {k = 20 * root + 10} {x = rest + 25} {y = 13} (omega arith)).1 (omega arith)

  -- one that does not fit is not 0, and is the next after another
  pub one_less : (d : ℕ) → rest < taken root d → (0 < d) × (rest < taken root (d - 1 + 1))
  one_less zero h = absurd (omega arith)
  one_less (suc d) h = let e : suc d - 1 + 1 ≡ suc d = omega arith in (omega arith, rw e h)

-- ---- the invariant

module _ {part root rest pair : ℕ} (two : pair < 100) (w : Worked part root rest) where
  pub no_ten : rest * 100 + pair < taken root 10
  no_ten = omega (arith, w.left)

  pub stepped : Worked (part * 100 + pair) (10 * root + digit_of root (rest * 100 + pair)) (rest * 100 + pair - taken root (digit_of root (rest * 100 + pair)))
  stepped =
      let b : ℕ = rest * 100 + pair in
      let fits = digit_fits root b in
      record { whole = omega (arith, fits, w.whole); left = omega (arith, fits, digit_next root b no_ten) }

pub root_small : {part root rest : ℕ} → part < 2 ^ 64 → Worked part root rest → root < 2 ^ 32
root_small {part} {root} fits w = omega (arith, large)
  where
    large : 2 ^ 32 ≤ root → ⊥
    large l = omega (arith, w.whole, mul-le-mul l l)

pub worked_root : {h root rest : ℕ} → Worked h root rest → root ≡ root_of h
worked_root w = root_is (omega (arith, w.whole)) (omega (arith, w.whole, w.left))

-- before the first pair
pub nothing : Worked 0 0 0
nothing = record { whole = refl; left = omega arith }
