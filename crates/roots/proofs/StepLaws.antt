-- Laws of the steps, as a loop takes them pair by pair.
-- Assumes nothing.
use Rattle.std.specs.Prelude.{◌≡◌, refl, ℕ, zero, suc, ◌+◌, ◌-◌, ◌*◌, ◌/◌, ◌%◌, ◌^◌, ◌≤◌, ◌<◌, length, replicate, set, take, slice_index}
use Rattle.std.proofs.Common.{sym, ◌∙◌, arith, length-append}
use Rattle.std.proofs.Math.Path.{ap}
use Rattle.std.proofs.Math.Nat.{div-one, div-eq_of_lt, mod-eq_of_lt, div-le_self}
use mathlib.Core.List.{List, [], ◌∷◌, ◌++◌, append-nil, append_assoc}
use Rattle.std.proofs.lemmas.List.{set_at, get_or-take, length-take}
use lib.ListN.{get_or}
use Rattle.std.proofs.Math.Seq.{append_snoc}
use Rattle.roots.specs.declared.Step.{Step}
use Rattle.roots.specs.declared.Working.{Working}
use Rattle.roots.specs.Root.{root_of}
use Rattle.roots.specs.School.{behind_first, pairs, taken, digit_of, steps_from, steps_of, none, school_of, Worked}
use Rattle.roots.proofs.PairLaws.{behind_few, behind_top, pair_at, pairs_behind, one_on}
use Rattle.roots.proofs.SchoolLaws.{nothing, no_ten, stepped, root_small, worked_root}

-- what the loop knows of `count` pairs: n are to come, and the part before them is worked
pub record Sofar (h : ℕ) (steps : List Step) (count at root rest : ℕ) : Type 0 where
  pub n : ℕ
  pub left : at + n ≡ count
  pub worked : Worked (h / 100 ^ n) root rest
  pub room : count ≤ 10
  pub done : List Step
  pub many : length done ≡ at
  pub filled : steps ≡ done ++ replicate (10 - at) none
  pub rows : done ++ steps_from root rest (pairs n (h % 100 ^ n)) ≡ steps_of h

pub sofar_start : (h : ℕ) {behind : ℕ} {empty : Step} → h < 2 ^ 64 → behind ≡ behind_first h
    → (empty.pair ≡ 0) × ((empty.digit ≡ 0) × (empty.rest ≡ 0)) → Sofar h (replicate 10 empty) (behind + 1) 0 0 0
unfolding steps_of
sofar_start h {behind} {empty = empty} fits b zeros = record {
  n = suc (behind_first h);
  left = omega (arith, b);
  worked = rw (div-eq_of_lt (behind_top h fits)) nothing;
  room = omega (arith, b, behind_few h);
  done = [];
  many = refl;
  filled = rw (zeros.0, zeros.1.0, zeros.1.1) refl;
  rows = rw (mod-eq_of_lt (behind_top h fits)) refl;
}

pub record Bounds (at root rest pair : ℕ) : Type 0 where
  pub at_top : at < 10
  pub root_top : root < 2 ^ 32
  pub rest_top : rest ≤ 2 * root
  pub pair_top : pair < 100
  pub ten : rest * 100 + pair < taken root 10

-- n pairs are one more than m
record More (n : ℕ) : Type 0 where
  m : ℕ
  one : n ≡ suc m

more_by : (n : ℕ) → 0 < n → More n
more_by zero l = absurd (omega arith)
more_by (suc m) l = record { m = m; one = refl }

first_pair : (h m : ℕ) → pairs (suc m) (h % 100 ^ suc m) ≡ h / 100 ^ m % 100 ∷ pairs m (h % 100 ^ m)
unfolding pairs
first_pair h m = rw (pair_at h m, pairs_behind h m) refl

-- of the first `count` of ten places in which the pairs stand, the next one
module _ {h count at root rest : ℕ} (parted : List ℕ) {steps : List Step} (fits : h < 2 ^ 64) (some : at < length (take count parted))
    (s : Sofar h steps count at root rest) (here : (k j : ℕ) → k + suc j ≡ count → slice_index parted k ≡ h / 100 ^ j % 100) where
  abbrev pair : ℕ
  pair = get_or (take count parted) at 0

  inside : at < count
  inside = omega (arith, some, length-take count parted)

  more : More s.n
  more = more_by s.n (omega (arith, s.left, inside))

  is : pair ≡ h / 100 ^ more.m % 100
  is = get_or-take count parted at 0 inside ∙ here at more.m (omega (arith, s.left, more.one))

  two : pair < 100
  two = omega (arith, is)

  worked : Worked (h / 100 ^ more.m / 100) root rest
  worked = rw one_on (rw more.one at s.worked)

  -- what keeps each number of a step small
  pub bounds : Bounds at root rest pair
  bounds = record {
    at_top = omega (arith, s.room, inside);
    root_top = root_small {part = h / 100 ^ s.n} (omega (arith, div-le_self h (100 ^ s.n))) s.worked;
    rest_top = s.worked.left;
    pair_top = two;
    ten = no_ten two s.worked;
  }

  abbrev digit_here : ℕ
  digit_here = digit_of root (rest * 100 + pair)

  abbrev rest_after : ℕ → ℕ
  rest_after d = rest * 100 + pair - taken root d

  abbrev step_by : ℕ → Step
  step_by d = record { pair = pair; digit = d; rest = rest_after d }

  worked_on : Worked (h / 100 ^ more.m) (10 * root + digit_here) (rest_after digit_here)
  worked_on =
      let e : h / 100 ^ more.m / 100 * 100 + pair ≡ h / 100 ^ more.m = omega (arith, is) in
      rw e at (stepped two worked)

  to_come : pairs s.n (h % 100 ^ s.n) ≡ pair ∷ pairs more.m (h % 100 ^ more.m)
  to_come =
      ap (λ (n : ℕ). pairs n (h % 100 ^ n)) more.one ∙ first_pair h more.m ∙ ap (λ (p : ℕ). p ∷ pairs more.m (h % 100 ^ more.m)) (sym is)

  one_more : step_by digit_here ∷ steps_from (10 * root + digit_here) (rest_after digit_here) (pairs more.m (h % 100 ^ more.m))
      ≡ steps_from root rest (pairs s.n (h % 100 ^ s.n))
  unfolding steps_from
  one_more = ap (λ (l : List ℕ). steps_from root rest l) (sym to_come)

  set_here : (step : Step) → set steps at step ≡ (s.done ++ (step ∷ [])) ++ replicate (10 - (at + 1)) none
  set_here step =
      let last : 10 - at ≡ suc (10 - (at + 1)) = omega (arith, s.room, inside) in
      let free : List Step = replicate (10 - (at + 1)) none in
      rw (s.filled, last) (set_at s.done none free step at s.many ∙ sym (append_snoc s.done step free))

  go_on : Sofar h (set steps at (step_by digit_here)) count (at + 1) (10 * root + digit_here) (rest_after digit_here)
  go_on = record {
    n = more.m;
    left = omega (arith, s.left, more.one);
    worked = worked_on;
    room = s.room;
    done = s.done ++ (step_by digit_here ∷ []);
    many = omega (arith, length-append s.done (step_by digit_here ∷ []), s.many);
    filled = set_here (step_by digit_here);
    rows = append_assoc s.done (step_by digit_here ∷ []) _ ∙ ap (λ (l : List Step). s.done ++ l) one_more ∙ s.rows;
  }

  pub next : {d : ℕ} → d ≡ digit_here → Sofar h (set steps at (step_by d)) count (at + 1) (10 * root + d) (rest_after d)
  next e = rw e go_on

answer : (h : ℕ) {at root : ℕ} {done steps : List Step} → root ≡ root_of h → done ≡ steps_of h → length done ≡ at → steps ≡ done ++ replicate (10 - at) none
    → ◌≡◌ {A = Working} (record { root = root; count = at; steps = steps }) (school_of h)
answer h r d m f = rw (r, f, ← m, d) refl

pub finish : {h count at root rest : ℕ} (parted : List ℕ) {steps : List Step} → length parted ≡ 10 → length (take count parted) ≤ at
    → Sofar h steps count at root rest
    → ◌≡◌ {A = Working} (record { root = root; count = count; steps = steps }) (school_of h)
unfolding pairs steps_from
finish {h} {count} {at} {root} {rest} parted ten l s =
    let none_left : s.n ≡ 0 = omega (arith, s.left, s.room, length-take count parted, ten, l) in
    let last : at ≡ count = omega (arith, s.left) in
    let whole : Worked (h / 100 ^ 0) root rest = rw none_left at s.worked in
    let rows : s.done ++ steps_from root rest (pairs 0 (h % 100 ^ 0)) ≡ steps_of h = rw none_left at s.rows in
    answer h (worked_root (rw (div-one h) at whole)) (sym (append-nil s.done) ∙ rows) (s.many ∙ last) (rw last at s.filled)
