-- How long a point buffer is at most, that its beginnings never fall in length, that one which is accepted is measured, and so is a beginning of it, and what a further point adds.
-- Assumes nothing.
use Rattle.std.specs.Prelude.{◌≡◌, refl, Bool, true, false, List, ◌++◌, ℕ, zero, suc, ◌+◌, ◌-◌, ◌*◌, ◌≤◌, ◌<◌, ℤ, pos, length, take, drop, get_or, if◌then◌else◌, Ok}
use Rattle.std.proofs.Common.{sym, ap, ◌∙◌, add-zero, le_refl, take-append-drop, length-append, get_or-append-add}
use native.Mathlib.Omega.{arith}
use Rattle.std.proofs.Math.ListN.{get_or-append}
use Rattle.signed.specs.Tests.{eq_z}
use Rattle.points.specs.Points.{numbers, point_numbers, part_at, latitude_at, longitude_at, third_at, count, buffer_refusal}
use Rattle.points.proofs.PointLaws.{accepted, count_first, first_accepted}
use Rattle.refusals.specs.Choice.{fine}
use Rattle.globe.specs.Leg.{leg_length}
use Rattle.globe.proofs.LegLaws.{longest_leg, longest}
use Rattle.globe.specs.Measure.{leg_into, length_up_to, measure_of}

leg_longest : (b : List ℤ) (i : ℕ) → leg_into b i ≤ longest_leg
unfolding leg_into
leg_longest b i = go (eq_z (third_at b i) (pos 1))
  where
    go : (t : Bool) → (if t then 0 else leg_length (latitude_at b (i - 1)) (longitude_at b (i - 1)) (latitude_at b i) (longitude_at b i)) ≤ longest_leg
    go true = omega arith
    go false = longest _ _ _ _

pub length_longest : (b : List ℤ) (n : ℕ) → length_up_to b n ≤ n * longest_leg
unfolding length_up_to
length_longest b zero = omega arith
length_longest b (suc n) = omega (arith, length_longest b n, leg_longest b n)

-- a beginning is never longer than one of more points
pub length_grows : (b : List ℤ) (k n : ℕ) → k ≤ n → length_up_to b k ≤ length_up_to b n
unfolding length_up_to
length_grows b k n h = let e : k + (n - k) ≡ n = omega arith in rw e at (go (n - k))
  where
    go : (d : ℕ) → length_up_to b k ≤ length_up_to b (k + d)
    go zero = rw add-zero (le_refl _)
    go (suc d) = let e : k + suc d ≡ suc (k + d) = omega arith in rw e (omega (arith, go d))

pub accepted_measured : (b : List ℤ) → buffer_refusal b ≡ fine → measure_of b ≡ Ok (length_up_to b (count b))
unfolding measure_of
accepted_measured b e = rw e

-- ---- a further point

part_before : (b e : List ℤ) (i k : ℕ) → i < count b → k < numbers → part_at (b ++ e) i k ≡ part_at b i k
part_before b e i k h l = get_or-append b e (pos 0) (numbers * i + k) (omega arith)

leg_before : (b e : List ℤ) (i : ℕ) → i < count b → leg_into (b ++ e) i ≡ leg_into b i
unfolding leg_into
leg_before b e i h =
    let at = part_before b e in
    rw (at i 0 h (omega arith), at i 1 h (omega arith), at i 2 h (omega arith), at (i - 1) 0 (omega arith) (omega arith), at (i - 1) 1 (omega arith) (omega arith))

length_before : (b e : List ℤ) (n : ℕ) → n ≤ count b → length_up_to (b ++ e) n ≡ length_up_to b n
unfolding length_up_to
length_before b e zero h = refl
length_before b e (suc n) h = rw (length_before b e n (omega arith), leg_before b e n (omega arith))

-- the first points, measured as a buffer
pub first_measured : (b : List ℤ) (h : buffer_refusal b ≡ fine) (k : ℕ) → k ≤ count b → measure_of (take (numbers * k) b) ≡ Ok (length_up_to b k)
first_measured b h k l =
    let c = count_first b h k l in
    accepted_measured (take (numbers * k) b) (first_accepted b h k l) ∙
    rw c (ap (λ (n : ℕ). Ok n) (sym (length_before (take (numbers * k) b) (drop (numbers * k) b) k (omega arith)) ∙ rw (take-append-drop (numbers * k) b)))

module _ (b : List ℤ) (lat lon third : ℤ) (h : buffer_refusal b ≡ fine) where
  pub count_next : count (b ++ point_numbers lat lon third) ≡ suc (count b)
  count_next = omega (arith, length-append b (point_numbers lat lon third), (accepted b h).whole)

  pub part_next : (k : ℕ) → part_at (b ++ point_numbers lat lon third) (count b) k ≡ get_or (point_numbers lat lon third) k (pos 0)
  part_next k =
      let e : numbers * count b + k ≡ length b + k = omega (arith, (accepted b h).whole) in
      rw e (get_or-append-add b (point_numbers lat lon third) k (pos 0))

  pub length_next : length_up_to (b ++ point_numbers lat lon third) (count (b ++ point_numbers lat lon third))
      ≡ length_up_to b (count b) + leg_into (b ++ point_numbers lat lon third) (count b)
  unfolding length_up_to
  length_next = rw count_next (ap (λ (n : ℕ). n + leg_into (b ++ point_numbers lat lon third) (count b)) (length_before b (point_numbers lat lon third) (count b) (omega arith)))

-- the leg into the second of two further points
module _ (b : List ℤ) (lat lon third lat' lon' : ℤ) (h : buffer_refusal b ≡ fine) (k : buffer_refusal (b ++ point_numbers lat lon third) ≡ fine) where
  abbrev c : List ℤ
  c = b ++ point_numbers lat lon third

  pub leg_next : leg_into (c ++ point_numbers lat' lon' (pos 0)) (count c) ≡ leg_length lat lon lat' lon'
  unfolding leg_into
  leg_next =
      let e = count_next b lat lon third h in
      let i : count c - 1 ≡ count b = omega arith in
      let new = part_next c lat' lon' (pos 0) k in
      let old = part_before c (point_numbers lat' lon' (pos 0)) (count b) in
      rw (new 2, new 0, new 1, i, old 0 (omega arith) (omega arith), old 1 (omega arith) (omega arith), part_next b lat lon third h 0, part_next b lat lon third h 1)
