-- What is promised of sines, places and lengths, in the paper's own numbers. Demand 3 stands in SheetLaws.
-- Assumes nothing.
use Rattle.std.specs.Prelude.{◌≡◌, true, false, List, [], ◌++◌, ℤ, pos, negsuc, neg_ℤ, nat_abs, ◌-ℤ◌, ◌*ℤ◌, Result, Ok, Err}
use Rattle.std.proofs.Math.Path.{refl}
use Rattle.std.proofs.Common.{sym, ap, ◌∙◌, div-mul-le_self, le-leb, lt-ltb, leb-true, leb-false}
use Prim.Native.Nat.{ℕ, ◌+◌, ◌-◌, ◌*◌, ◌/◌, ◌≤◌, ◌<◌, min}
use Rattle.std.proofs.Math.Nat.{zero-div, lt-div-mul-add}
use native.Mathlib.Omega.{arith}
use Rattle.std.proofs.lemmas.Bool.{lt-leb}
use Rattle.std.proofs.Math.IntN.{neg_ℤ-neg_ℤ}
use Rattle.std.specs.Int.Signed.{lt_z, le_z, quot_z}
use Rattle.refusals.specs.declared.Refusal.{Refusal}
use Rattle.refusals.specs.declared.Refusal.TheVariants as R
use Rattle.refusals.specs.Refusal.{number}
use Rattle.refusals.specs.Choice.{Check, fine, sent, first_of, answered}
use Rattle.refusals.specs.Tests.{and_true, true_and, by_test, clash}
use Rattle.signed.specs.Sides.{quot_neg}
use Rattle.signed.specs.Sign.{sign_as}
use Rattle.roots.specs.Root.{root_of}
use Rattle.roots.proofs.RootLaws.{root_low, root_high}
use Rattle.sines.specs.Table.{entry}
use Rattle.sines.proofs.Rules.{growth, last}
use Rattle.sines.specs.Sine.{quarter, sine_by, long_sine, shortening, short_sine, quarter_halves, long_sine_half, leg_sine}
use Rattle.sines.specs.SineLaws.{between}
use Rattle.sines.proofs.SineLaws.{a_step, in_row, long_sine_zero, long_sine_quarter, some_halves, halves, long_sine_half_lt, long_sine_half_quarter}
use Rattle.sines.specs.Back.{greatest_angle}
use Rattle.sines.proofs.BackLaws.{greatest_angle_meets}
use Rattle.ticks.specs.Ticks.{is_latitude, is_longitude, is_angle, folded, accepted, offset_of, point_refusal, sheet_refusal}
use Rattle.ticks.proofs.TickLaws.{size_latitude, size_angle, latitude_angle, is_longitude_lem, offset_longitude, folded_latitude, folded_self, folded_supplement, angle_mirror, folded_mirror}
use Rattle.points.specs.Points.{point_numbers, count, thirds_fit, points_refusal, buffer_refusal}
use Rattle.points.proofs.PointLaws as B
use Rattle.globe.specs.declared.SineOut.{SineOut}
use Rattle.globe.specs.declared.Place.{Place}
use Rattle.globe.specs.declared.Point.{Point}
use Rattle.globe.specs.declared.LengthOut.{LengthOut}
use Rattle.globe.specs.Angle.{signed_long_sine, short_cosine, long_around, short_around, long_sine_of, short_sine_of, is_halves, long_sine_half_of}
use Rattle.globe.proofs.AngleLaws as A
use Rattle.globe.specs.Sheet.{Sheet, cylinder, sinusoid, place_of, cylindrical_of, sinusoidal_of}
use Rattle.globe.proofs.SheetLaws.{place_is, times_one}
use Rattle.globe.specs.Leg.{half_north, half_east, leg_cosine, cosines, chord, leg_length, leg_of}
use Rattle.globe.proofs.LegLaws as G
use Rattle.globe.specs.Measure.{leg_into, length_up_to, measure_of}
use Rattle.globe.proofs.MeasureLaws.{length_longest, accepted_measured, count_next, part_next, length_next, leg_next}
use Rattle.globe.specs.Demand.{there, no_place}
use Rattle.globe.specs.Paper.{sine_paper, place_paper, point_paper, length_paper}

-- ---- "A refusal gives zero in every value beside its number"

pub sine_zero : (v : Result ℤ Refusal) → ((sine_paper v).refusal ≡ 0 → ⊥) → (sine_paper v).value ≡ pos 0
sine_zero (Ok z) n = absurd (n refl)
sine_zero (Err r) n = refl

pub place_zero : (v : Result Place Refusal) → ((place_paper v).refusal ≡ 0 → ⊥) → ((place_paper v).x ≡ pos 0) × ((place_paper v).y ≡ pos 0)
place_zero (Ok p) n = absurd (n refl)
place_zero (Err r) n = (refl, refl)

pub point_zero : (v : Result Point Refusal) → ((point_paper v).refusal ≡ 0 → ⊥) → ((point_paper v).latitude ≡ pos 0) × ((point_paper v).longitude ≡ pos 0)
point_zero (Ok p) n = absurd (n refl)
point_zero (Err r) n = (refl, refl)

pub length_zero : (v : Result ℕ Refusal) → ((length_paper v).refusal ≡ 0 → ⊥) → (length_paper v).millimetres ≡ 0
length_zero (Ok l) n = absurd (n refl)
length_zero (Err r) n = refl

-- ---- sines

abbrev no_sine : Refusal → SineOut
no_sine r = record { refusal = number r; value = pos 0 }

abbrev a_sine : ℤ → SineOut
a_sine v = record { refusal = 0; value = v }

-- "6 for a sine only beyond 180 degrees"
pub long_refused : (a : ℤ) → is_angle a ≡ false → sine_paper (long_sine_of a) ≡ no_sine R.Latitude
unfolding long_sine_of
long_refused a h = rw h

pub short_refused : (a : ℤ) → is_angle a ≡ false → sine_paper (short_sine_of a) ≡ no_sine R.Latitude
unfolding short_sine_of
short_refused a h = rw h

long_is : (a : ℤ) → is_angle a ≡ true → sine_paper (long_sine_of a) ≡ a_sine (long_around a)
unfolding long_sine_of
long_is a h = rw h

short_is : (a : ℤ) → is_angle a ≡ true → sine_paper (short_sine_of a) ≡ a_sine (short_around a)
unfolding short_sine_of
short_is a h = rw h

pub long_accepted : (a : ℤ) → is_angle a ≡ true → (sine_paper (long_sine_of a)).refusal ≡ 0
long_accepted a h = rw (long_is a h)

pub short_accepted : (a : ℤ) → is_angle a ≡ true → (sine_paper (short_sine_of a)).refusal ≡ 0
short_accepted a h = rw (short_is a h)

-- "Points, sheets, lengths and reader stay as before": from -90 to 90 degrees the sines are those that the sheets take
pub long_as_before : (a : ℤ) → is_latitude a ≡ true → sine_paper (long_sine_of a) ≡ a_sine (signed_long_sine a)
long_as_before a h = long_is a (latitude_angle a h) ∙ ap (λ (z : ℤ). a_sine (signed_long_sine z)) (folded_self a h)

pub short_as_before : (a : ℤ) → is_latitude a ≡ true → sine_paper (short_sine_of a) ≡ a_sine (quot_z (signed_long_sine a) (pos shortening))
short_as_before a h = short_is a (latitude_angle a h) ∙ ap (λ (z : ℤ). a_sine (quot_z (signed_long_sine z) (pos shortening))) (folded_self a h)

-- "beyond 90, the sine of 180 less the angle"
module _ (a : ℕ) (h : a ≤ 1_800_000_000) where
  abbrev less : ℤ
  less = pos (1_800_000_000 - a)

  both : (is_angle less ≡ true) × (is_angle (pos a) ≡ true)
  both = (size_angle less (omega arith), size_angle (pos a) h)

  pub long_supplement : sine_paper (long_sine_of less) ≡ sine_paper (long_sine_of (pos a))
  long_supplement = long_is less both.0 ∙ ap (λ (z : ℤ). a_sine (signed_long_sine z)) (folded_supplement a h) ∙ sym (long_is (pos a) both.1)

  pub short_supplement : sine_paper (short_sine_of less) ≡ sine_paper (short_sine_of (pos a))
  short_supplement =
      short_is less both.0 ∙ ap (λ (z : ℤ). a_sine (quot_z (signed_long_sine z) (pos shortening))) (folded_supplement a h) ∙ sym (short_is (pos a) both.1)

-- of 180 degrees it is 0, whichever way round
pub long_180 : (sine_paper (long_sine_of (pos 1_800_000_000)) ≡ a_sine (pos 0)) × (sine_paper (long_sine_of (neg_ℤ (pos 1_800_000_000))) ≡ a_sine (pos 0))
unfolding folded
long_180 =
    let none = ap (λ (n : ℕ). a_sine (pos n)) long_sine_zero in
    (long_is (pos 1_800_000_000) refl ∙ none, long_is (neg_ℤ (pos 1_800_000_000)) refl ∙ none)

-- "entry k plus the floor of f × (entry k+1 - entry k) / 200,000", without a division or a difference, for any number s of units from one entry to the next
abbrev Between : ℕ → ℕ → ℕ → ℕ → Type 0
Between s k f v = (s * v + f * entry k ≤ s * entry k + f * entry (k + 1)) × (s * entry k + f * entry (k + 1) < s * v + s + f * entry k)

sine_between : {s k f : ℕ} → 0 < s → k < 4_500 → f < s → Between s k f (sine_by s (k * s + f))
unfolding between
sine_between {s} {k} {f} p h l =
    let gap = entry (k + 1) - entry k in
    let g : entry (k + 1) ≡ entry k + gap = omega (arith, growth k h) in
    let e = ap (λ (n : ℕ). f * n) g in
    let low = div-mul-le_self (f * gap) s in
    let high = lt-div-mul-add {a = f * gap} {b = s} p in
    rw (in_row p k l) (omega arith, omega arith)

pub long_between : (k f : ℕ) → k < 4_500 → f < 200_000 → let s = sine_paper (long_sine_of (pos (k * 200_000 + f))) in let v = nat_abs s.value in
    (s.value ≡ pos v) × Between 200_000 k f v
long_between k f h l = rw (long_as_before (pos (k * 200_000 + f)) (size_latitude (pos (k * 200_000 + f)) (omega arith))) (refl, sine_between a_step h l)

-- "at 90 degrees the last entry"
pub long_90 : sine_paper (long_sine_of (pos 900_000_000)) ≡ record { refusal = 0; value = pos (entry 4_500) }
long_90 = long_as_before (pos 900_000_000) refl ∙ rw (long_sine_quarter, last)

-- "Long sine lies within ±10^13 and is strictly increasing over ticks."
pub long_within : (a : ℤ) → nat_abs (sine_paper (long_sine_of a)).value ≤ 10_000_000_000_000
long_within a = by_test (is_angle a) (λ h. rw (long_is a h) (A.long_within (folded a) (folded_latitude a h))) (λ h. rw (long_refused a h) (omega arith))

pub long_rising : (a b : ℤ) → is_latitude a ≡ true → is_latitude b ≡ true → lt_z a b ≡ true
    → lt_z (sine_paper (long_sine_of a)).value (sine_paper (long_sine_of b)).value ≡ true
long_rising a b h k t = rw (long_as_before a h, long_as_before b k) (A.long_rising a b h k t)

-- "A negative angle gives the negative of its opposite."
mirror : (a : ℤ) → is_angle (neg_ℤ a) ≡ is_angle a
mirror a =
    by_test (is_angle a) (λ t. angle_mirror a t ∙ sym t)
    (λ f. by_test (is_angle (neg_ℤ a)) (λ t. clash (rw (neg_ℤ-neg_ℤ a) at (angle_mirror (neg_ℤ a) t)) f) (λ g. g ∙ sym f))

pub long_odd : (a : ℤ) → (sine_paper (long_sine_of (neg_ℤ a))).value ≡ neg_ℤ (sine_paper (long_sine_of a)).value
long_odd a =
    by_test (is_angle a) (λ h. rw (long_is a h, long_is (neg_ℤ a) (mirror a ∙ h), folded_mirror a h) (A.sine_mirror (folded a)))
    (λ h. rw (long_refused a h, long_refused (neg_ℤ a) (mirror a ∙ h)))

of_long : (a : ℤ) → (sine_paper (short_sine_of a)).value ≡ quot_z (sine_paper (long_sine_of a)).value (pos shortening)
unfolding long_sine_of short_sine_of
of_long a = by_test (is_angle a) (λ h. rw h) (λ h. rw h (ap pos (sym (zero-div shortening))))

pub short_odd : (a : ℤ) → (sine_paper (short_sine_of (neg_ℤ a))).value ≡ neg_ℤ (sine_paper (short_sine_of a)).value
short_odd a =
    of_long (neg_ℤ a)
    ∙ ap (λ (z : ℤ). quot_z z (pos shortening)) (long_odd a)
    ∙ quot_neg (sine_paper (long_sine_of a)).value shortening
    ∙ ap neg_ℤ (sym (of_long a))

-- "long sine divided by 10,000, dropping toward zero": its size is, and it keeps its sign
pub short_drops : (a : ℤ) → let v = (sine_paper (long_sine_of a)).value in (sine_paper (short_sine_of a)).value ≡ sign_as v (nat_abs v / 10_000)
short_drops a = of_long a ∙ by_size (sine_paper (long_sine_of a)).value
  where
    by_size : (z : ℤ) → quot_z z (pos shortening) ≡ sign_as z (nat_abs z / 10_000)
    by_size (pos n) = refl
    by_size (negsuc n) = refl

-- ---- long sines in half ticks

-- "from 0 to 90 degrees in half ticks (6 outside)"
pub half_refused : (a : ℤ) → is_halves a ≡ false → sine_paper (long_sine_half_of a) ≡ no_sine R.Latitude
unfolding long_sine_half_of
half_refused a h = rw h

half_is : (a : ℕ) → a ≤ 1_800_000_000 → sine_paper (long_sine_half_of (pos a)) ≡ a_sine (pos (long_sine_half a))
unfolding long_sine_half_of
half_is a h = rw (le-leb 0 a (omega arith), le-leb a 1_800_000_000 h)

pub half_accepted : (a : ℕ) → a ≤ 1_800_000_000 → (sine_paper (long_sine_half_of (pos a))).refusal ≡ 0
half_accepted a h = rw (half_is a h)

pub half_below_0 : (n : ℕ) → sine_paper (long_sine_half_of (negsuc n)) ≡ no_sine R.Latitude
half_below_0 n = half_refused (negsuc n) refl

pub half_past_90 : (a : ℕ) → 1_800_000_000 < a → sine_paper (long_sine_half_of (pos a)) ≡ no_sine R.Latitude
half_past_90 a h = half_refused (pos a) (rw (le-leb 0 a (omega arith)) (lt-leb a 1_800_000_000 h))

-- two half ticks are a tick
pub half_of_tick : (a : ℕ) → a ≤ 900_000_000 → sine_paper (long_sine_half_of (pos (2 * a))) ≡ sine_paper (long_sine_of (pos a))
half_of_tick a h =
    half_is (2 * a) (omega arith)
    ∙ ap (λ (n : ℕ). a_sine (pos n)) (halves a)
    ∙ sym (long_as_before (pos a) (size_latitude (pos a) h))

-- "with step 400,000 and the same table"
pub half_between : (k f : ℕ) → k < 4_500 → f < 400_000 → let s = sine_paper (long_sine_half_of (pos (k * 400_000 + f))) in let v = nat_abs s.value in
    (s.value ≡ pos v) × Between 400_000 k f v
half_between k f h l = rw (half_is (k * 400_000 + f) (omega arith)) (refl, sine_between some_halves h l)

-- it is strictly increasing over half ticks too
pub half_rising : (a b : ℕ) → a < b → b ≤ 1_800_000_000 → lt_z (sine_paper (long_sine_half_of (pos a))).value (sine_paper (long_sine_half_of (pos b))).value ≡ true
half_rising a b h l = rw (half_is a (omega arith), half_is b l) (lt-ltb _ _ (long_sine_half_lt h l))

pub half_90 : sine_paper (long_sine_half_of (pos 1_800_000_000)) ≡ record { refusal = 0; value = pos (entry 4_500) }
half_90 = half_is 1_800_000_000 (omega arith) ∙ rw (long_sine_half_quarter, last)

-- ---- places

-- the short sine that is answered for an angle from 0 to 90 degrees
abbrev short_at : ℕ → ℤ
short_at a = (sine_paper (short_sine_of (pos a))).value

short_at_is : (a : ℕ) → a ≤ quarter → short_at a ≡ pos (short_sine a)
short_at_is a h = ap (λ (s : SineOut). s.value) (short_as_before (pos a) (size_latitude (pos a) h))

cosine_is : (lat : ℤ) → short_at (quarter - nat_abs lat) ≡ pos (short_cosine lat)
unfolding short_cosine
cosine_is lat = short_at_is (quarter - nat_abs lat) (omega arith)

-- "The short cosine is at least 1 everywhere off the poles."
pub cosine_off_poles : (lat : ℤ) → nat_abs lat < quarter → le_z (pos 1) (short_at (quarter - nat_abs lat)) ≡ true
cosine_off_poles lat h = rw (cosine_is lat) (A.cosine_test lat h)

-- "x = offset in ticks; y = long sine of the latitude"
pub cylindrical_place : (lat lon meridian : ℤ) → is_longitude meridian ≡ true → accepted lat lon ≡ true
    → place_paper (cylindrical_of lat lon meridian) ≡ there (offset_of lon meridian) (sine_paper (long_sine_of lat)).value
cylindrical_place lat lon meridian m h =
    rw (place_is cylinder lat lon meridian m h, times_one (offset_of lon meridian), long_as_before lat (and_true (is_latitude lat) (is_longitude lon) h).0)

-- "x = offset × short cosine, nothing dropped; y = latitude in ticks"; the cosine is "the sine .. of 90 degrees less its size"
pub sinusoidal_place : (lat lon meridian : ℤ) → is_longitude meridian ≡ true → accepted lat lon ≡ true
    → place_paper (sinusoidal_of lat lon meridian) ≡ there (offset_of lon meridian *ℤ short_at (quarter - nat_abs lat)) lat
sinusoidal_place lat lon meridian m h = rw (place_is sinusoid lat lon meridian m h, cosine_is lat)

-- "Sheets: 14, 6, 7.": 14 is Demand3's
pub sheet_6 : (s : Sheet) (lat lon meridian : ℤ) → is_longitude meridian ≡ true → is_latitude lat ≡ false → place_paper (place_of s lat lon meridian) ≡ no_place R.Latitude
unfolding place_of sheet_refusal point_refusal
sheet_6 s lat lon meridian m h = rw (m, h)

pub sheet_7 : (s : Sheet) (lat lon meridian : ℤ) → is_longitude meridian ≡ true → is_latitude lat ≡ true → is_longitude lon ≡ false
    → place_paper (place_of s lat lon meridian) ≡ no_place R.Longitude
unfolding place_of sheet_refusal point_refusal
sheet_7 s lat lon meridian m h k = rw (m, h, k)

-- ---- a leg

abbrev no_length : Refusal → LengthOut
no_length r = record { refusal = number r; millimetres = 0 }

-- "Length: 6 and 7 of the first point, then of the second."
module _ (lat lon lat' lon' : ℤ) where
  abbrev leg : LengthOut
  leg = length_paper (leg_of lat lon lat' lon')

  pub leg_6 : is_latitude lat ≡ false → leg ≡ no_length R.Latitude
  unfolding leg_of point_refusal
  leg_6 h = rw h

  pub leg_7 : is_latitude lat ≡ true → is_longitude lon ≡ false → leg ≡ no_length R.Longitude
  unfolding leg_of point_refusal
  leg_7 h k = rw (h, k)

  module _ (first : accepted lat lon ≡ true) where
    pub leg_second_6 : is_latitude lat' ≡ false → leg ≡ no_length R.Latitude
    unfolding leg_of point_refusal
    leg_second_6 h = let p = and_true (is_latitude lat) (is_longitude lon) first in rw (p.0, p.1, h)

    pub leg_second_7 : is_latitude lat' ≡ true → is_longitude lon' ≡ false → leg ≡ no_length R.Longitude
    unfolding leg_of point_refusal
    leg_second_7 h k = let p = and_true (is_latitude lat) (is_longitude lon) first in rw (p.0, p.1, h, k)

    leg_is : accepted lat' lon' ≡ true → leg ≡ record { refusal = 0; millimetres = leg_length lat lon lat' lon' }
    unfolding leg_of point_refusal
    leg_is second =
        let p = and_true (is_latitude lat) (is_longitude lon) first in
        let q = and_true (is_latitude lat') (is_longitude lon') second in
        rw (p.0, p.1, q.0, q.1)

    pub leg_accepted : accepted lat' lon' ≡ true → leg.refusal ≡ 0
    leg_accepted second = ap (λ (l : LengthOut). l.refusal) (leg_is second)

  -- no leg is longer than half a turn
  pub longest_leg_lem : leg.millimetres ≤ 20_015_086_860
  unfolding leg_of
  longest_leg_lem = go (first_of (point_refusal lat lon) (point_refusal lat' lon')) (G.longest lat lon lat' lon')
    where
      go : (c : Check) {l : ℕ} → l ≤ 20_015_086_860 → (length_paper (answered c l)).millimetres ≤ 20_015_086_860
      go (Ok x) h = h
      go (Err r) h = omega arith

-- "Both directions of a leg have one length."
pub both_ways : (lat lon lat' lon' : ℤ) → accepted lat lon ≡ true → accepted lat' lon' ≡ true → length_paper (leg_of lat lon lat' lon') ≡ length_paper (leg_of lat' lon' lat lon)
both_ways lat lon lat' lon' p q = rw (leg_is lat lon lat' lon' p q, leg_is lat' lon' lat lon q p, G.both_ways lat lon lat' lon')

-- a leg from a point to itself
pub same_point : (lat lon : ℤ) → accepted lat lon ≡ true → length_paper (leg_of lat lon lat lon) ≡ record { refusal = 0; millimetres = 0 }
same_point lat lon p = rw (leg_is lat lon lat lon p p, G.same_point lat lon)

-- where the latitudes differ a leg has at least 11 mm: so "a leg of at least one tick along a meridian is never 0"
pub north_some : (lat lon lat' lon' : ℤ) → accepted lat lon ≡ true → accepted lat' lon' ≡ true → 0 < nat_abs (lat -ℤ lat')
    → 11 ≤ (length_paper (leg_of lat lon lat' lon')).millimetres
north_some lat lon lat' lon' a b n =
    rw (leg_is lat lon lat' lon' a b)
    (G.north_some lat lon lat' lon' (and_true (is_latitude lat) (is_longitude lon) a).0 (and_true (is_latitude lat') (is_longitude lon') b).0 n)

-- and up to 110 degrees along a meridian it is as long as its latitudes lie apart: each step of n ticks counts, as n ticks
pub north_exact : (lat lon lat' : ℤ) → accepted lat lon ≡ true → accepted lat' lon ≡ true → nat_abs (lat -ℤ lat') ≤ 1_100_000_000
    → (length_paper (leg_of lat lon lat' lon)).millimetres ≡ nat_abs (lat -ℤ lat') * 111_194_927 / 10_000_000
north_exact lat lon lat' a b h = rw (leg_is lat lon lat' lon a b) (G.north_exact lat lon lat' h)

-- the long sines that are answered, for an angle in half ticks and for 90 degrees less a latitude's size
abbrev half_at : ℕ → ℕ
half_at a = nat_abs (sine_paper (long_sine_half_of (pos a))).value

half_at_is : (a : ℕ) → a ≤ quarter_halves → half_at a ≡ long_sine_half a
half_at_is a h = ap (λ (s : SineOut). nat_abs s.value) (half_is a h)

abbrev long_cosine_at : ℤ → ℕ
long_cosine_at lat = nat_abs (sine_paper (long_sine_of (pos (quarter - nat_abs lat)))).value

long_cosine_at_is : (lat : ℤ) → long_cosine_at lat ≡ long_sine (quarter - nat_abs lat)
long_cosine_at_is lat = let a = quarter - nat_abs lat in ap (λ (s : SineOut). nat_abs s.value) (long_as_before (pos a) (size_latitude (pos a) (omega arith)))

-- "the long ones divided by 5,000": what that says of a long sine and a short one
pub record Shortened (long short : ℕ) : Type 0 where
  pub low : 5_000 * short ≤ long
  pub high : long < 5_000 * short + 5_000

shortened : (long : ℕ) → Shortened long (long / 5_000)
shortened long = record { low = omega arith; high = omega arith }

-- "Length of a leg", sentence by sentence and without a division
pub record IsLeg (lat lon lat' lon' : ℤ) (length : ℕ) : Type 0 where
  pub c : ℕ
  pub c' : ℕ
  pub a : ℕ
  pub b : ℕ
  pub m : ℕ
  pub h : ℕ
  pub r : ℕ
  pub u : ℕ
  -- "short sines and cosines are the long ones divided by 5,000": of the two latitudes,
  pub cosine : Shortened (long_cosine_at lat) c
  pub cosine' : Shortened (long_cosine_at lat') c'
  -- of p, "half the size of the latitude difference", in half ticks,
  pub sine_p : Shortened (half_at (nat_abs (lat -ℤ lat'))) a
  -- and of q, "half of the smaller of d and 3,600,000,000 - d .., where d is the size of the longitude difference"
  pub sine_q : Shortened (half_at (min (nat_abs (lon -ℤ lon')) (3_600_000_000 - nat_abs (lon -ℤ lon')))) b
  -- "the product of the two short cosines divided by" 2×10^9, "floored"
  pub m_low : 2_000_000_000 * m ≤ c * c'
  pub m_high : c * c' < 2_000_000_000 * m + 2_000_000_000
  -- "H = (short sine of p)² + floor(m × (short sine of q)² / " 2×10^9 "), the last product exact before the division"
  pub h_low : 2_000_000_000 * h ≤ 2_000_000_000 * (a * a) + m * (b * b)
  pub h_high : 2_000_000_000 * (a * a) + m * (b * b) < 2_000_000_000 * h + 2_000_000_000
  -- "the greatest whole number whose square is at most H"
  pub r_low : r * r ≤ h
  pub r_high : h < (r + 1) * (r + 1)
  -- "the greatest angle from 0 to 90 degrees whose short sine is at most r", "sought in half ticks"
  pub u_inside : u ≤ 1_800_000_000
  pub u_low : half_at u < 5_000 * (r + 1)
  pub u_high : (v : ℕ) → u < v → v ≤ 1_800_000_000 → 5_000 * (r + 1) ≤ half_at v
  -- "the arc is u ticks", "Its length is arc × 111,194,927 / 10,000,000 millimetres, floored."
  pub length_low : 10_000_000 * length ≤ u * 111_194_927
  pub length_high : u * 111_194_927 < 10_000_000 * length + 10_000_000

pub leg_by_rule : (lat lon lat' lon' : ℤ) → accepted lat lon ≡ true → accepted lat' lon' ≡ true
    → IsLeg lat lon lat' lon' (length_paper (leg_of lat lon lat' lon')).millimetres
unfolding leg_length leg_cosine
leg_by_rule lat lon lat' lon' x y =
    let p = half_north lat lat' in
    let q = half_east lon lon' in
    let m = cosines lat lat' in
    let h = chord m p q in
    let r = root_of h in
    let u = greatest_angle r in
    let g = greatest_angle_meets r in
    let l = (and_true (is_latitude lat) (is_longitude lon) x).0 in
    let l' = (and_true (is_latitude lat') (is_longitude lon') y).0 in
    rw (leg_is lat lon lat' lon' x y)
    (record {
      c = leg_cosine lat;
      c' = leg_cosine lat';
      a = leg_sine p;
      b = leg_sine q;
      m = m;
      h = h;
      r = r;
      u = u;
      cosine = rw (long_cosine_at_is lat) (shortened _);
      cosine' = rw (long_cosine_at_is lat') (shortened _);
      sine_p = rw (half_at_is p (G.north_top lat lat' l l')) (shortened _);
      sine_q = rw (half_at_is q (G.east_top lon lon')) (shortened _);
      m_low = omega arith;
      m_high = omega arith;
      h_low = omega arith;
      h_high = omega arith;
      r_low = root_low h;
      r_high = root_high h;
      u_inside = g.inside;
      u_low = omega (arith, half_at_is u g.inside, leb-true (leg_sine u) r g.holds);
      u_high = λ v n k. omega (arith, half_at_is v k, leb-false (leg_sine v) r (g.later v n k));
      length_low = omega arith;
      length_high = omega arith;
    })

-- "Taking longitude differences without the turn" is refused: longitudes may be counted from any meridian
pub from_any_meridian : (lat lon lat' lon' meridian : ℤ) → accepted lat lon ≡ true → accepted lat' lon' ≡ true → is_longitude meridian ≡ true
    → length_paper (leg_of lat (offset_of lon meridian) lat' (offset_of lon' meridian)) ≡ length_paper (leg_of lat lon lat' lon')
from_any_meridian lat lon lat' lon' meridian a b m =
    let p = and_true (is_latitude lat) (is_longitude lon) a in
    let q = and_true (is_latitude lat') (is_longitude lon') b in
    let o = is_longitude_lem (offset_of lon meridian) (offset_longitude lon meridian p.1 m) in
    let o' = is_longitude_lem (offset_of lon' meridian) (offset_longitude lon' meridian q.1 m) in
    rw (leg_is lat (offset_of lon meridian) lat' (offset_of lon' meridian) (true_and p.0 o) (true_and q.0 o'), leg_is lat lon lat' lon' a b, G.offset_length lat lon lat' lon' meridian p.1 q.1 m)

-- ---- a point buffer

module _ (b : List ℤ) where
  -- its refusals are the buffer's own
  pub measure_refusal : (length_paper (measure_of b)).refusal ≡ sent (buffer_refusal b)
  unfolding measure_of
  measure_refusal = go (buffer_refusal b) (length_up_to b (count b))
    where
      go : (c : Check) (l : ℕ) → (length_paper (answered c l)).refusal ≡ sent c
      go (Ok x) l = refl
      go (Err r) l = refl

  pub longest_route : (length_paper (measure_of b)).millimetres ≤ count b * 20_015_086_860
  unfolding measure_of
  longest_route = go (buffer_refusal b) (count b) (length_longest b (count b))
    where
      go : (c : Check) (k : ℕ) {l : ℕ} → l ≤ k * 20_015_086_860 → (length_paper (answered c l)).millimetres ≤ k * 20_015_086_860
      go (Ok x) k h = h
      go (Err r) k h = omega arith

-- no points have length 0
pub measure_none : length_paper (measure_of []) ≡ record { refusal = 0; millimetres = 0 }
unfolding measure_of buffer_refusal length_up_to thirds_fit points_refusal
measure_none = refl

-- "the leg into the next point not counted" where the pen was up
pub measure_raised : (b : List ℤ) (lat lon : ℤ) → let c = b ++ point_numbers lat lon (pos 1) in
    buffer_refusal b ≡ fine → buffer_refusal c ≡ fine → length_paper (measure_of c) ≡ length_paper (measure_of b)
unfolding leg_into
measure_raised b lat lon h k =
    rw (accepted_measured b h, accepted_measured (b ++ point_numbers lat lon (pos 1)) k, length_next b lat lon (pos 1) h, part_next b lat lon (pos 1) h 2)
    (ap (λ (n : ℕ). record { refusal = 0; millimetres = n }) (omega arith))

point_in : (b : List ℤ) (lat lon third : ℤ) → buffer_refusal b ≡ fine → buffer_refusal (b ++ point_numbers lat lon third) ≡ fine → accepted lat lon ≡ true
point_in b lat lon third h k =
    let p = B.point_of_lem (b ++ point_numbers lat lon third) k (count b) (omega (arith, count_next b lat lon third h)) in
    true_and (rw (part_next b lat lon third h 0) at p.latitude) (rw (part_next b lat lon third h 1) at p.longitude)

-- and counted where it was down
pub measure_drawn : (b : List ℤ) (lat lon third lat' lon' : ℤ) → let c = b ++ point_numbers lat lon third in let d = c ++ point_numbers lat' lon' (pos 0) in
    buffer_refusal b ≡ fine → buffer_refusal c ≡ fine → buffer_refusal d ≡ fine
    → (length_paper (measure_of d)).millimetres ≡ (length_paper (measure_of c)).millimetres + (length_paper (leg_of lat lon lat' lon')).millimetres
measure_drawn b lat lon third lat' lon' h k l =
    let c = b ++ point_numbers lat lon third in
    let p = point_in b lat lon third h k in
    let q = point_in c lat' lon' (pos 0) k l in
    rw (accepted_measured c k, accepted_measured (c ++ point_numbers lat' lon' (pos 0)) l, leg_is lat lon lat' lon' p q, length_next c lat' lon' (pos 0) k, leg_next b lat lon third lat' lon' h k)
