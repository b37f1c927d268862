-- How far from the middle a place can lie: what is worked out from it fits the machine's numbers, and a float holds it exactly.
-- Assumes nothing.
use Rattle.std.specs.Prelude.{◌≡◌, ◌+◌, ◌*◌, ◌^◌, ◌≤◌, T, ℕ, ℤ, pos, negsuc, nat_abs, ◌*ℤ◌, Ok}
use Rattle.std.proofs.Common.{mul-le-mul, arith, le→leb, lt→ltb, SFits}
use Rattle.std.specs.Float.{binary64}
use Rattle.std.specs.Float.Ieee.{in_float}
use Rattle.std.specs.Int.Signed.{quot_z}
use Rattle.std.specs.Int.{w64}
use Rattle.signed.specs.Sides.{above, below, one_side, size_sides, mul_above, mul_below, quot_above, quot_below}
use Rattle.signed.specs.Machine.{fits_of, quot_fits}
use Rattle.sines.specs.Sine.{short_unit}
use Rattle.globe.specs.Leg.{degree, degree_length}
use Rattle.globe.specs.declared.Place.{Place}
use Rattle.ticks.specs.Ticks.{is_latitude, is_longitude, offset_of}
use Rattle.refusals.specs.Tests.{and_true}
use Rattle.ticks.proofs.TickLaws.{latitude_size, offset_longitude}
use Rattle.globe.specs.Angle.{short_cosine}
use Rattle.globe.proofs.AngleLaws.{cosine_top}
use Rattle.globe.specs.Sheet.{sinusoid, place, sinusoidal_of}
use Rattle.globe.proofs.SheetLaws.{place_tells}
use Rattle.pen.specs.Position.{millimetres, across}
use Rattle.pen.specs.Reach.{furthest}
use Rattle.pen.specs.declared.Window.{Window}
use Rattle.pen.specs.Pen.{place_in}
use Rattle.pen.proofs.PenLaws.{placed_lem}

-- a whole number of size at most 2^53 is exact as a float
pub exact : (z : ℤ) → nat_abs z ≤ 2 ^ 53 → T (in_float binary64 z)
unfolding in_float
exact (pos n) h = le→leb n (2 ^ 53) h
exact (negsuc n) h = lt→ltb n (2 ^ 53) h

module _ (z : ℤ) where
  -- ticks of a sheet's x
  pub ticks_within : nat_abs z ≤ furthest * short_unit → nat_abs (quot_z z (pos short_unit)) ≤ furthest
  ticks_within h = omega (arith, size_sides z, size_sides (quot_z z (pos short_unit)), quot_above z short_unit, quot_below z short_unit)

  module _ (h : nat_abs z ≤ furthest) where
    pub product_fits : SFits w64 (z *ℤ pos degree_length)
    product_fits =
        let s = size_sides z in
        fits_of w64 (z *ℤ pos degree_length) (omega (arith, mul_above z degree_length)) (omega (arith, mul_below z degree_length))

    pub millimetres_fit : SFits w64 (millimetres z)
    millimetres_fit = quot_fits w64 _ product_fits

    pub millimetres_within : nat_abs (millimetres z) ≤ 2 ^ 53
    millimetres_within =
        let p = z *ℤ pos degree_length in
        omega (arith, size_sides z, size_sides (millimetres z), quot_above p degree, quot_below p degree, mul_above z degree_length, mul_below z degree_length)

pub across_within : (x : ℤ) → nat_abs x ≤ furthest * short_unit → nat_abs (across x) ≤ 2 ^ 53
across_within x h = millimetres_within (quot_z x (pos short_unit)) (ticks_within x h)

-- a point's place
pub place_within : (lat lon meridian : ℤ) {x y : ℤ} → sinusoidal_of lat lon meridian ≡ Ok (place x y)
    → (nat_abs x ≤ furthest * short_unit) × (nat_abs y ≤ furthest)
place_within lat lon meridian e =
    let t = place_tells sinusoid lat lon meridian e in
    let a = and_true (is_latitude lat) (is_longitude lon) t.1 in
    let d = offset_of lon meridian in
    let w = short_cosine lat in
    let o = offset_longitude lon meridian a.1 t.0 in
    let i = one_side d in
    let h : above d + below d ≤ furthest = omega arith in
    (rw t.2 (omega (arith, size_sides (d *ℤ pos w), mul_above d w, mul_below d w, mul-le-mul h (cosine_top lat))), rw t.3 (omega (arith, latitude_size lat a.0)))

-- what `across` and `along` ask of a place that a step may draw
module _ (w : Window) (divisor : ℕ) (meridian lat lon : ℤ) {p : Place} (e : place_in w divisor meridian lat lon ≡ Ok p) where
  pub across_asked : nat_abs p.x ≤ furthest * short_unit
  across_asked = (place_within lat lon meridian (placed_lem w divisor meridian lat lon e)).0

  pub along_asked : nat_abs p.y ≤ furthest
  along_asked = (place_within lat lon meridian (placed_lem w divisor meridian lat lon e)).1
