-- Laws of a course: the sizes of its parts, which products fit, and what each part is at the ends of its range and mirrored.
-- Assumes nothing.
use Rattle.std.specs.Prelude.{◌≡◌, true, ℕ, ◌-◌, ◌*◌, ◌≤◌, min, ℤ, neg_ℤ, nat_abs, ◌-ℤ◌, ◌*ℤ◌}
use Rattle.std.proofs.Common.{sym, ap₂, ◌∙◌, ⊎_elim, lt_of_not-le, mul-le-mul, arith, SFits}
use Rattle.std.proofs.Math.Path.{ap}
use Rattle.std.proofs.Math.Nat.{div-le_of_le-mul}
use Rattle.std.proofs.Math.Decide.{dec_le}
use Rattle.std.proofs.Math.IntN.{pos, +ℤ_idr, +ℤ_invr, *ℤ-zero, zero-*ℤ, *ℤ_comm}
use Rattle.std.specs.Int.Signed.{quot_z}
use Rattle.std.specs.Int.{w64}
use Rattle.signed.specs.Sides.{one_side, same, sub_sides, size_sides, quot_mul, quot_neg, neg_mul, size_neg, size_mul, size_quot, size_sub}
use Rattle.signed.specs.Machine.{small_fits}
use Rattle.sines.specs.Sine.{quarter, shortening, short_unit, short_sine}
use Rattle.sines.proofs.SineLaws.{long_sine_zero, long_sine_quarter}
use Rattle.sines.specs.SlopeLaws.{most_size}
use Rattle.ticks.specs.Ticks.{half, is_latitude, is_longitude, is_angle, folded, offset_of}
use Rattle.ticks.proofs.TickLaws.{latitude_size, size_latitude, angle_size, size_angle, latitude_angle, offset_longitude, offset_mirror, folded_latitude, folded_self, folded_supplement, folded_mirror}
use Rattle.globe.specs.Angle.{signed_long_sine, short_cosine, long_around, short_around}
use Rattle.globe.proofs.AngleLaws.{cosine_top, long_within, sine_mirror}
use Rattle.globe.specs.Course.{over, offset_cosine, eastward, northward}

-- ---- short sines and cosines

pub around_top : (a : ℤ) → is_angle a ≡ true → nat_abs (short_around a) ≤ short_unit
around_top a h = rw (size_quot (long_around a) shortening) (omega (arith, long_within (folded a) (folded_latitude a h)))

-- from 0 to 90 degrees it is the sine of a size
pub around_size : (a : ℕ) → a ≤ quarter → short_around (pos a) ≡ pos (short_sine a)
around_size a h = ap (λ (z : ℤ). quot_z (signed_long_sine z) (pos shortening)) (folded_self (pos a) (size_latitude (pos a) h))

-- "90 degrees less its size"
pub less_latitude : (a : ℤ) → is_angle a ≡ true → is_latitude (pos quarter -ℤ pos (nat_abs a)) ≡ true
less_latitude a h =
    let d = pos quarter -ℤ pos (nat_abs a) in
    size_latitude d (omega (arith, angle_size a h, sub_sides (pos quarter) (pos (nat_abs a)), size_sides d, one_side d))

pub offset_cosine_top : (a : ℤ) → is_angle a ≡ true → nat_abs (offset_cosine a) ≤ short_unit
unfolding offset_cosine
offset_cosine_top a h = let d = pos quarter -ℤ pos (nat_abs a) in around_top d (latitude_angle d (less_latitude a h))

-- of a latitude it is the latitude's own
pub offset_cosine_latitude : (lat : ℤ) → is_latitude lat ≡ true → offset_cosine lat ≡ pos (short_cosine lat)
unfolding offset_cosine short_cosine
offset_cosine_latitude lat h =
    let d = pos quarter -ℤ pos (nat_abs lat) in
    let e : d ≡ pos (quarter - nat_abs lat) = same d (pos (quarter - nat_abs lat)) (omega (arith, latitude_size lat h, sub_sides (pos quarter) (pos (nat_abs lat)))) in
    ap short_around e ∙ around_size (quarter - nat_abs lat) (omega arith)

-- ---- products over 10^9

module _ (a b : ℤ) (h : nat_abs a ≤ short_unit) (k : nat_abs b ≤ short_unit) where
  square : nat_abs (a *ℤ b) ≤ short_unit * short_unit
  square = rw (size_mul a b) (mul-le-mul h k)

  pub product_fits : SFits w64 (a *ℤ b)
  product_fits = small_fits w64 (a *ℤ b) (omega (arith, square))

  over_top : nat_abs (over (a *ℤ b)) ≤ short_unit
  over_top = rw (size_quot (a *ℤ b) short_unit) (div-le_of_le-mul short_unit square)

  pub over_fits : SFits w64 (over (a *ℤ b))
  over_fits = small_fits w64 (over (a *ℤ b)) (omega (arith, over_top))

-- ---- N and D

pub east_top : (lat' offset : ℤ) → is_angle offset ≡ true → nat_abs (eastward lat' offset) ≤ most_size
unfolding eastward
east_top lat' offset h = omega (arith, over_top (pos (short_cosine lat')) (short_around offset) (cosine_top lat') (around_top offset h))

module _ (lat lat' offset : ℤ) (h : is_latitude lat ≡ true) (k : is_latitude lat' ≡ true) (l : is_angle offset ≡ true) where
  pub back_top : nat_abs (over (short_around lat *ℤ pos (short_cosine lat'))) ≤ short_unit
  back_top = over_top (short_around lat) (pos (short_cosine lat')) (around_top lat (latitude_angle lat h)) (cosine_top lat')

  pub north_top : nat_abs (northward lat lat' offset) ≤ most_size
  unfolding northward
  north_top =
      let a = over (pos (short_cosine lat) *ℤ short_around lat') in
      let b = over (short_around lat *ℤ pos (short_cosine lat')) in
      let i = over_top (pos (short_cosine lat)) (short_around lat') (cosine_top lat) (around_top lat' (latitude_angle lat' k)) in
      let j = over_top b (offset_cosine offset) back_top (offset_cosine_top offset l) in
      omega (arith, size_sub a (over (b *ℤ offset_cosine offset)))

  pub north_fits : SFits w64 (northward lat lat' offset)
  north_fits = small_fits w64 (northward lat lat' offset) (omega (arith, north_top))

pub offset_angle : (lon lon' : ℤ) → is_longitude lon ≡ true → is_longitude lon' ≡ true → is_angle (offset_of lon' lon) ≡ true
offset_angle lon lon' p q =
    let o = offset_of lon' lon in
    size_angle o (omega (arith, offset_longitude lon' lon q p, size_sides o, one_side o))

-- ---- on the equator, and from it

around_none : short_around (pos 0) ≡ pos 0
around_none = around_size 0 (omega arith) ∙ rw long_sine_zero

-- up to half a turn to the east the sine is that of the smaller of the offset and what it lacks to half a turn
pub around_east : (o : ℕ) → o ≤ half → short_around (pos o) ≡ pos (short_sine (min o (half - o)))
around_east o h = go (dec_le o quarter)
  where
    go : Dec (o ≤ quarter) → short_around (pos o) ≡ pos (short_sine (min o (half - o)))
    go (yes l) =
        let e : min o (half - o) ≡ o = omega arith in
        around_size o l ∙ ap (λ (n : ℕ). pos (short_sine n)) (sym e)
    go (no l) =
        let g = lt_of_not-le l in
        let e : min o (half - o) ≡ half - o = omega arith in
        let s : half - (half - o) ≡ o = omega arith in
        ap (λ (z : ℤ). quot_z (signed_long_sine z) (pos shortening)) (ap (λ (n : ℕ). folded (pos n)) (sym s) ∙ folded_supplement (half - o) (omega arith))
        ∙ around_size (half - o) (omega arith)
        ∙ ap (λ (n : ℕ). pos (short_sine n)) (sym e)

around_half : short_around (neg_ℤ (pos half)) ≡ pos 0
unfolding folded
around_half = rw long_sine_zero

pub around_mirror : (a : ℤ) → is_angle a ≡ true → short_around (neg_ℤ a) ≡ neg_ℤ (short_around a)
around_mirror a h =
    ap (λ (z : ℤ). quot_z (signed_long_sine z) (pos shortening)) (folded_mirror a h)
    ∙ ap (λ (z : ℤ). quot_z z (pos shortening)) (sine_mirror (folded a))
    ∙ quot_neg (signed_long_sine (folded a)) shortening

-- a factor of 10^9 goes over 10^9
over_unit : (s : ℤ) → over (pos short_unit *ℤ s) ≡ s
over_unit s = ap over (*ℤ_comm (pos short_unit) s) ∙ quot_mul s (omega arith)

over_none : (s : ℤ) → over (pos 0 *ℤ s) ≡ pos 0
over_none s = ap over (zero-*ℤ s)

equator_cosine : short_cosine (pos 0) ≡ short_unit
unfolding short_cosine
equator_cosine = rw long_sine_quarter

pub equator_east : (offset : ℤ) → eastward (pos 0) offset ≡ short_around offset
unfolding eastward
equator_east offset = rw equator_cosine (over_unit (short_around offset))

pub from_equator : (lat' offset : ℤ) → northward (pos 0) lat' offset ≡ short_around lat'
unfolding northward
from_equator lat' offset =
    let u : over (pos (short_cosine (pos 0)) *ℤ short_around lat') ≡ short_around lat' = rw equator_cosine (over_unit (short_around lat')) in
    let v : over (over (short_around (pos 0) *ℤ pos (short_cosine lat')) *ℤ offset_cosine offset) ≡ pos 0
    = rw (around_none, over_none (pos (short_cosine lat')), over_none (offset_cosine offset)) in
    ap₂ (λ (x y : ℤ). x -ℤ y) u v ∙ +ℤ_idr (short_around lat')

-- ---- without an offset

pub no_east : (lat : ℤ) → eastward lat (pos 0) ≡ pos 0
unfolding eastward
no_east lat = rw around_none (ap over (*ℤ-zero (pos (short_cosine lat))))

pub no_north : (lat : ℤ) → northward lat lat (pos 0) ≡ pos 0
unfolding northward offset_cosine
no_north lat =
    let q = over (short_around lat *ℤ pos (short_cosine lat)) in
    let e : over (q *ℤ short_around (pos quarter)) ≡ q = rw (around_size quarter (omega arith), long_sine_quarter) (quot_mul q (omega arith)) in
    ap₂ (λ (x y : ℤ). x -ℤ y) (ap over (*ℤ_comm (pos (short_cosine lat)) (short_around lat))) e ∙ +ℤ_invr q

-- ---- mirrored

mirror_left : (a b : ℤ) → over (neg_ℤ a *ℤ b) ≡ neg_ℤ (over (a *ℤ b))
mirror_left a b = ap over (neg_mul a b) ∙ quot_neg (a *ℤ b) short_unit

mirror_right : (a b : ℤ) → over (a *ℤ neg_ℤ b) ≡ neg_ℤ (over (a *ℤ b))
mirror_right a b = ap over (*ℤ_comm a (neg_ℤ b)) ∙ mirror_left b a ∙ ap (λ (z : ℤ). neg_ℤ (over z)) (*ℤ_comm b a)

-- mirrored longitudes mirror the sine of the offset, also that of half a turn, which is 0, and keep its size
module _ (lon lon' : ℤ) (p : is_longitude lon ≡ true) (q : is_longitude lon' ≡ true) (p' : is_longitude (neg_ℤ lon) ≡ true) (q' : is_longitude (neg_ℤ lon') ≡ true) where
  abbrev offset : ℤ
  offset = offset_of lon' lon

  abbrev mirrored : ℤ
  mirrored = offset_of (neg_ℤ lon') (neg_ℤ lon)

  mirrored_sine : short_around mirrored ≡ neg_ℤ (short_around offset)
  mirrored_sine =
      ⊎_elim (λ e. ap short_around e ∙ around_mirror offset (offset_angle lon lon' p q))
      (λ e. ap short_around e.1 ∙ around_half ∙ ap neg_ℤ (sym around_half ∙ ap short_around (sym e.0)))
      (offset_mirror lon' lon q p q' p')

  mirrored_size : nat_abs mirrored ≡ nat_abs offset
  mirrored_size = ⊎_elim (λ e. ap nat_abs e ∙ size_neg offset) (λ e. ap nat_abs (e.1 ∙ sym e.0)) (offset_mirror lon' lon q p q' p')

  pub mirrored_east : (lat' : ℤ) → eastward lat' mirrored ≡ neg_ℤ (eastward lat' offset)
  unfolding eastward
  mirrored_east lat' = ap (λ (z : ℤ). over (pos (short_cosine lat') *ℤ z)) mirrored_sine ∙ mirror_right (pos (short_cosine lat')) (short_around offset)

  pub mirrored_north : (lat lat' : ℤ) → northward lat lat' mirrored ≡ northward lat lat' offset
  unfolding northward offset_cosine
  mirrored_north lat lat' = ap (λ (n : ℕ). over (pos (short_cosine lat) *ℤ short_around lat') -ℤ over (over (short_around lat *ℤ pos (short_cosine lat')) *ℤ short_around (pos quarter -ℤ pos n))) mirrored_size
