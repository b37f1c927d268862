-- The two sheets: a point's place, and the point of a place.
-- Assumes nothing.
use Rattle.std.specs.Prelude.{ℕ, Bool, false, ◌&&◌, leb, ℤ, pos, nat_abs, ◌+ℤ◌, ◌*ℤ◌, Result, Ok, Err}
use Rattle.std.specs.Int.Signed.{quot_z}
use Rattle.signed.specs.Tests.{eq_z}
use Rattle.signed.specs.Sign.{sign_as}
use Rattle.sines.specs.Sine.{quarter, long_sine}
use Rattle.sines.specs.Greatest.{greatest}
use Rattle.globe.specs.declared.Place.{Place}
use Rattle.globe.specs.declared.Point.{Point}
use Rattle.refusals.specs.declared.Refusal.{Refusal}
use Rattle.refusals.specs.declared.Refusal.TheVariants as R
use Rattle.refusals.specs.Choice.{unless, answered}
use Rattle.ticks.specs.Ticks.{is_longitude, turned, offset_of, sheet_refusal}
use Rattle.globe.specs.Angle.{signed_long_sine, short_cosine}

-- a sheet is known by what it does with a latitude: how far a tick of offset goes there, its y, and the one latitude that can have a given y
pub record Sheet : Type 0 where
  pub width : ℤ → ℕ
  pub height : ℤ → ℤ
  pub latitude : ℤ → ℤ

-- "x = offset in ticks; y = long sine of the latitude". Its size can only be the greatest angle whose long sine is at most the size of y.
abbrev pub cylinder : Sheet
cylinder = record { width = λ _. 1; height = signed_long_sine; latitude = λ y. sign_as y (greatest (λ a. leb (long_sine a) (nat_abs y)) quarter) }

-- "x = offset × short cosine, nothing dropped; y = latitude in ticks"
abbrev pub sinusoid : Sheet
sinusoid = record { width = short_cosine; height = λ lat. lat; latitude = λ y. y }

-- ---- a point's place

abbrev pub place : ℤ → ℤ → Place
place x y = record { x = x; y = y }

unfoldable pub place_of : Sheet → ℤ → ℤ → ℤ → Result Place Refusal
place_of s lat lon meridian = answered (sheet_refusal lat lon meridian) (place (offset_of lon meridian *ℤ pos (s.width lat)) (s.height lat))

abbrev pub cylindrical_of : ℤ → ℤ → ℤ → Result Place Refusal
cylindrical_of = place_of cylinder

abbrev pub sinusoidal_of : ℤ → ℤ → ℤ → Result Place Refusal
sinusoidal_of = place_of sinusoid

-- ---- the point of a place

abbrev pub point : ℤ → ℤ → Point
point lat lon = record { latitude = lat; longitude = lon }

abbrev pub is_at : ℤ → ℤ → Result Place Refusal → Bool
is_at x y (Ok p) = eq_z p.x x && eq_z p.y y
is_at x y (Err r) = false

-- "It answers the point that goes there, or 11." Only one can: x over the width is its offset. "At a sinusoidal pole the place is x = 0, and the
-- answer is the central meridian's own longitude.": there the width is 0, and 0 / 0 is 0. "Back: 14, 11."
unfoldable pub back_of : Sheet → ℤ → ℤ → ℤ → Result Point Refusal
back_of s x y meridian =
    let lat = s.latitude y in
    let lon = turned (meridian +ℤ quot_z x (pos (s.width lat))) in
    unless (is_longitude meridian) (Err R.Meridian)
    (unless (is_at x y (place_of s lat lon meridian)) (Err R.Place) (Ok (point lat lon)))

abbrev pub cylindrical_back_of : ℤ → ℤ → ℤ → Result Point Refusal
cylindrical_back_of = back_of cylinder

abbrev pub sinusoidal_back_of : ℤ → ℤ → ℤ → Result Point Refusal
sinusoidal_back_of = back_of sinusoid
