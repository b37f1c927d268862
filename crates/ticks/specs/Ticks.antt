-- "An angle is a whole number of ticks; a tick is one ten-millionth of a degree." Ranges, the offset, the angle that has another's sine, and what
-- refuses a point.
-- Assumes nothing.
use Rattle.std.specs.Prelude.{ℕ, Bool, ◌&&◌, ℤ, pos, neg_ℤ, ◌+ℤ◌, ◌-ℤ◌, if◌then◌else◌, Err}
use Rattle.std.specs.Int.Signed.{lt_z, le_z}
use Rattle.sines.specs.Sine.{quarter}
use Rattle.refusals.specs.declared.Refusal.TheVariants as R
use Rattle.refusals.specs.Choice.{unless, Check, fine}

-- half a turn, and a full one
abbrev pub half : ℕ
half = 1_800_000_000

abbrev pub full_turn : ℕ
full_turn = 3_600_000_000

-- "Latitude runs from -900,000,000 to 900,000,000, both allowed."
abbrev pub is_latitude : ℤ → Bool
is_latitude z = le_z (neg_ℤ (pos quarter)) z && le_z z (pos quarter)

-- "Longitude and central meridian run from -1,800,000,000, allowed, up to but not including 1,800,000,000"
abbrev pub is_longitude : ℤ → Bool
is_longitude z = le_z (neg_ℤ (pos half)) z && lt_z z (pos half)

-- an angle that has a sine: "Long and short sine now accept -180 to 180 degrees, both allowed"
abbrev pub is_angle : ℤ → Bool
is_angle z = le_z (neg_ℤ (pos half)) z && le_z z (pos half)

-- "A point is accepted exactly when its latitude and longitude lie in these ranges."
abbrev pub accepted : ℤ → ℤ → Bool
accepted lat lon = is_latitude lat && is_longitude lon

-- "plus or minus a full turn where needed so that it lies in the longitude range"
abbrev pub turned : ℤ → ℤ
turned d = if lt_z d (neg_ℤ (pos half)) then d +ℤ pos full_turn else (if le_z (pos half) d then d -ℤ pos full_turn else d)

-- "longitude minus central meridian"
unfoldable pub offset_of : ℤ → ℤ → ℤ
offset_of lon meridian = turned (lon -ℤ meridian)

-- "beyond 90, the sine of 180 less the angle; odd as before": the angle from -90 to 90 degrees whose sine is taken
unfoldable pub folded : ℤ → ℤ
folded a = if lt_z (pos quarter) a then pos half -ℤ a else (if lt_z a (neg_ℤ (pos quarter)) then neg_ℤ (pos half) -ℤ a else a)

-- a point's refusal: 6, then 7
unfoldable pub point_refusal : ℤ → ℤ → Check
point_refusal lat lon = unless (is_latitude lat) (Err R.Latitude) (unless (is_longitude lon) (Err R.Longitude) fine)

-- "Sheets: 14, 6, 7."
unfoldable pub sheet_refusal : ℤ → ℤ → ℤ → Check
sheet_refusal lat lon meridian = unless (is_longitude meridian) (Err R.Meridian) (point_refusal lat lon)
