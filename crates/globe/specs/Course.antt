-- Which way to set off: (5-4b) of the manual in whole numbers.
-- Assumes nothing.
use Rattle.std.specs.Prelude.{Bool, true, false, ◌&&◌, ℕ, ◌+◌, ◌-◌, ◌%◌, ℤ, pos, nat_abs, ◌-ℤ◌, ◌*ℤ◌, if◌then◌else◌, Result, Ok, Err}
use Rattle.std.specs.Int.Signed.{quot_z, lt_z}
use Rattle.refusals.specs.declared.Refusal.{Refusal}
use Rattle.refusals.specs.declared.Refusal.TheVariants as R
use Rattle.refusals.specs.Choice.{unrefused}
use Rattle.signed.specs.Tests.{eq_z}
use Rattle.sines.specs.Sine.{quarter, short_unit}
use Rattle.sines.specs.Slope.{slope_of}
use Rattle.ticks.specs.Ticks.{half, full_turn, offset_of}
use Rattle.globe.specs.Angle.{short_cosine, short_around}
use Rattle.globe.specs.Leg.{ends_refusal}

-- "over 10^9"; "each division drops toward zero"
abbrev pub over : ℤ → ℤ
over z = quot_z z (pos short_unit)

-- "The cosine of an offset is the short sine of 90 degrees less its size."
unfoldable pub offset_cosine : ℤ → ℤ
offset_cosine offset = short_around (pos quarter -ℤ pos (nat_abs offset))

-- "N is short cosine of the end latitude times short sine of the offset of the end from the start, over 10^9."
unfoldable pub eastward : ℤ → ℤ → ℤ
eastward lat' offset = over (pos (short_cosine lat') *ℤ short_around offset)

-- "D is start cosine times end sine over 10^9, less (start sine times end cosine over 10^9) times the offset's short cosine over 10^9"
unfoldable pub northward : ℤ → ℤ → ℤ → ℤ
northward lat lat' offset =
    over (pos (short_cosine lat) *ℤ short_around lat') -ℤ over (over (short_around lat *ℤ pos (short_cosine lat')) *ℤ offset_cosine offset)

-- whether N is negative, whether D is, and a: "N and D not negative: a. D alone negative: 180 - a. Both negative: 180 + a. N alone negative:
-- 360 - a, where 360 is 0."
abbrev pub in_quarter : Bool → Bool → ℕ → ℕ
in_quarter false false a = a
in_quarter false true a = half - a
in_quarter true true a = half + a
in_quarter true false a = (full_turn - a) % full_turn

-- "the greatest angle a from 0 to 90 degrees with short sine of a times the size of D at most short cosine of a times the size of N"
unfoldable pub course_by : ℤ → ℤ → ℕ
course_by n d = in_quarter (lt_z n (pos 0)) (lt_z d (pos 0)) (slope_of (nat_abs d) (nat_abs n))

-- "18 when N and D are both zero"
unfoldable pub set_off : ℤ → ℤ → Result ℕ Refusal
set_off n d = if eq_z n (pos 0) && eq_z d (pos 0) then Err R.Course else Ok (course_by n d)

-- "after 6 and 7 of start, then end"
unfoldable pub course_of : ℤ → ℤ → ℤ → ℤ → Result ℕ Refusal
course_of lat lon lat' lon' =
    let offset = offset_of lon' lon in
    unrefused (ends_refusal lat lon lat' lon') (set_off (eastward lat' offset) (northward lat lat' offset))
