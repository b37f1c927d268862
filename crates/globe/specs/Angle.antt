-- The sine of an angle from -180 to 180 degrees, in half ticks that of one from 0 to 90, and the cosine of a latitude.
-- Assumes nothing.
use Rattle.std.specs.Prelude.{ℕ, ◌-◌, Bool, ◌&&◌, ℤ, pos, nat_abs, Result, Ok, Err}
use Rattle.std.specs.Int.Signed.{le_z, quot_z}
use Rattle.signed.specs.Sign.{sign_as}
use Rattle.sines.specs.Sine.{quarter, long_sine, shortening, short_sine, quarter_halves, long_sine_half}
use Rattle.refusals.specs.declared.Refusal.{Refusal}
use Rattle.refusals.specs.declared.Refusal.TheVariants as R
use Rattle.refusals.specs.Choice.{unless}
use Rattle.ticks.specs.Ticks.{is_angle, folded}

-- from -90 to 90 degrees: "A negative angle gives the negative of its opposite."
abbrev pub signed_long_sine : ℤ → ℤ
signed_long_sine a = sign_as a (long_sine (nat_abs a))

-- "the sine, long or short, of 90 degrees less its size"
unfoldable pub short_cosine : ℤ → ℕ
short_cosine lat = short_sine (quarter - nat_abs lat)

-- "beyond 90, the sine of 180 less the angle"
abbrev pub long_around : ℤ → ℤ
long_around a = signed_long_sine (folded a)

-- "long sine divided by 10,000, dropping toward zero"
abbrev pub short_around : ℤ → ℤ
short_around a = quot_z (long_around a) (pos shortening)

-- what is answered: the sine, or "6 for a sine only beyond 180 degrees"
unfoldable pub long_sine_of : ℤ → Result ℤ Refusal
long_sine_of a = unless (is_angle a) (Err R.Latitude) (Ok (long_around a))

unfoldable pub short_sine_of : ℤ → Result ℤ Refusal
short_sine_of a = unless (is_angle a) (Err R.Latitude) (Ok (short_around a))

-- "Long sine is now also given from 0 to 90 degrees in half ticks (6 outside)"
abbrev pub is_halves : ℤ → Bool
is_halves a = le_z (pos 0) a && le_z a (pos quarter_halves)

unfoldable pub long_sine_half_of : ℤ → Result ℤ Refusal
long_sine_half_of a = unless (is_halves a) (Err R.Latitude) (Ok (pos (long_sine_half (nat_abs a))))
