-- The length of a leg: (5-3a) of the manual in whole numbers.
-- Assumes nothing.
use Rattle.std.specs.Prelude.{ℕ, ◌+◌, ◌-◌, ◌*◌, ◌/◌, min, ℤ, nat_abs, ◌-ℤ◌, Result}
use Rattle.sines.specs.Sine.{quarter, long_sine, leg_shortening, leg_unit, leg_sine}
use Rattle.sines.specs.Back.{greatest_angle}
use Rattle.refusals.specs.declared.Refusal.{Refusal}
use Rattle.refusals.specs.Choice.{Check, first_of, answered}
use Rattle.roots.specs.Root.{root_of}
use Rattle.ticks.specs.Ticks.{full_turn, point_refusal}

-- p, "half the size of the latitude difference": "Length uses whole differences as half-tick counts."
abbrev pub half_north : ℤ → ℤ → ℕ
half_north lat lat' = nat_abs (lat -ℤ lat')

-- q, "half of the smaller of d and 3,600,000,000 - d .., where d is the size of the longitude difference"
abbrev pub half_east : ℤ → ℤ → ℕ
half_east lon lon' = min (nat_abs (lon -ℤ lon')) (full_turn - nat_abs (lon -ℤ lon'))

-- "the sine, long or short, of 90 degrees less its size": "In the length rule alone, short sines and cosines are the long ones divided by 5,000"
unfoldable pub leg_cosine : ℤ → ℕ
leg_cosine lat = long_sine (quarter - nat_abs lat) / leg_shortening

-- m, "the product of the two short cosines divided by 10^9, floored", where "2×10^9 stands for 10^9 in both divisions"
abbrev pub cosines : ℤ → ℤ → ℕ
cosines lat lat' = leg_cosine lat * leg_cosine lat' / leg_unit

-- "H = (short sine of p)² + floor(m × (short sine of q)² / 10^9)"
abbrev pub chord : ℕ → ℕ → ℕ → ℕ
chord m p q = leg_sine p * leg_sine p + m * (leg_sine q * leg_sine q) / leg_unit

-- "Its length is arc × 111,194,927 / 10,000,000 millimetres, floored.": a degree's length, over its ticks
abbrev pub degree : ℕ
degree = 10_000_000

abbrev pub degree_length : ℕ
degree_length = 111_194_927

-- "Let u be the greatest angle from 0 to 90 degrees whose short sine is at most r.": "The u is sought in half ticks, and the arc is u ticks."
abbrev pub length_of : ℕ → ℕ
length_of h = greatest_angle (root_of h) * degree_length / degree

unfoldable pub leg_length : ℤ → ℤ → ℤ → ℤ → ℕ
leg_length lat lon lat' lon' = length_of (chord (cosines lat lat') (half_north lat lat') (half_east lon lon'))

-- "6 and 7 of the first point, then of the second"
abbrev pub ends_refusal : ℤ → ℤ → ℤ → ℤ → Check
ends_refusal lat lon lat' lon' = first_of (point_refusal lat lon) (point_refusal lat' lon')

unfoldable pub leg_of : ℤ → ℤ → ℤ → ℤ → Result ℕ Refusal
leg_of lat lon lat' lon' = answered (ends_refusal lat lon lat' lon') (leg_length lat lon lat' lon')
