-- The long and the short sine of an angle from 0 to 90 degrees, in ticks; in half ticks the long sine, and the short one of the length rule.
-- Assumes nothing.
use Rattle.std.specs.Prelude.{ℕ, ◌+◌, ◌-◌, ◌*◌, ◌/◌, ◌%◌}
use Rattle.sines.specs.Table.{entry}

-- "at every 200,000 ticks (0.02 degree) from 0 to 90 degrees"
abbrev pub step : ℕ
step = 200_000

abbrev pub quarter : ℕ
quarter = 900_000_000

-- "with k = a / 200,000 and f the remainder, entry k plus the floor of f × (entry k+1 - entry k) / 200,000", for any number s of units from
-- one entry to the next. At 90 degrees f is 0 and the sine is the last entry.
unfoldable pub sine_by : ℕ → ℕ → ℕ
sine_by s a = let k = a / s in let f = a % s in entry k + f * (entry (k + 1) - entry k) / s

abbrev pub long_sine : ℕ → ℕ
long_sine a = sine_by step a

-- "long sine divided by 10,000, dropping toward zero"
abbrev pub shortening : ℕ
shortening = 10_000

abbrev pub short_unit : ℕ
short_unit = 1_000_000_000

abbrev pub short_sine : ℕ → ℕ
short_sine a = long_sine a / shortening

-- ---- in half ticks

-- "from 0 to 90 degrees in half ticks .., with step 400,000 and the same table"
abbrev pub step_halves : ℕ
step_halves = 400_000

abbrev pub quarter_halves : ℕ
quarter_halves = 1_800_000_000

abbrev pub long_sine_half : ℕ → ℕ
long_sine_half a = sine_by step_halves a

-- "In the length rule alone, short sines and cosines are the long ones divided by 5,000, and 2×10^9 stands for 10^9"
abbrev pub leg_shortening : ℕ
leg_shortening = 5_000

abbrev pub leg_unit : ℕ
leg_unit = 2_000_000_000

abbrev pub leg_sine : ℕ → ℕ
leg_sine a = long_sine_half a / leg_shortening
