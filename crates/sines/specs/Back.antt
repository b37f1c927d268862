-- The way back from a sine to an angle from 0 to 90 degrees.
-- Assumes nothing.
use Rattle.std.specs.Prelude.{ℕ, ◌*◌, ◌/◌, leb}
use Rattle.sines.specs.Rules.{rows}
use Rattle.sines.specs.Sine.{sine_by, step_halves, leg_shortening}
use Rattle.sines.specs.Greatest.{greatest}

-- "the greatest angle from 0 to 90 degrees whose short sine is at most r", in a unit of which s make a step of the table, the sine divided by d
unfoldable pub greatest_by : ℕ → ℕ → ℕ → ℕ
greatest_by s d r = greatest (λ u. leb (sine_by s u / d) r) (rows * s)

-- "The u is sought in half ticks", by the short sine of the length rule
abbrev pub greatest_angle : ℕ → ℕ
greatest_angle r = greatest_by step_halves leg_shortening r
