-- A place of the sinusoidal sheet in millimetres, and these as floats. `quot_z` drops toward zero.
-- Assumes nothing.
use Rattle.std.specs.Prelude.{ℕ, Float, ℤ, pos, ◌*ℤ◌}
use Rattle.std.specs.Float.{binary64}
use Rattle.std.specs.Float.Ieee.{div, of_int}
use Rattle.std.specs.Int.Signed.{quot_z}
use Rattle.sines.specs.Sine.{short_unit}
use Rattle.globe.specs.Leg.{degree, degree_length}

-- "× 111,194,927 / 10,000,000 dropping toward zero", of ticks: "Y is latitude" so treated
abbrev pub millimetres : ℤ → ℤ
millimetres ticks = quot_z (ticks *ℤ pos degree_length) (pos degree)

-- "X is x / 10^9 dropping toward zero, then" the same
abbrev pub across : ℤ → ℤ
across x = millimetres (quot_z x (pos short_unit))

-- "each as a float"
abbrev pub float : ℤ → Float
float = of_int binary64

-- "divided once by the divisor as a float"
abbrev pub scaled : ℕ → Float → Float
scaled divisor x = div binary64 x (float (pos divisor))
