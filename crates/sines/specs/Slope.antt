-- The angle from 0 to 90 degrees whose sine is to its cosine as one size is to another, in whole numbers.
-- Assumes nothing.
use Rattle.std.specs.Prelude.{Bool, ℕ, ◌-◌, ◌*◌, leb}
use Rattle.sines.specs.Sine.{quarter, short_sine}
use Rattle.sines.specs.Greatest.{greatest}

-- "short sine of a times the size of D at most short cosine of a times the size of N", for any two sizes d and n
unfoldable pub reaches : ℕ → ℕ → ℕ → Bool
reaches d n a = leb (short_sine a * d) (short_sine (quarter - a) * n)

-- "the greatest angle a from 0 to 90 degrees with" it
unfoldable pub slope_of : ℕ → ℕ → ℕ
slope_of d n = greatest (reaches d n) quarter
