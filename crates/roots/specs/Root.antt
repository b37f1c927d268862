-- The whole-number square root.
-- Assumes nothing.
use Rattle.std.specs.Prelude.{ℕ, ◌*◌, leb}
use Rattle.sines.specs.Greatest.{greatest}

-- "the greatest whole number whose square is at most H"
unfoldable pub root_of : ℕ → ℕ
root_of h = greatest (λ r. leb (r * r) h) h
