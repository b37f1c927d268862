-- The slope by the rows of the table: first the last row at whose first angle the test holds, then the angles of that row.
-- Assumes nothing.
use Rattle.std.specs.Prelude.{Bool, ℕ, ◌+◌, ◌*◌, ◌/◌}
use Rattle.sines.specs.Rules.{rows}
use Rattle.sines.specs.Sine.{step, shortening}
use Rattle.sines.specs.Greatest.{greatest}
use Rattle.sines.specs.Slope.{reaches}

-- ---- the last row

-- the test at a row's first angle
abbrev pub row_reaches : ℕ → ℕ → ℕ → Bool
row_reaches d n k = reaches d n (k * step)

unfoldable pub slope_row : ℕ → ℕ → ℕ
slope_row d n = greatest (row_reaches d n) rows

-- ---- inside a row

-- the short sine f ticks past an entry, the next one `gap` higher
abbrev pub share_of : ℕ → ℕ → ℕ → ℕ
share_of low gap f = (low + f * gap / step) / shortening
