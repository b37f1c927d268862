-- Laws of the sines: they lie within the table's range and rise, the long sine strictly.
-- A law over s holds of angles in any unit of which s make a step of the table, so that one proof serves every unit.
-- Assumes nothing.
use Rattle.std.specs.Prelude.{ℕ, ◌+◌, ◌-◌, ◌*◌, ◌/◌, ◌≤◌, ◌<◌}
use Rattle.sines.specs.Table.{entry}

-- f units past row k, s units from one row to the next
unfoldable pub between : ℕ → ℕ → ℕ → ℕ
between s k f = entry k + f * (entry (k + 1) - entry k) / s

-- ---- the document's words without their divisions

-- "entry k plus the floor of f × (entry k+1 - entry k) / 200,000": what they say of y
pub record Between (k f y : ℕ) : Type 0 where
  pub from : entry k ≤ y
  pub low : (y - entry k) * 200_000 ≤ f * (entry (k + 1) - entry k)
  pub high : f * (entry (k + 1) - entry k) < (y - entry k + 1) * 200_000
