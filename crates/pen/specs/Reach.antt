-- How far from the middle a place can lie: what is worked out from it fits the machine's numbers, and a float holds it exactly.
-- Assumes nothing.
use Rattle.std.specs.Prelude.{ℕ}
use Rattle.ticks.specs.Ticks.{half}

-- no place lies further from the middle than half a turn, in ticks
abbrev pub furthest : ℕ
furthest = half
