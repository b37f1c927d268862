-- `length_of` meets its contract. The loop's invariant: `sum` is the length of the first `i` points.
-- Assumes nothing.
use mathlib.Core.Path.{◌≡◌}
use Rattle.globe.specs.Measure.{length_up_to}
use Rattle.globe.proofs.buffer.length_of.Given as goal

abbrev pub invariant-loop-i : goal.invariant-loop-i
invariant-loop-i l = l.sum ≡ length_up_to l.points l.i
