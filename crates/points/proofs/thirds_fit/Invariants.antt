-- The loop's invariant: the points so far fit.
-- Assumes nothing.
use mathlib.Core.Path.{◌≡◌}
use mathlib.Core.Bool.{true}
use Rattle.points.specs.Points.{thirds_fit}
use Rattle.points.proofs.thirds_fit.Given as goal

abbrev pub invariant-loop-i : goal.invariant-loop-i
invariant-loop-i l = thirds_fit l.points l.i ≡ true
