-- The loop's invariant: none of the points so far is refused.
-- Assumes nothing.
use mathlib.Core.Path.{◌≡◌}
use Rattle.refusals.specs.Choice.{fine}
use Rattle.points.specs.Points.{points_refusal}
use Rattle.points.proofs.check_points.Given as goal

abbrev pub invariant-loop-i : goal.invariant-loop-i
invariant-loop-i l = points_refusal l.points l.i ≡ fine
