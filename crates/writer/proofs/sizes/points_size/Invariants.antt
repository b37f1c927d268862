-- The loop's invariant: the sum is how many bytes the points so far have.
-- Assumes nothing.
use mathlib.Core.Path.{◌≡◌}
use lib.ListN.{length}
use Rattle.numbers.specs.declared.Mark.TheVariants as M
use Rattle.writer.specs.RouteText.{point_lines, ended}
use Rattle.writer.proofs.sizes.points_size.Given as goal

abbrev pub invariant-loop-i : goal.invariant-loop-i
invariant-loop-i l = l.sum ≡ length (ended (point_lines M.Point l.points l.i))
