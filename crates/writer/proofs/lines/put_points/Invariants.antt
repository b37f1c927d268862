-- The loop's invariant: the lines of the points so far stand in the output.
-- Assumes nothing.
use Rattle.numerals.proofs.Stands.{Stands}
use Rattle.writer.specs.RouteText.{point_lines, ended}
use Rattle.writer.proofs.lines.put_points.Given as goal

abbrev pub invariant-loop-i : goal.invariant-loop-i
invariant-loop-i l = Stands l.initial.out l.at (ended (point_lines l.mark l.points l.i)) l.next l.out
