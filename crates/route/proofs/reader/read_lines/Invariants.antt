-- `read_lines` meets its contract. The loop's invariant: what is left of the text, walked from this line, with the state and the numbers in our
-- buffer for what was seen, comes to what the whole text comes to; there are no more points than the most, so there is room for them; and the
-- line's number grows by no more than the bytes that were passed.
-- Assumes nothing.
use mathlib.Core.Path.{◌≡◌}
use Prim.Native.Nat.{◌+◌, ◌≤◌}
use lib.ListN.{length}
use Rattle.points.specs.Points.{most_points}
use Rattle.numbers.specs.Pieces.{LF, split}
use Rattle.route.specs.Line.{fresh}
use Rattle.route.specs.Route.{walk_from}
use Rattle.route.specs.LineLaws.{seen_in}
use Rattle.route.proofs.reader.read_lines.Given as goal

abbrev pub invariant-loop-rest : goal.invariant-loop-rest
invariant-loop-rest l = (2 ≤ l.line) × (l.line + length l.rest ≤ 2 + length l.text) × (l.st.points ≤ most_points) × (length l.own ≡ length l.initial.own) ×
    (walk_from l.mark l.room l.line (seen_in l.st l.own) (split LF l.rest) ≡ walk_from l.mark l.room 2 fresh (split LF l.text))

abbrev pub decreases-loop-rest : goal.decreases-loop-rest
decreases-loop-rest l = length l.rest
