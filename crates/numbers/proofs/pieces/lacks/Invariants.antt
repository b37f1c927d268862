-- `lacks` meets its contract. The loop's invariant: `none` says whether the bytes that were looked at lack `b`.
-- Assumes nothing.
use Rattle.std.specs.Prelude.{◌≡◌, not, take}
use Rattle.numbers.specs.Pieces.{holds}
use Rattle.numbers.proofs.pieces.lacks.Given as goal

abbrev pub invariant-loop-x : goal.invariant-loop-x
invariant-loop-x l = l.none ≡ not (holds l.b (take l.x-index l.stride))
