-- `roots::digit` meets its contract. The loop's invariant: the digit after `d` does not fit. The measure is `d`. Assumes nothing.
use Prim.Native.Nat.{◌+◌, ◌<◌}
use Rattle.roots.specs.School.{taken}
use Rattle.roots.proofs.digit.Given as goal

abbrev pub invariant-loop-d : goal.invariant-loop-d
invariant-loop-d l = (l.d < 13) × (l.rest < taken l.root (l.d + 1))

abbrev pub decreases-loop-d : goal.decreases-loop-d
decreases-loop-d l = l.d
