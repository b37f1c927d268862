-- `roots::parted` meets its contract. The loop's invariant is `Parted`. Assumes nothing.
use Rattle.roots.proofs.PairLaws.{Parted}
use Rattle.roots.proofs.parted.Given as goal

abbrev pub invariant-loop-at : goal.invariant-loop-at
invariant-loop-at l = Parted l.h l.count l.at l.left l.pairs
