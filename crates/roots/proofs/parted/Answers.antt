-- `roots::parted` meets its contract. The loop's invariant is `Parted`. Assumes nothing.
use Rattle.roots.proofs.PairLaws.{parted_next}
use Rattle.roots.proofs.parted.Goals as goal

pub loop-at-preserved : goal.loop-at-preserved
loop-at-preserved c = parted_next c.loop-at-test.true c.loop-at.invariant
