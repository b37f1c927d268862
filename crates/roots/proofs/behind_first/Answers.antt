-- `roots::behind_first` meets its contract. Assumes nothing.
use native.Mathlib.Omega.{arith}
use Rattle.roots.proofs.PairLaws.{first}
use Rattle.roots.proofs.behind_first.Goals as goal

pub returns : goal.returns
returns c =
    let l = rw c.max.ensures at c.ilog.ensures.power_le in
    let u = rw c.max.ensures at c.ilog.ensures.next_power_gt in
    first c.args.h c.ilog.result c.ranges.h.fits l (omega (arith, u))
