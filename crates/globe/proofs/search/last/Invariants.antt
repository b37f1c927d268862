-- The test holds at `low`, or `low` is 0; and it has failed at a number up to `low + left`, or none is left there.
use Rattle.std.proofs.Common.{ℕ, ◌+◌, ◌≤◌, ◌<◌, true, false}
use Rattle.globe.proofs.search.last.Given as goal

abbrev pub invariant-loop-left : goal.invariant-loop-left
invariant-loop-left g l =
    (0 < l.left) × (l.low + l.left ≤ l.count)
    × (0 < l.low → goal.F-post g l.test l.low true)
    × (m : ℕ) × (l.low < m) × (m ≤ l.low + l.left) × (m < l.count → goal.F-post g l.test m false)

abbrev pub decreases-loop-left : goal.decreases-loop-left
decreases-loop-left g l = l.left
