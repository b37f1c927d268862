-- `roots::steps` meets its contract. The loop's invariant is `Sofar`. Assumes nothing.
use Rattle.std.proofs.Common.{ℕ, ◌+◌, ◌*◌, ◌≤◌, take, get_or, length-take}
use native.Mathlib.Omega.{arith}
use Rattle.roots.specs.School.{taken}
use Rattle.roots.proofs.SchoolLaws.{found}
use Rattle.roots.proofs.PairLaws.{behind_few}
use Rattle.roots.proofs.StepLaws.{Bounds, sofar_start, bounds, next, finish}
use Rattle.roots.proofs.steps.Goals as goal
use Rattle.roots.proofs.steps.Goals.{After-digit-d}

abbrev pair : After-digit-d → ℕ
pair c = get_or (take (c.behind_first.result + 1) c.parted-pairs.result) c.loop-at.at 0

small : (c : After-digit-d) → Bounds c.loop-at.at c.loop-at.root c.loop-at.rest (pair c)
small c = bounds c.parted-pairs.result c.ranges.h.fits c.loop-at-test.true c.loop-at.invariant c.parted-pairs.ensures

digit : (c : After-digit-d) → (c.digit-d.result ≤ 9) × (taken c.loop-at.root c.digit-d.result ≤ c.loop-at.rest * 100 + pair c)
digit c = found _ _ c.digit-d.ensures

pub parted-pairs-requires : goal.parted-pairs-requires
parted-pairs-requires c = omega (arith, behind_few c.args.h, c.behind_first.ensures)

pub loop-at-init : goal.loop-at-init
loop-at-init c = sofar_start c.args.h c.ranges.h.fits c.behind_first.ensures c.default-steps.ensures

pub overflow_add-brought : goal.overflow_add-brought
overflow_add-brought c = omega (arith, bounds c.parted-pairs.result c.ranges.h.fits c.loop-at-test.true c.loop-at.invariant c.parted-pairs.ensures)

pub digit-d-requires : goal.digit-d-requires
digit-d-requires c =
    let b = bounds c.parted-pairs.result c.ranges.h.fits c.loop-at-test.true c.loop-at.invariant c.parted-pairs.ensures in
    record { root_bound = b.root_top; rest_bound = b.ten }

pub overflow_add-rest : goal.overflow_add-rest
overflow_add-rest c = omega (arith, small c, digit c)

pub overflow_mul-rest-in-loop-at : goal.overflow_mul-rest-in-loop-at
overflow_mul-rest-in-loop-at c = omega (arith, small c, digit c)

pub overflow_sub-rest : goal.overflow_sub-rest
overflow_sub-rest c = (digit c).1

pub overflow_add-root : goal.overflow_add-root
overflow_add-root c = omega (arith, small c, digit c)

pub loop-at-preserved : goal.loop-at-preserved
loop-at-preserved c = next c.parted-pairs.result c.ranges.h.fits c.loop-at-test.true c.loop-at.invariant c.parted-pairs.ensures c.digit-d.ensures

pub returns : goal.returns
returns c = finish c.parted-pairs.result (omega arith) c.loop-at-test.false c.loop-at.invariant

pub slice_bounds-pairs-end : goal.slice_bounds-pairs-end
slice_bounds-pairs-end c = omega (arith, behind_few c.args.h, c.behind_first.ensures)

pub slice_bounds-pair-items-end : goal.slice_bounds-pair-items-end
slice_bounds-pair-items-end c =
    omega (arith, behind_few c.args.h, c.behind_first.ensures, length-take (c.behind_first.result + 1) c.parted-pairs.result)
