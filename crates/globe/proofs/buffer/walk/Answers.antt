use Rattle.std.proofs.Common.{ltb, ◌≡◌, suc, ◌≤◌, ◌<◌, ap, arith}
use borrow.Author.Tests.{ltb-true, ltb-false, lt-ltb, le-leb, lt-leb}
use Rattle.refusals.specs.Tests.{and_true}
use Rattle.sines.proofs.LeastLaws.{least_is}
use Rattle.points.specs.Points.{count}
use Rattle.points.proofs.PointLaws.{accepted}
use Rattle.globe.specs.declared.Met.TheVariants.{Yes, No}
use Rattle.globe.specs.Measure.{length_up_to}
use Rattle.globe.proofs.MeasureLaws.{length_longest, length_grows}
use Rattle.globe.specs.Met.{reaches, looked_at, walked}
use Rattle.globe.proofs.buffer.walk.Goals as goal
use Rattle.globe.proofs.buffer.walk.Goals.{After-loop-sum}

pub overflow_add-sum : goal.overflow_add-sum
unfolding length_up_to
overflow_add-sum c =
    let b = c.args.points.now in
    let t = and_true (ltb c.loop-sum.sum c.args.target) (ltb c.loop-sum.i c.count-n.result) c.loop-sum-test.true in
    omega (arith, ltb-true _ _ t.0, ltb-true _ _ t.1, length_longest b (suc c.loop-sum.i), accepted b c.count-n.ensures.accepted, c.count-n.ensures.number)

pub overflow_cast-looked_at : goal.overflow_cast-looked_at
overflow_cast-looked_at c = omega (arith, c.loop-sum.invariant.0, accepted c.args.points.now c.count-n.ensures.accepted, c.count-n.ensures.number)

inside : (c : After-loop-sum) → c.loop-sum.i ≤ count c.args.points.now
inside c = omega (arith, c.loop-sum.invariant.0, c.count-n.ensures.number)

-- the beginning at which it stops is the shortest that reaches the target, or the whole
stops : (c : After-loop-sum) → (c.loop-sum.i < count c.args.points.now → c.args.target ≤ length_up_to c.args.points.now c.loop-sum.i)
    → c.loop-sum.i ≡ looked_at c.args.points.now c.args.target
stops c h =
    let b = c.args.points.now in
    least_is (reaches b c.args.target) (count b) c.loop-sum.i
    (record { inside = inside c; earlier = c.loop-sum.invariant.2; holds = λ l. le-leb c.args.target _ (h l) })

pub returns-then-target-sum : goal.returns-then-target-sum
unfolding walked
returns-then-target-sum c =
    let b = c.args.points.now in
    let at = (goal.at.returns-then-target-sum c).After-loop-sum in
    let h : c.args.target ≤ length_up_to b c.loop-sum.i = omega (arith, c.if-target-sum.true, c.loop-sum.invariant.1) in
    rw (le-leb c.args.target (length_up_to b (count b)) (omega (arith, h, length_grows b c.loop-sum.i (count b) (inside at))))
    (ap Yes (stops at (λ _. h)))

pub returns : goal.returns
unfolding walked
returns c =
    let b = c.args.points.now in
    let at = (goal.at.returns c).After-loop-sum in
    let over = ltb-false c.loop-sum.i c.count-n.result (rw (lt-ltb c.loop-sum.sum c.args.target c.if-target-sum.false) at c.loop-sum-test.false) in
    let all : c.loop-sum.i ≡ count b = omega (arith, over, inside at, c.count-n.ensures.number) in
    rw (lt-leb c.args.target (length_up_to b (count b)) (rw (← all, ← c.loop-sum.invariant.1) c.if-target-sum.false))
    (ap No (stops at (λ l. absurd (omega arith))))
