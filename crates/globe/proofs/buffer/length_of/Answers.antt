use Rattle.std.proofs.Common.{suc, arith}
use Rattle.points.proofs.PointLaws.{accepted}
use Rattle.globe.specs.Measure.{length_up_to}
use Rattle.globe.proofs.MeasureLaws.{length_longest}
use Rattle.globe.proofs.buffer.length_of.Goals as goal

pub overflow_add-sum : goal.overflow_add-sum
unfolding length_up_to
overflow_add-sum c =
    let b = c.args.points.now in
    omega (arith, length_longest b (suc c.loop-i.i), accepted b c.count-i-end.ensures.accepted, c.count-i-end.ensures.number)
