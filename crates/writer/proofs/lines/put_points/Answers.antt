use Rattle.std.proofs.Common.{◌+◌, arith}
use Rattle.points.specs.Points.{count}
use Rattle.numerals.proofs.Stands.{stands_more, stands_length, stands_as, stands_all}
use Rattle.writer.specs.TextSteps.{point_text}
use Rattle.writer.proofs.TextSteps.{points_more, points_size, points_grow}
use Rattle.writer.proofs.lines.put_points.Goals as goal

pub put_point-next-requires : goal.put_point-next-requires
put_point-next-requires c =
    let a = c.args in
    let i = c.loop-i.i in
    let so_far = c.loop-i.invariant in
    let within = points_grow a.mark a.points.now (i + 1) (count a.points.now) (omega (arith, c.count-i-end.ensures.number)) in
    omega (arith, c.requires, stands_length so_far, (stands_all so_far).0, points_size a.mark a.points.now i, within)

pub loop-i-preserved : goal.loop-i-preserved
loop-i-preserved c =
    let a = c.args in
    let i = c.loop-i.i in
    let e = c.put_point-next.ensures in
    stands_as (stands_more c.loop-i.invariant (point_text a.mark a.points.now i) (e.next, e.left)) _ (points_more a.mark a.points.now i)
