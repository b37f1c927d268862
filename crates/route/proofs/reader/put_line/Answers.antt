-- The numbers of a point as the machine has them.
-- Assumes nothing.
use Rattle.std.proofs.Common.{◌<◌, arith, rules}
use Rattle.points.specs.Points.{count}
use Rattle.points.proofs.PointLaws.{put_in}
use Rattle.route.proofs.reader.put_line.Goals as goal

pub returns-in-Point : goal.returns-in-Point
returns-in-Point c =
    let r = rw c.in-Point.is at c.requires in
    let i : c.args.st.points < count c.args.own.now = omega arith in
    rw (c.in-Point.is, c.put.ensures, c.third-third.ensures) (search (rules, put_in))
