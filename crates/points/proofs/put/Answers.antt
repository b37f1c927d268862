-- `put` meets its contract: a point's numbers are stored one by one where there is room for all of them.
-- Assumes nothing.
use mathlib.Core.Path.{sym, ◌∙◌}
use mir.Facts.{to_z-of_z}
use Rattle.points.proofs.PointLaws.{point_sets, put_in, put_past}
use Rattle.points.proofs.put.Goals as goal

pub returns-then-points-i : goal.returns-then-points-i
returns-then-points-i c = let a = c.args in sym (put_past a.points.now a.i a.latitude a.longitude a.third c.if-points-i.true)

pub returns : goal.returns
returns c =
    let s = c.before in
    let a = s.args in
    let f = s.ranges in
    rw (to_z-of_z f.latitude, to_z-of_z f.longitude, to_z-of_z f.third)
    (point_sets a.points.now a.i a.latitude a.longitude a.third ∙
    sym (put_in a.points.now a.i a.latitude a.longitude a.third c.if-points-i.false))
