use Rattle.std.proofs.Common.{◌∙◌, w64}
use mathlib.Core.Path.{ap₂}
use Rattle.signed.specs.Machine.{kept}
use Rattle.ticks.specs.Ticks.{offset_of}
use Rattle.globe.specs.Course.{set_off, course_of}
use Rattle.globe.proofs.LegLaws.{ends_accepted}
use Rattle.globe.proofs.CourseLaws.{east_top, offset_angle}
use Rattle.globe.proofs.course.Goals as goal

pub set_off-requires-clause-n_bound : goal.set_off-requires-clause-n_bound
set_off-requires-clause-n_bound c =
    let start = c.in_ok-leg.leg.start in
    let end = c.in_ok-leg.leg.end in
    rw (kept w64 c.eastward.result c.eastward.type_inv, c.eastward.ensures)
    (east_top end.latitude.ticks (offset_of end.longitude start.longitude) (offset_angle start.longitude end.longitude start.in_range end.in_range))

pub returns : goal.returns
unfolding course_of
returns c =
    let e = c.in_ok-leg.ensures in
    let start = c.in_ok-leg.leg.start in
    let end = c.in_ok-leg.leg.end in
    let none = ends_accepted start.latitude.ticks start.longitude start.latitude.in_range start.in_range end.latitude.ticks end.longitude end.latitude.in_range end.in_range in
    let east = kept w64 c.eastward.result c.eastward.type_inv ∙ c.eastward.ensures in
    let north = kept w64 c.northward.result c.northward.type_inv ∙ c.northward.ensures in
    rw (← e.start.0, ← e.start.1, ← e.end.0, ← e.end.1, none) (c.set_off.ensures ∙ ap₂ set_off east north)
