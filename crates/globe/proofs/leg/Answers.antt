use Rattle.std.proofs.Common.{rules}
use Rattle.globe.specs.Leg.{leg_of}
use Rattle.globe.proofs.LegLaws.{ends_accepted}
use Rattle.globe.proofs.leg.Goals as goal

pub returns : goal.returns
unfolding leg_of
returns c =
    let e = c.in_ok-leg.ensures in
    let start = c.in_ok-leg.leg.start in
    let end = c.in_ok-leg.leg.end in
    let none = ends_accepted start.latitude.ticks start.longitude start.latitude.in_range start.in_range end.latitude.ticks end.longitude end.latitude.in_range end.in_range in
    rw (← e.start.0, ← e.start.1, ← e.end.0, ← e.end.1, none) (search rules)
