use Rattle.std.proofs.Common.{rules, ◌≡◌, true}
use Rattle.ticks.specs.Ticks.{is_latitude, is_longitude}
use Rattle.globe.proofs.LegLaws.{end_judged}
use Rattle.globe.proofs.accepted.Leg.between.Goals as goal

pub returns-in_err-end-clause-refusal : goal.returns-in_err-end-clause-refusal
returns-in_err-end-clause-refusal c =
    let a = c.args in
    let start = c.in_ok-start in
    let latitude : is_latitude a.start.latitude ≡ true = search (rules, start.start.latitude.in_range, start.ensures.latitude) in
    let longitude : is_longitude a.start.longitude ≡ true = search (rules, start.start.in_range, start.ensures.longitude) in
    rw (end_judged a.start.latitude a.start.longitude latitude longitude a.end.latitude a.end.longitude) (search rules)
