use Rattle.std.proofs.Common.{rules, ◌≤◌, ◌<◌, arith}
use Rattle.sines.specs.Table.{entry}
use Rattle.sines.proofs.Rules.{rising}
use Rattle.globe.proofs.search.last_row.Goals as goal

pub last-requires-clause-falls : goal.last-requires-clause-falls
last-requires-clause-falls c = λ a b r l h p q.
    let below : c.args.y < entry a = search rules in
    let up : entry a ≤ entry b = rising a b l (omega arith) in
    search rules
