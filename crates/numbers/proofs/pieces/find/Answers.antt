-- What std finds behind the strides is the first `b`.
use Rattle.std.proofs.Common.{rules, tests, ◌+◌, eqb, ap, ◌∙◌}
use Rattle.std.proofs.lemmas.Iterator.{YieldsList-from_slice}
use Rattle.std.proofs.lemmas.Iterator.Search.{position_from_yields_List}
use Rattle.numbers.specs.PieceLaws.{onward}
use Rattle.numbers.proofs.PieceLaws.{position_or, found_from}
use Rattle.numbers.proofs.pieces.find.Goals as goal

pub returns-clause-place : goal.returns-clause-place
returns-clause-place c =
    let b = c.args.b in
    let s = c.args.s.now in
    let from = c.skip-from.result in
    let rest = onward s from in
    let at =
    position_from_yields_List (λ x. eqb x b) _ _ c.position.result c.position.ensures.ran
    (YieldsList-from_slice rest cc) (λ x t q k. search (rules, tests)) in
    ap (λ i. from + i) (c.unwrap_or.ensures ∙ position_or (λ x. eqb x b) rest c.position.result at) ∙ found_from b s from c.skip-from.ensures
