-- What std finds is the first stride that has `b`.
use Rattle.std.proofs.Common.{rules, tests, ◌*◌, ◌/◌, ◌≤◌, length, ◌∙◌, arith}
use Rattle.std.specs.Simd.{first_chunks}
use Rattle.std.proofs.lemmas.Iterator.{YieldsList-from_slice}
use Rattle.std.proofs.lemmas.Iterator.Search.{position_from_yields_List}
use Rattle.numbers.specs.Pieces.{holds}
use Rattle.numbers.specs.PieceLaws.{stride}
use Rattle.numbers.proofs.PieceLaws.{position_or, skipped}
use Rattle.numbers.proofs.pieces.skip.Goals as goal

pub returns : goal.returns
returns c =
    let b = c.args.b in
    let s = c.args.s.now in
    let k = length s / stride in
    let strides = first_chunks stride k s in
    let same = c.as_chunks.ensures.front in
    let whole : k * stride ≤ length s = omega arith in
    let at =
    position_from_yields_List (holds b) _ _ c.position.result c.position.ensures.ran
    (YieldsList-from_slice c.as_chunks.result.0.now cc) (λ x t q m. search (rules, tests)) in
    let found = c.unwrap_or.ensures ∙ position_or (holds b) c.as_chunks.result.0.now c.position.result at in
    rw (found, same) (skipped b stride k s whole)
