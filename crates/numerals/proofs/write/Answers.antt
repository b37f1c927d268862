-- Where there is no room for the text, the output stays as it is.
use Rattle.std.proofs.Common.{◌≡◌, refl, sym, ap, ◌∙◌, length, to_z-of_z, arith}
use Rattle.refusals.specs.Choice.{fine}
use Rattle.numbers.specs.Number.{named_byte}
use Rattle.numerals.specs.Numeral.{numeral_of}
use Rattle.numerals.proofs.NumeralSteps.{any_mark}
use Rattle.numerals.proofs.OutputLaws.{room_refused, output_kept}
use Rattle.numerals.proofs.write.Goals as goal

pub returns-then-out-n-clause-left : goal.returns-then-out-n-clause-left
returns-then-out-n-clause-left c =
    let text = numeral_of c.args.kind c.args.mark c.args.value in
    let out = c.args.out.now in
    let p = c.cut-parts.result in
    let parts = rw (to_z-of_z c.ranges.value) at c.cut-parts.ensures in
    let long : c.bytes-n.result ≡ length text = c.bytes-n.ensures ∙ any_mark p 0 (named_byte c.args.mark) ∙ ap length (parts c.args.mark) in
    sym (output_kept fine text 0 out (room_refused fine text 0 out refl (omega arith)))
