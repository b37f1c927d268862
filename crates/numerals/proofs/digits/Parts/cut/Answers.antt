-- The digits on either side of the mark are those of the text.
use Rattle.std.specs.Prelude.{pos}
use Rattle.std.specs.Int.Signed.{lt_z}
use Rattle.std.proofs.Common.{refl, sym, ◌∙◌, to_z-of_z, arith}
use Rattle.numerals.proofs.NumeralSteps.{parted}
use Rattle.numerals.proofs.digits.Parts.cut.Goals as goal

pub returns : goal.returns
returns c mark =
    let held = to_z-of_z c.ranges.value in
    let size = sym (c.from-n.ensures ∙ rw held at c.size32.ensures) in
    rw held
    (parted c.args.kind c.from-n.result _ _ c.args.value
    (record { minus = lt_z c.args.value (pos 0); whole = c.whole.result; decimals = c.shorn.result }) size
    (omega (arith, c.from-n.ensures)) c.before_mark.ensures c.after_mark.ensures refl
    (c.whole.ensures.many, c.whole.ensures.lifted) (c.shorn.ensures.many, c.shorn.ensures.same) mark)
