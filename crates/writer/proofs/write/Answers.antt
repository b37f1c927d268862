use Rattle.std.proofs.Common.{◌≡◌, sym, ◌∙◌, rules, Err}
use Rattle.refusals.specs.declared.Refusal.TheVariants as R
use Rattle.numerals.specs.Output.{writing_of}
use Rattle.numerals.proofs.OutputLaws.{room_refused, output_kept}
use Rattle.writer.specs.RouteText.{route_text, text_refusal}
use Rattle.writer.proofs.TextSteps.{text_either}
use Rattle.writer.proofs.RoomLaws.{refused_text}
use Rattle.writer.proofs.write.Goals as goal

pub returns-in_err-text-clause-answer : goal.returns-in_err-text-clause-answer
returns-in_err-text-clause-answer c =
    let a = c.args in
    rw (refused_text a.mark a.target a.points.now _ a.place a.out.now (sym c.new.ensures ∙ c.in_err-text.was)) (search rules)

pub returns-in_err-text-clause-left : goal.returns-in_err-text-clause-left
returns-in_err-text-clause-left c =
    let a = c.args in
    let e = refused_text a.mark a.target a.points.now _ a.place a.out.now (sym c.new.ensures ∙ c.in_err-text.was) in
    sym (output_kept (text_refusal a.target a.points.now) (route_text a.mark a.target a.points.now) a.place a.out.now e)

pub returns-then-saturating_sub-n-clause-left : goal.returns-then-saturating_sub-n-clause-left
returns-then-saturating_sub-n-clause-left c =
    let a = c.args in
    let n = text_refusal a.target a.points.now in
    let text = route_text a.mark a.target a.points.now in
    let e : writing_of n text a.place a.out.now ≡ Err R.Output = search (rules, room_refused, text_either) in
    sym (output_kept n text a.place a.out.now e)
