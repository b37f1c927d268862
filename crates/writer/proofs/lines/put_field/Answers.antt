-- The tab, and what the number's writer leaves in the part that is lent to it.
use Rattle.std.proofs.Common.{◌≡◌, refl, List, [], ◌∷◌, ℕ, suc, ◌+◌, ◌≤◌, length, ap, ◌∙◌, arith, Result}
use Rattle.std.specs.Result.{result_unwrap_or}
use Rattle.std.proofs.Math.ListN.{set}
use mir.Facts.{to_z-of_z}
use Rattle.refusals.specs.declared.Refusal.{Refusal}
use Rattle.refusals.specs.Choice.{fine}
use Rattle.numbers.specs.Pieces.{TAB}
use Rattle.numerals.specs.Numeral.{numeral_of}
use Rattle.numerals.specs.Output.{writing_of, output_of}
use Rattle.numerals.proofs.Stands.{lent, lent_length, sets_lent, put_back, Stands, stands_none, stands_byte, stands_more, stands_length, stands_all}
use Rattle.numerals.proofs.OutputLaws.{text_written, output_sets}
use Rattle.writer.proofs.lines.put_field.Goals as goal

module _ (out : List ℕ) (at : ℕ) (number : List ℕ) (h : at + suc (length number) ≤ length out) where
  tabbed : Stands out at (TAB ∷ []) (at + 1) (set out at TAB)
  tabbed = stands_byte (stands_none out at) TAB

  room : at + 1 + length number ≤ length (set out at TAB)
  room = omega (arith, h, stands_length tabbed)

  abbrev part : List ℕ
  part = lent (at + 1) (set out at TAB)

  fits : length number ≤ length part
  fits = omega (arith, room, lent_length (at + 1) (set out at TAB))

  many : {writing : Result ℕ Refusal} {n : ℕ} → writing ≡ writing_of fine number 0 part → n ≡ result_unwrap_or writing 0 → n ≡ length number
  many e f = rw (e ∙ text_written fine number 0 part refl (omega (arith, fits))) at f

  all : {new : List ℕ} → new ≡ output_of fine number 0 part
      → Stands out at (TAB ∷ number) (at + 1 + length number) (put_back (at + 1) (set out at TAB) new)
  all left =
      let e = left ∙ output_sets fine number 0 part refl (omega (arith, fits)) in
      stands_more tabbed number (refl, ap (put_back (at + 1) (set out at TAB)) e ∙ sets_lent (at + 1) (set out at TAB) number room)

pub overflow_add-result : goal.overflow_add-result
overflow_add-result c =
    let a = c.args in
    let number = numeral_of a.kind a.mark a.value in
    let e = many a.out.now a.at number c.requires (rw (to_z-of_z c.ranges.value) at c.write.ensures.answer) c.unwrap_or.ensures in
    omega (arith, e, room a.out.now a.at number c.requires, stands_length (tabbed a.out.now a.at number c.requires))

pub returns-clause-next : goal.returns-clause-next
returns-clause-next c =
    let a = c.args in
    let number = numeral_of a.kind a.mark a.value in
    omega (arith, many a.out.now a.at number c.requires (rw (to_z-of_z c.ranges.value) at c.write.ensures.answer) c.unwrap_or.ensures)

pub returns-clause-left : goal.returns-clause-left
returns-clause-left c =
    let a = c.args in
    (stands_all (all a.out.now a.at (numeral_of a.kind a.mark a.value) c.requires (rw (to_z-of_z c.ranges.value) at c.write.ensures.left))).1
