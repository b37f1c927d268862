-- A `t`, its metres as a field, and the end of the line.
use Rattle.std.proofs.Common.{◌≡◌, sym, ap, [], ◌∷◌, ◌++◌, ℕ, ℤ, Option, Some, ◌+◌, length, length-append, arith}
use Prim.Native.Char.{code}
use Rattle.numbers.specs.declared.Kind.TheVariants as K
use Rattle.numbers.specs.declared.Mark.{Mark}
use Rattle.numbers.specs.Pieces.{LF}
use Rattle.numerals.proofs.Stands.{Stands, stands_none, stands_byte, stands_more, stands_length, stands_as, stands_all}
use Rattle.writer.specs.RouteText.{field_of, target_lines, ended}
use Rattle.writer.specs.TextSteps.{metres_of}
use Rattle.writer.proofs.TextSteps.{target_text, target_read}
use Rattle.writer.proofs.lines.put_target.Goals as goal
use Rattle.writer.proofs.lines.put_target.Goals.{After-put_field-end}

module _ (mark : Mark) (target : Option ℕ) {m : ℤ} (is : Some m ≡ metres_of target) where
  text : ended (target_lines mark target) ≡ code "t" ∷ (field_of K.Target mark m ++ (LF ∷ []))
  text = target_text mark target (sym is)

  long : length (ended (target_lines mark target)) ≡ 2 + length (field_of K.Target mark m)
  long = omega (arith, ap length text, length-append (field_of K.Target mark m) (LF ∷ []))

both : (c : After-put_field-end)
    → Stands c.args.out.now c.args.at (code "t" ∷ field_of K.Target c.args.mark c.in-Some.metres) c.put_field-end.result c.put_field-end.new.out
both c =
    let e = c.put_field-end.ensures in
    let h = target_read c.args.target.now (sym c.in-Some.ensures.number) c.metres.ensures.accepted in
    stands_more (stands_byte (stands_none c.args.out.now c.args.at) (code "t")) (field_of K.Target c.args.mark c.in-Some.metres) (rw h at e.next, rw h at e.left)

pub put_field-end-requires : goal.put_field-end-requires
put_field-end-requires c =
    let begun = stands_byte (stands_none c.args.out.now c.args.at) (code "t") in
    rw (target_read c.args.target.now (sym c.in-Some.ensures.number) c.metres.ensures.accepted)
    (omega (arith, c.requires, long c.args.mark c.args.target.now c.in-Some.ensures.number, stands_length begun))

pub bounds-out-end : goal.bounds-out-end
bounds-out-end c =
    let b = both (goal.at.bounds-out-end c).After-put_field-end in
    omega (arith, c.requires, long c.args.mark c.args.target.now c.in-Some.ensures.number, stands_length b, (stands_all b).0)

pub overflow_add-result : goal.overflow_add-result
overflow_add-result c =
    let b = both (goal.at.overflow_add-result c).After-put_field-end in
    omega (arith, c.requires, long c.args.mark c.args.target.now c.in-Some.ensures.number, stands_length b, (stands_all b).0)

pub returns-clause-next : goal.returns-clause-next
returns-clause-next c =
    let b = both (goal.at.returns-clause-next c).After-put_field-end in
    (stands_all (stands_as (stands_byte b LF) _ (sym (text c.args.mark c.args.target.now c.in-Some.ensures.number)))).0
