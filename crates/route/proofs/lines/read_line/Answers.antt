-- The tabs that are found part the line into the definition's fields, and the last field of a point that was read holds none.
use Rattle.std.proofs.Common.{◌≡◌, List, ℕ, ◌+◌, ◌≤◌, ◌<◌, length, refl, sym, subst, ◌∙◌, arith}
use Rattle.numbers.specs.Pieces.{TAB, split, index_of}
use Rattle.numbers.specs.PieceLaws.{onward}
use Rattle.numbers.proofs.PieceLaws.{none_held}
use Rattle.route.specs.Line.{fields_of}
use Rattle.route.specs.LineLaws.{LastSays}
use Rattle.route.proofs.LineLaws.{last_says, three_fields}
use Rattle.route.proofs.Tags.{last_free}
use Rattle.route.proofs.lines.read_line.Goals as goal
use Rattle.route.proofs.lines.read_line.Goals.{After-point}

module _ (c : After-point) where
  abbrev last : List ℕ
  last = onward (onward c.args.s.now (c.find-i.result + 1)) (c.find-j.result + 1)

  -- the line where the last field has no tab
  three : length last ≤ index_of TAB last → c.point.result ≡ fields_of c.args.mark c.args.st.before c.args.st.points (split TAB c.args.s.now)
  three free =
      let s = c.args.s.now in
      let i = c.find-i.result in
      let t = onward s (i + 1) in
      let j = c.find-j.result in
      let first : i < length s = omega (arith, c.find-i.ensures.within) in
      let second : j < length t = omega (arith, c.find-j.ensures.within) in
      c.point.ensures ∙ sym (three_fields _ _ _ s i c.find-i.ensures.place first t refl j c.find-j.ensures.place second last refl free)

pub returns-in_default : goal.returns-in_default
returns-in_default c =
    let at = (goal.at.returns-in_default c).After-point in
    three at (none_held TAB (last at) (sym c.has.ensures ∙ c.if-has.false))

pub returns-in_default-2 : goal.returns-in_default-2
returns-in_default-2 c =
    let at = (goal.at.returns-in_default-2 c).After-point in
    three at (last_free (subst (LastSays (last at)) (sym c.in_default.ensures) (last_says _ _ _ _ (last at))))
