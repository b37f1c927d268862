use Rattle.std.proofs.Common.{◌≡◌, ◌*◌, ◌≤◌, ◌<◌, length, take, sym, ap, ◌∙◌, arith, Result}
use Rattle.points.specs.Points.{numbers, most_points}
use Rattle.numbers.proofs.PieceLaws.{onward_less}
use Rattle.route.specs.declared.Refused.{Refused}
use Rattle.route.specs.declared.lines.State.{State}
use Rattle.route.specs.Line.{line_of}
use Rattle.route.specs.LineLaws.{state_after, seen_in}
use Rattle.route.proofs.LineLaws.{seen_line, seen_after, line_few}
use Rattle.route.specs.WalkLaws.{came}
use Rattle.route.proofs.WalkLaws.{end_came, walk_last, walk_on}
use Rattle.route.proofs.reader.read_lines.Goals as goal

pub returns-then-e-rest-clause-walked : goal.returns-then-e-rest-clause-walked
returns-then-e-rest-clause-walked c =
    let l = c.loop-rest in
    let a = c.args in
    ap (λ (j : Result State Refused). came j l.own) c.ending.ensures ∙
    end_came a.mark a.room l.line l.rest.now l.st l.own (omega (arith, l.invariant.2, l.invariant.3, c.requires.most_points_in_bounds)) ∙
    sym (walk_last a.mark a.room l.line l.rest.now (seen_in l.st l.own) c.find-e.result c.find-e.ensures.place (omega arith)) ∙
    l.invariant.4

pub loop-rest-preserved : goal.loop-rest-preserved
loop-rest-preserved c =
    let i = c.loop-rest in
    let m = c.args.mark in
    let rest = i.rest.now in
    let e = c.find-e.result in
    let l = c.in-Ok.l in
    let within : e < length rest = omega (arith, c.find-e.ensures.within) in
    let few : (state_after i.st l).points ≤ most_points = line_few m i.st (take e rest) l (sym c.in-Ok.is ∙ c.read_line.ensures) i.invariant.2 in
    let room : numbers * i.st.points ≤ length i.own = omega (arith, i.invariant.2, i.invariant.3, c.requires.most_points_in_bounds) in
    let judged : c.read_line.result ≡ line_of m (seen_in i.st i.own) (take e rest) = c.read_line.ensures ∙ seen_line m i.st i.own (take e rest) room in
    let q = walk_on m _ i.line rest (seen_in i.st i.own) e c.find-e.ensures.place within c.read_line.result judged l c.in-Ok.is in
    let n = seen_after i.st i.own l (omega (arith, few, i.invariant.3, c.requires.most_points_in_bounds)) in (
      omega (arith, i.invariant.0),
      omega (arith, onward_less rest e within, i.invariant.1),
      rw c.after-st.ensures few,
      c.put_line.auto.own ∙ i.invariant.3,
      rw (c.after-st.ensures, c.put_line.ensures, n) (sym q ∙ i.invariant.4),
    )
