use Rattle.std.proofs.Common.{◌≡◌, refl, sym, ap, ◌∙◌, List, [], ◌∷◌, ◌++◌, append_assoc, ℕ, Option, ℤ, ◌+◌, ◌≤◌, length, length-append, arith}
use Rattle.numbers.specs.declared.Mark.{Mark}
use Rattle.points.specs.Points.{count}
use Rattle.numerals.proofs.Stands.{Stands, stands_none, stands_more, stands_length, stands_as, stands_all}
use Rattle.route.specs.Words.{header_text}
use Rattle.writer.specs.RouteText.{target_lines, point_lines, ended, route_text}
use Rattle.writer.proofs.RouteTextLaws.{text_parts}
use Rattle.writer.proofs.Text.put.Goals as goal
use Rattle.writer.proofs.Text.put.Goals.{After-put_header-second, After-put_target-third}

-- the three parts of the text
module _ (mark : Mark) where
  abbrev header : List ℕ
  header = ended (header_text mark ∷ [])

room : (mark : Mark) (target : Option ℕ) (points : List ℤ) (at : ℕ) (out : List ℕ) → at + length (route_text mark target points) ≤ length out
    → at + (length (header mark) + length (ended (target_lines mark target)) + length (ended (point_lines mark points (count points)))) ≤ length out
room mark target points at out h =
    let t = ended (target_lines mark target) in
    let p = ended (point_lines mark points (count points)) in
    omega (arith, h, ap length (text_parts mark target points), length-append (header mark) (t ++ p), length-append t p)

begun : (c : After-put_header-second) → Stands c.args.out.now c.args.at (header c.args.mark) c.put_header-second.result c.put_header-second.new.out
begun c =
    let e = c.put_header-second.ensures in
    stands_more (stands_none c.args.out.now c.args.at) (header c.args.mark) (e.next, e.left)

both : (c : After-put_target-third) → Stands c.args.out.now c.args.at (header c.args.mark) c.put_header-second.result c.put_header-second.new.out
    → Stands c.args.out.now c.args.at (header c.args.mark ++ ended (target_lines c.args.mark c.args.self.now.target)) c.put_target-third.result c.put_target-third.new.out
both c b =
    let e = c.put_target-third.ensures in
    stands_more b (ended (target_lines c.args.mark c.args.self.now.target)) (e.next, e.left)

pub put_header-second-requires : goal.put_header-second-requires
put_header-second-requires c = let a = c.args in omega (arith, room a.mark a.self.now.target a.self.now.points a.at a.out.now c.requires)

pub put_target-third-requires : goal.put_target-third-requires
put_target-third-requires c =
    let a = c.args in
    let b = begun (goal.at.put_target-third-requires c).After-put_header-second in
    omega (arith, room a.mark a.self.now.target a.self.now.points a.at a.out.now c.requires, stands_length b, (stands_all b).0)

pub put_points-requires : goal.put_points-requires
put_points-requires c =
    let a = c.args in
    let at = goal.at.put_points-requires c in
    let t = both at.After-put_target-third (begun at.After-put_header-second) in
    omega (arith, room a.mark a.self.now.target a.self.now.points a.at a.out.now c.requires, stands_length t, (stands_all t).0, length-append (header a.mark) (ended (target_lines a.mark a.self.now.target)))

pub returns : goal.returns
returns c =
    let a = c.args in
    let at = goal.at.returns c in
    let t = both at.After-put_target-third (begun at.After-put_header-second) in
    let p = ended (point_lines a.mark a.self.now.points (count a.self.now.points)) in
    let whole : header a.mark ++ ended (target_lines a.mark a.self.now.target) ++ p ≡ route_text a.mark a.self.now.target a.self.now.points
    = append_assoc (header a.mark) (ended (target_lines a.mark a.self.now.target)) p ∙ sym (text_parts a.mark a.self.now.target a.self.now.points) in
    (stands_all (stands_as (stands_more t p (refl, c.put_points.ensures)) _ whole)).1
