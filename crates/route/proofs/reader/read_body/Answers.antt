-- The points of an accepted text are copied to the start of the lent buffer, where the globe measures them and refuses none.
use Rattle.refusals.specs.declared.Refusal.{Refusal}
use Rattle.std.proofs.Common.{Result, ◌≡◌, ℕ, ◌*◌, ◌≤◌, List, ℤ, length, take, sym, ap, ◌∙◌, arith}
use lib.Seq.{length-take-le, take_at}
use Rattle.points.specs.Points.{numbers, most_points}
use Rattle.globe.specs.Measure.{length_up_to, measure_of}
use Rattle.globe.specs.Paper.{length_paper}
use Rattle.numbers.specs.declared.Mark.{Mark}
use Rattle.numbers.specs.Pieces.{LF, split}
use Rattle.route.specs.declared.lines.State.{State}
use Rattle.route.specs.Line.{fresh}
use Rattle.route.specs.Route.{accepted, walk_from}
use Rattle.route.specs.LineLaws.{seen_in}
use Rattle.route.proofs.LineLaws.{seen_count}
use Rattle.route.proofs.RouteLaws.{AllRead, walked, measured}
use Rattle.route.proofs.reader.read_body.Goals as goal

-- an accepted text: the start of our own buffer has its points
module _ (mark : Mark) (buffer own : List ℤ) (pieces : List (List ℕ)) (st : State) (few : st.points ≤ most_points) (long : numbers * most_points ≤ length own)
    (judged : walk_from mark (length buffer) 2 fresh pieces ≡ accepted (seen_in st own)) where
  all : AllRead mark (length buffer) pieces (seen_in st own)
  all = walked mark (length buffer) 2 pieces judged

  held : numbers * st.points ≤ length own
  held = omega (arith, few, long)

  some : length (take (numbers * st.points) own) ≡ numbers * st.points
  some = length-take-le (numbers * st.points) own held

  room : numbers * st.points ≤ length buffer
  room = omega (arith, some, all.fits)

pub copy-requires-clause-n_in_bounds_2 : goal.copy-requires-clause-n_in_bounds_2
copy-requires-clause-n_in_bounds_2 c =
    let own = c.read_lines.new.own in
    let long : numbers * most_points ≤ length own = omega (arith, c.read_lines.auto.own, c.requires.most_points_in_bounds) in
    room c.args.mark c.args.buffer.now own (split LF c.args.text.now) c.in_ok-st.st (rw c.in_ok-st.was at c.read_lines.ensures.few) long (sym (rw c.in_ok-st.was at c.read_lines.ensures.walked))

pub returns-clause-answer : goal.returns-clause-answer
returns-clause-answer c =
    let own = c.read_lines.new.own in
    let st = c.in_ok-st.st in
    let n = numbers * st.points in
    let pieces = split LF c.args.text.now in
    let few : c.in_ok-st.st.points ≤ most_points = (rw c.in_ok-st.was at c.read_lines.ensures.few) in
    let long : numbers * most_points ≤ length own = omega (arith, c.read_lines.auto.own, c.requires.most_points_in_bounds) in
    let judged : walk_from c.args.mark (length c.args.buffer.now) 2 fresh pieces ≡ accepted (seen_in st own) = sym (rw c.in_ok-st.was at c.read_lines.ensures.walked) in
    let s = some c.args.mark c.args.buffer.now own pieces st few long judged in
    let filled : take n c.copy.new.buffer ≡ take n own = ap (take n) c.copy.ensures ∙ take_at (take n own) _ n s in
    let l = c.measure.ensures ∙ ap measure_of filled ∙ measured (all c.args.mark c.args.buffer.now own pieces st few long judged).reads in
    let k = seen_count st.points own (held c.args.mark c.args.buffer.now own pieces st few long judged) in
    let mm : c.millimetres.result ≡ length_up_to (take n own) st.points
    = c.millimetres.ensures ∙ ap (λ (x : Result ℕ Refusal). (length_paper x).millimetres) l ∙ ap (length_up_to (take n own)) k in
    rw (judged, k, mm)
