-- What the writer promises of every point buffer, target, mark and output, in the paper's numbers; docs/PROMISES.md names these theorems.
-- Assumes nothing.
use Rattle.std.specs.Prelude.{◌≡◌, refl, true, ◌&&◌, List, ◌++◌, ℕ, zero, suc, ◌%◌, ◌≤◌, ◌<◌, leb, eqb, ℤ, length, take, drop, Option, Some, None, Ok, Err}
use Rattle.std.proofs.Math.Path.{ap}
use Rattle.std.proofs.Common.{arith, eq-eqb, eqb-true, le-leb, leb-true}
use Rattle.refusals.specs.declared.Refusal.{Refusal}
use Rattle.refusals.specs.declared.Refusal.TheVariants as R
use Rattle.refusals.specs.Refusal.{number}
use Rattle.refusals.specs.Choice.{Check, fine, first_of}
use Rattle.refusals.specs.Tests.{by_test, clash, and_true, true_and}
use Rattle.points.specs.Points.{count, buffer_refusal}
use Rattle.points.proofs.Promises.{Judged, buffer_judged}
use Rattle.globe.specs.Measure.{measure_of}
use Rattle.globe.proofs.MeasureLaws.{accepted_measured}
use Rattle.globe.specs.Met.{most_target}
use Rattle.globe.specs.Paper.{length_paper}
use Rattle.numbers.specs.declared.Mark.{Mark}
use Rattle.numbers.specs.declared.Mark.TheVariants as M
use Rattle.numerals.proofs.OutputLaws.{Outcome, outcome, not_refused}
use Rattle.route.specs.Line.{metre}
use Rattle.route.specs.Route.{reading_of, buffer_of}
use Rattle.route.specs.Paper.{reading_paper}
use Rattle.route.specs.Words.{paper}
use Rattle.writer.specs.RouteText.{route_text, target_refusal, text_refusal}
use Rattle.writer.specs.Paper.{answer, left, target_of, mark_of}
use Rattle.writer.proofs.RouteTextLaws.{text_accepted, text_length, walk_back}

-- ---- a target and a mark that are given in numbers

-- n says whether there is a target, and what stands beside it is not looked at where there is none; n names the mark
pub record Given (n mm : ℕ) : Type 0 where
  pub no_target : n ≡ 0 → target_of n mm ≡ None
  pub a_target : 0 < n → target_of n mm ≡ Some mm
  pub the_point : n ≡ 0 → mark_of n ≡ M.Point
  pub the_comma : 0 < n → mark_of n ≡ M.Comma

pub given : (n mm : ℕ) → Given n mm
given zero mm = record { no_target = λ _. refl; a_target = λ h. absurd (omega arith); the_point = λ _. refl; the_comma = λ h. absurd (omega arith) }
given (suc n) mm = record { no_target = λ h. absurd (omega arith); a_target = λ _. refl; the_point = λ h. absurd (omega arith); the_comma = λ _. refl }

-- ---- which refusal

-- none of "target not a whole number of metres or above 999,999,000 mm"
pub data Allowed : Option ℕ → Type 0 where
  none : Allowed None
  some : {mm : ℕ} → mm % 1_000 ≡ 0 → mm ≤ 999_999_000 → Allowed (Some mm)

-- 17, 9, 6 and 7 by point, then 16; no case is another
pub data TextJudged (target : Option ℕ) (points : List ℤ) : Check → Type 0 where
  bad_points : {r : Refusal} → Judged points (Err r) → TextJudged target points (Err r)
  bad_target : Judged points fine → (Allowed target → ⊥) → number R.Target ≡ 16 → TextJudged target points (Err R.Target)
  accepted : Judged points fine → Allowed target → TextJudged target points fine

target_judged : (target : Option ℕ) (points : List ℤ) → Judged points fine → TextJudged target points (target_refusal target)
unfolding target_refusal
target_judged None points j = accepted j none
target_judged (Some mm) points j =
    by_test (eqb (mm % metre) 0 && leb mm most_target)
    (λ t. let p = and_true (eqb (mm % metre) 0) (leb mm most_target) t in rw t (accepted j (some (eqb-true (mm % metre) 0 p.0) (leb-true mm most_target p.1))))
    (λ t. rw t (bad_target j (λ h. clash (test h) t) refl))
  where
    test : Allowed (Some mm) → eqb (mm % metre) 0 && leb mm most_target ≡ true
    test (some w l) = true_and (eq-eqb (mm % metre) 0 w) (le-leb mm most_target l)

pub text_judged : (target : Option ℕ) (points : List ℤ) → TextJudged target points (text_refusal target points)
unfolding text_refusal
text_judged target points = go (buffer_refusal points) (buffer_judged points)
  where
    go : (c : Check) → Judged points c → TextJudged target points (first_of c (target_refusal target))
    go (Ok tt) j = target_judged target points j
    go (Err r) j = bad_points j

-- ---- what is written where

-- "order 17, 9, 6 and 7 by point, 16, 15": what refuses the text itself, n, is answered first
pub record WriteJudged (mark : Mark) (target : Option ℕ) (points : List ℤ) (place : ℕ) (out : List ℕ) : Type 0 where
  pub n : Check
  pub text : TextJudged target points n
  pub room : Outcome n (route_text mark target points) place out (answer mark target points place out) (left mark target points place out)

pub write_judged : (mark : Mark) (target : Option ℕ) (points : List ℤ) (place : ℕ) (out : List ℕ) → WriteJudged mark target points place out
write_judged mark target points place out =
    record {
      n = text_refusal target points;
      text = text_judged target points;
      room = outcome (route_text mark target points) place out (omega (arith, text_length mark target points)) (text_refusal target points);
    }

-- ---- what is read back

-- "Reading what was written gives back points, target and length."
pub record ReadBack (target : Option ℕ) (points : List ℤ) (text : List ℕ) (buffer : List ℤ) : Type 0 where
  -- no refusal, so many points, their length as it is measured, and the target
  pub reading : paper text buffer ≡ reading_paper (Ok (record { points = count points; length = (length_paper (measure_of points)).millimetres; target = target }))
  pub measured : (length_paper (measure_of points)).refusal ≡ 0
  -- each number of each point; "The rest of the buffer is unchanged."
  pub points_read : buffer_of text buffer ≡ points ++ drop (length points) buffer

module _ (mark : Mark) (target : Option ℕ) (points : List ℤ) where
  text_back : text_refusal target points ≡ fine → (buffer : List ℤ) → length points ≤ length buffer → ReadBack target points (route_text mark target points) buffer
  unfolding reading_of buffer_of
  text_back e buffer h =
      let walk = walk_back mark target points e (length buffer) h in
      let measured = accepted_measured points (text_accepted target points e).0 in
      let told : reading_of (route_text mark target points) (length buffer)
      ≡ Ok (record { points = count points; length = (length_paper (measure_of points)).millimetres; target = target }) = rw (walk, measured) in
      record { reading = ap reading_paper told; measured = rw measured; points_read = rw walk }

  -- the bytes that stand in the output, as many as were answered
  pub read_back : (place : ℕ) (out : List ℕ) → (answer mark target points place out).refusal ≡ 0 → (buffer : List ℤ) → length points ≤ length buffer
      → ReadBack target points (take (answer mark target points place out).bytes (drop place (left mark target points place out))) buffer
  unfolding write_judged
  read_back place out z buffer h =
      let w = not_refused (write_judged mark target points place out).room z in
      rw w.1.there (text_back w.0 buffer h)
