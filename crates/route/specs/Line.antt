-- One line after line 1: what it is read as, judged by the lines before it, and what it leaves for the next.
-- "in a line 3 (2 for line 1), 8, 9, then the fields from the left, each 5, 4, then 6 or 7"
-- Assumes nothing.
use Rattle.std.specs.Prelude.{List, [], ◌∷◌, ◌++◌, ℕ, ◌*◌, ltb, ℤ, pos, nat_abs, if◌then◌else◌, Bool, true, false, Result, Ok, Err, Option, Some, None}
use Prim.Native.Char.{code}
use Rattle.refusals.specs.declared.Refusal.{Refusal}
use Rattle.refusals.specs.declared.Refusal.TheVariants as R
use Rattle.refusals.specs.Choice.{unless}
use Rattle.points.specs.Points.{point_numbers, count, most_points}
use Rattle.numbers.specs.declared.Mark.{Mark}
use Rattle.numbers.specs.declared.Kind.TheVariants as K
use Rattle.numbers.specs.Pieces.{TAB, split, is_byte}
use Rattle.numbers.specs.Number.{number_of}
use Rattle.route.specs.declared.lines.Before.{Before}
use Rattle.route.specs.declared.lines.Before.TheVariants as B
use Rattle.route.specs.declared.lines.Line.{Line}
use Rattle.route.specs.declared.lines.Line.TheVariants as L

-- ---- the three kinds of line, judged by what the line before it is

abbrev pub same_kind : Before → Before → Bool
same_kind B.Header B.Header = true
same_kind B.Target B.Target = true
same_kind B.Point B.Point = true
same_kind B.Gap B.Gap = true
same_kind a b = false

-- "the caller takes the value out or passes the refusal on"
abbrev pub taken : Result ℤ Refusal → (ℤ → Result Line Refusal) → Result Line Refusal
taken (Ok v) f = f v
taken (Err r) f = Err r

-- "It is judged by the line before it, which must be a `p` line"
unfoldable pub gap_of : Before → List ℕ → Result Line Refusal
gap_of before k =
    unless (is_byte (code "g") k) (Err R.Line)
    (unless (same_kind before B.Point) (Err R.Order)
    (Ok L.Gap))

-- millimetres in a metre
abbrev pub metre : ℕ
metre = 1_000

-- "only as line 2, at most once"; a target's third decimal is a metre
unfoldable pub target_of : Mark → Before → List ℕ → List ℕ → Result Line Refusal
target_of mark before k s =
    unless (is_byte (code "t") k) (Err R.Line)
    (unless (same_kind before B.Header) (Err R.Order)
    (taken (number_of K.Target mark s) (λ metres.
    Ok (L.Target (metre * nat_abs metres)))))

-- "latitude, tab, longitude in degrees; at most 1,000 such lines": n stand before it
unfoldable pub point_of : Mark → ℕ → List ℕ → List ℕ → List ℕ → Result Line Refusal
point_of mark n k s t =
    unless (is_byte (code "p") k) (Err R.Line)
    (unless (ltb n most_points) (Err R.Points)
    (taken (number_of K.Latitude mark s) (λ lat.
    (taken (number_of K.Longitude mark t) (λ lon.
    Ok (L.Point lat lon))))))

-- the fields, the kind as the first
abbrev pub fields_of : Mark → Before → ℕ → List (List ℕ) → Result Line Refusal
fields_of mark before n [] = Err R.Line
fields_of mark before n (k ∷ []) = gap_of before k
fields_of mark before n (k ∷ (s ∷ [])) = target_of mark before k s
fields_of mark before n (k ∷ (s ∷ (t ∷ []))) = point_of mark n k s t
fields_of mark before n (k ∷ (s ∷ (t ∷ (u ∷ us)))) = Err R.Line

-- ---- what the lines so far leave

pub record Seen : Type 0 where
  pub before : Before
  pub points : List ℤ
  pub target : Option ℕ

-- after line 1
abbrev pub fresh : Seen
fresh = record { before = B.Header; points = []; target = None }

unfoldable pub line_of : Mark → Seen → List ℕ → Result Line Refusal
line_of mark w s = fields_of mark w.before (count w.points) (split TAB s)

-- "1 for the first point and after `g`, else 0": the line before such a point is no `p` line
abbrev pub third_of : Before → ℤ
third_of before = if same_kind before B.Point then pos 0 else pos 1

abbrev pub after_of : Seen → Line → Seen
after_of w (L.Target mm) = record { before = B.Target; points = w.points; target = Some mm }
after_of w (L.Point lat lon) = record { before = B.Point; points = w.points ++ point_numbers lat lon (third_of w.before); target = w.target }
after_of w L.Gap = record { before = B.Gap; points = w.points; target = w.target }
