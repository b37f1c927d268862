-- The text of a route: from a point buffer, "an optional unsigned target in millimetres and a mark". And what refuses it.
-- Assumes nothing.
use Rattle.std.specs.Prelude.{◌&&◌, List, [], ◌∷◌, ◌++◌, ℕ, zero, suc, ◌/◌, ◌%◌, leb, eqb, ℤ, pos, if◌then◌else◌, Option, Some, None, Err}
use Prim.Native.Char.{code}
use Rattle.refusals.specs.declared.Refusal.TheVariants as R
use Rattle.refusals.specs.Choice.{unless, Check, fine, first_of}
use Rattle.signed.specs.Tests.{eq_z}
use Rattle.points.specs.Points.{latitude_at, longitude_at, third_at, count, buffer_refusal}
use Rattle.numbers.specs.declared.Mark.{Mark}
use Rattle.numbers.specs.declared.Kind.{Kind}
use Rattle.numbers.specs.declared.Kind.TheVariants as K
use Rattle.numbers.specs.Pieces.{LF, TAB}
use Rattle.numbers.specs.Text.{bytes}
use Rattle.numerals.specs.Numeral.{numeral_of}
use Rattle.globe.specs.Met.{most_target}
use Rattle.route.specs.Line.{metre}
use Rattle.route.specs.Words.{header_text}

-- ---- the lines, without their LF

-- "fields parted by tabs": a value, and the tab before it
abbrev pub field_of : Kind → Mark → ℤ → List ℕ
field_of kind mark v = TAB ∷ numeral_of kind mark v

abbrev pub target_lines : Mark → Option ℕ → List (List ℕ)
target_lines mark None = []
target_lines mark (Some mm) = (code "t" ∷ field_of K.Target mark (pos (mm / metre))) ∷ []

-- "A `g` line precedes every point after the first whose third number is 1."
abbrev pub gap_before : List ℤ → ℕ → List (List ℕ)
gap_before points i = if leb 1 i && eq_z (third_at points i) (pos 1) then bytes "g" ∷ [] else []

abbrev pub point_line : Mark → ℤ → ℤ → List ℕ
point_line mark lat lon = code "p" ∷ (field_of K.Latitude mark lat ++ field_of K.Longitude mark lon)

-- of the first n points
abbrev pub point_lines : Mark → List ℤ → ℕ → List (List ℕ)
point_lines mark points zero = []
point_lines mark points (suc i) = point_lines mark points i ++ (gap_before points i ++ (point_line mark (latitude_at points i) (longitude_at points i) ∷ []))

-- ---- the text

-- "lines ended by LF"
abbrev pub ended : List (List ℕ) → List ℕ
ended [] = []
ended (s ∷ ss) = s ++ (LF ∷ ended ss)

unfoldable pub route_text : Mark → Option ℕ → List ℤ → List ℕ
route_text mark target points = ended (header_text mark ∷ (target_lines mark target ++ point_lines mark points (count points)))

-- ---- what refuses it

-- "target not a whole number of metres or above 999,999,000 mm"
unfoldable pub target_refusal : Option ℕ → Check
target_refusal None = fine
target_refusal (Some mm) = unless (eqb (mm % metre) 0 && leb mm most_target) (Err R.Target) fine

-- "order 17, 9, 6 and 7 by point, 16, 15": 15 is judged by the room
unfoldable pub text_refusal : Option ℕ → List ℤ → Check
text_refusal target points = first_of (buffer_refusal points) (target_refusal target)
