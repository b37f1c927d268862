-- The text of a route as code counts and writes it: point by point, and as long under either mark.
-- Assumes nothing.
use Rattle.std.specs.Prelude.{Bool, ◌&&◌, List, [], ◌∷◌, ◌++◌, ℕ, ◌/◌, leb, ℤ, pos, Option, Some, None}
use Rattle.signed.specs.Tests.{eq_z}
use Rattle.points.specs.Points.{latitude_at, longitude_at, third_at}
use Rattle.numbers.specs.declared.Mark.{Mark}
use Rattle.numbers.specs.Pieces.{LF}
use Rattle.route.specs.Line.{metre}
use Rattle.writer.specs.RouteText.{gap_before, point_line, ended}

abbrev pub has_gap : List ℤ → ℕ → Bool
has_gap b i = leb 1 i && eq_z (third_at b i) (pos 1)

-- of point i, with the gap before it
abbrev pub point_text : Mark → List ℤ → ℕ → List ℕ
point_text mark b i = ended (gap_before b i) ++ (point_line mark (latitude_at b i) (longitude_at b i) ++ (LF ∷ []))

-- a target's number, as its line has it
abbrev pub metres_of : Option ℕ → Option ℤ
metres_of None = None
metres_of (Some mm) = Some (pos (mm / metre))
