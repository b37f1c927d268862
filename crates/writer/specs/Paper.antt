-- A writing in the paper's own numbers: its length, what is answered, what stands in the output afterwards, and how a target and a mark are given in numbers.
-- Assumes nothing.
use Rattle.std.specs.Prelude.{List, ℕ, zero, suc, ℤ, Option, Some, None}
use Rattle.numbers.specs.declared.Mark.{Mark}
use Rattle.numbers.specs.declared.Mark.TheVariants as M
use Rattle.numerals.specs.declared.WritingOut.{WritingOut}
use Rattle.numerals.specs.Output.{writing_of, output_of}
use Rattle.numerals.specs.Paper.{writing_paper}
use Rattle.writer.specs.RouteText.{route_text, text_refusal}
use Rattle.writer.specs.Room.{size_of}

abbrev pub sized : Mark → Option ℕ → List ℤ → WritingOut
sized mark target points = writing_paper (size_of mark target points)

abbrev pub answer : Mark → Option ℕ → List ℤ → ℕ → List ℕ → WritingOut
answer mark target points place out = writing_paper (writing_of (text_refusal target points) (route_text mark target points) place out)

abbrev pub left : Mark → Option ℕ → List ℤ → ℕ → List ℕ → List ℕ
left mark target points place out = output_of (text_refusal target points) (route_text mark target points) place out

-- "an optional unsigned target in millimetres": 0 says that there is none, whatever number stands beside it
abbrev pub target_of : ℕ → ℕ → Option ℕ
target_of zero mm = None
target_of (suc n) mm = Some mm

-- 0 is the point, any other number the comma
abbrev pub mark_of : ℕ → Mark
mark_of zero = M.Point
mark_of (suc n) = M.Comma
