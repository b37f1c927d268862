-- The text of a value by its parts. Apart from `NumeralSteps`, which the types of the parts cite.
-- Assumes nothing.
use Rattle.std.specs.Prelude.{List, [], ◌∷◌, ◌++◌, ℕ, eqb, if◌then◌else◌}
use Rattle.numerals.specs.declared.digits.Digits.{Digits}
use Rattle.numerals.specs.declared.digits.Parts.{Parts}
use Rattle.numerals.specs.NumeralSteps.{topmost, sign_text}

-- with the mark m; no decimals have no mark
abbrev pub marked_text : Digits → ℕ → List ℕ
marked_text d m = if eqb d.count 0 then [] else m ∷ topmost d.count d.value

abbrev pub parts_text : Parts → ℕ → List ℕ
parts_text p m = sign_text p.minus ++ (topmost p.whole.count p.whole.value ++ marked_text p.decimals m)
