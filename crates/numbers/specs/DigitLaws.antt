-- Laws of digits: those that stand first in a text, how they are walked from the left, and how large a number they make.
-- Assumes nothing.
use Rattle.std.specs.Prelude.{Bool, ◌&&◌, List, [], ◌∷◌, ℕ, zero, suc, ◌+◌, ◌-◌, ◌*◌, leb, if◌then◌else◌}

-- what fits 64 bits with its sign
abbrev pub most_digits : ℕ
most_digits = 18

abbrev pub is_digit : ℕ → Bool
is_digit b = leb 48 b && leb b 57

-- the digits read from the left, after those that make v
abbrev pub value_from : ℕ → List ℕ → ℕ
value_from v [] = v
value_from v (b ∷ s) = value_from (v * 10 + (b - 48)) s

-- the digits that stand first, at most so many
abbrev pub leading : ℕ → List ℕ → List ℕ
leading zero s = []
leading (suc most) [] = []
leading (suc most) (b ∷ s) = if is_digit b then b ∷ leading most s else []
