-- The text of a value. "Each number is written one way: no leading zeros but a lone 0, no decimals that end in zero, no bare mark, no minus on zero."
-- Said once over the kind of field and the mark.
-- Assumes nothing.
use Rattle.std.specs.Prelude.{Bool, true, false, ◌&&◌, List, [], ◌∷◌, ◌++◌, ℕ, zero, suc, ◌+◌, ◌/◌, ◌%◌, ◌^◌, leb, eqb, ℤ, pos, negsuc, nat_abs, if◌then◌else◌}
use Rattle.numbers.specs.declared.Mark.{Mark}
use Rattle.numbers.specs.declared.Kind.{Kind}
use Rattle.numbers.specs.Number.{MINUS, named_byte, places}

-- the digits of n from the left, the first worth 10 ^ (k - 1), 48 being the byte of 0: all k of them or, where `short`, up to the last that is not 0
abbrev pub digits : Bool → ℕ → ℕ → List ℕ
digits short zero n = []
digits short (suc k) n = if short && eqb n 0 then [] else (48 + n / 10 ^ k) ∷ digits short k (n % 10 ^ k)

-- how many digits n has, of at most `most`: "no leading zeros but a lone 0"
abbrev pub width : ℕ → ℕ → ℕ
width zero n = 1
width (suc k) n = if leb (10 ^ k) n then suc k else width k n

-- no number of 32 bits has more than ten
abbrev pub whole_of : ℕ → List ℕ
whole_of n = digits false (width 10 n) n

-- n in units of the last of p decimals: "no decimals that end in zero, no bare mark" m
abbrev pub decimals_of : ℕ → ℕ → ℕ → List ℕ
decimals_of p m n = if eqb n 0 then [] else m ∷ digits true p n

-- "no minus on zero"
abbrev pub minus_of : ℤ → List ℕ
minus_of (pos n) = []
minus_of (negsuc n) = MINUS ∷ []

-- v is in units of the last decimal that its kind allows: ticks, or a target's metres
unfoldable pub numeral_of : Kind → Mark → ℤ → List ℕ
numeral_of kind mark v =
    minus_of v ++ (whole_of (nat_abs v / 10 ^ places kind) ++ decimals_of (places kind) (named_byte mark) (nat_abs v % 10 ^ places kind))
