-- "Each number is written one way": the rules of the document about any text, apart from how a number is written, and what a field can say.
-- Assumes nothing.
use Rattle.std.specs.Prelude.{◌≡◌, Bool, true, ◌&&◌, List, [], ◌∷◌, ◌++◌, ℕ, ℤ, pos}
use Rattle.std.specs.Int.Signed.{le_z}
use Rattle.ticks.specs.Ticks.{is_latitude, is_longitude}
use Rattle.numbers.specs.declared.Mark.{Mark}
use Rattle.numbers.specs.declared.Kind.{Kind}
use Rattle.numbers.specs.declared.Kind.TheVariants as K
use Rattle.numbers.specs.Number.{named_byte}
use Rattle.numbers.specs.DigitLaws.{is_digit}
use Rattle.numbers.specs.Written.{sign}

-- what a field of the kind can say; of a target, with "one to three digits", "no minus and at most three decimals", up to 999,999 metres
abbrev pub fits : Kind → ℤ → Bool
fits K.Latitude v = is_latitude v
fits K.Longitude v = is_longitude v
fits K.Target v = le_z (pos 0) v && le_z v (pos 999_999)

-- what the text s of the value v is not; 45 is the byte of a minus, and 48 that of 0
pub record Neat (mark : Mark) (s : List ℕ) (v : ℤ) : Type 0 where
  -- "no leading zeros but a lone 0"
  pub no_leading_zero : (minus : Bool) (b : ℕ) (z : List ℕ) → is_digit b ≡ true → s ≡ sign minus ++ 48 ∷ b ∷ z → ⊥
  -- "no decimals that end in zero"
  pub no_ending_zero : (a z : List ℕ) → s ≡ a ++ named_byte mark ∷ (z ++ 48 ∷ []) → ⊥
  -- "no bare mark": it stands neither last nor, but for a minus, first
  pub no_bare_mark : (a : List ℕ) → s ≡ a ++ named_byte mark ∷ [] → ⊥
  pub no_first_mark : (minus : Bool) (z : List ℕ) → s ≡ sign minus ++ named_byte mark ∷ z → ⊥
  -- "no minus on zero"
  pub no_minus_zero : v ≡ pos 0 → (z : List ℕ) → s ≡ 45 ∷ z → ⊥
