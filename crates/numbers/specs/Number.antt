-- "A number is an optional minus, one to three digits, then nothing or the named mark with one to seven digits."
-- Said once over the kind of field: how many digits may stand after the mark, whether a minus may stand first, and the range.
-- Assumes nothing.
use Rattle.std.specs.Prelude.{Bool, true, false, not, ◌&&◌, ◌||◌, List, [], ◌∷◌, ◌++◌, ℕ, suc, ◌+◌, ◌-◌, ◌*◌, ◌^◌, leb, ℤ, pos, neg_ℤ, length, take, drop, if◌then◌else◌, Result, Ok, Err}
use Rattle.refusals.specs.declared.Refusal.{Refusal}
use Rattle.refusals.specs.declared.Refusal.TheVariants as R
use Rattle.refusals.specs.Choice.{unless}
use Rattle.ticks.specs.Ticks.{is_latitude, is_longitude}
use Rattle.numbers.specs.declared.Mark.{Mark}
use Rattle.numbers.specs.declared.Mark.TheVariants as M
use Rattle.numbers.specs.declared.Kind.{Kind}
use Rattle.numbers.specs.declared.Kind.TheVariants as K
use Rattle.numbers.specs.Pieces.{index_of, holds, is_byte}

-- ---- digits

-- 48 is the byte of 0, and 57 that of 9
abbrev pub all_digits : List ℕ → Bool
all_digits [] = true
all_digits (b ∷ s) = leb 48 b && leb b 57 && all_digits s

-- one to `most` digits, and nothing else
abbrev pub are_digits : ℕ → List ℕ → Bool
are_digits most s = leb 1 (length s) && leb (length s) most && all_digits s

-- what digits make
abbrev pub value_of : List ℕ → ℕ
value_of [] = 0
value_of (b ∷ s) = (b - 48) * 10 ^ length s + value_of s

-- ---- the kinds of field

-- "with one to seven digits"; "A target has .. at most three decimals"
abbrev pub places : Kind → ℕ
places K.Latitude = 7
places K.Longitude = 7
places K.Target = 3

-- "A target has no minus"
abbrev pub takes_minus : Kind → Bool
takes_minus K.Latitude = true
takes_minus K.Longitude = true
takes_minus K.Target = false

-- "then 6 or 7"
abbrev pub ranged : Kind → ℤ → Result ℤ Refusal
ranged K.Latitude v = unless (is_latitude v) (Err R.Latitude) (Ok v)
ranged K.Longitude v = unless (is_longitude v) (Err R.Longitude) (Ok v)
ranged K.Target v = Ok v

-- ---- the number

abbrev pub MINUS : ℕ
MINUS = 45

-- the mark that the header names, and the one that it does not
abbrev pub named_byte : Mark → ℕ
named_byte M.Point = 46
named_byte M.Comma = 44

abbrev pub other_byte : Mark → ℕ
other_byte M.Point = 44
other_byte M.Comma = 46

-- without its minus: one to three digits w, "then nothing or the named mark" m "with" digits d. "Decimals are exact: a seventh decimal is a tick, a
-- target's third is a metre": read on to the last decimal that the kind allows.
abbrev pub plain_of : Kind → (ℤ → ℤ) → ℕ → List ℕ → Result ℤ Refusal
plain_of kind sign m s =
    let w = take (index_of m s) s in
    let d = drop (suc (index_of m s)) s in
    unless (are_digits 3 w && (not (holds m s) || are_digits (places kind) d)) (Err R.Number)
    (ranged kind (sign (pos (value_of (w ++ d) * 10 ^ (places kind - length d)))))

-- "Reading a number answers its value or its refusal": "each 5, 4, then 6 or 7". The other mark anywhere in the field is 5, whatever else is there.
unfoldable pub number_of : Kind → Mark → List ℕ → Result ℤ Refusal
number_of kind mark s =
    if holds (other_byte mark) s then Err R.Mark else
    (if takes_minus kind && is_byte MINUS (take 1 s) then plain_of kind neg_ℤ (named_byte mark) (drop 1 s)
    else plain_of kind (λ z. z) (named_byte mark) s)
