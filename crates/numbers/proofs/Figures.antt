-- Figures of the document about numbers, proved about the definition, in the paper's numbers.
-- Assumes nothing.
use Rattle.std.specs.Prelude.{◌≡◌, refl, ℕ, ℤ, pos, neg_ℤ}
use Prim.Native.String.{String}
use Rattle.numbers.specs.declared.Mark.{Mark}
use Rattle.numbers.specs.declared.Mark.TheVariants as M
use Rattle.numbers.specs.declared.Kind.{Kind}
use Rattle.numbers.specs.declared.Kind.TheVariants as K
use Rattle.numbers.specs.Text.{bytes}
use Rattle.numbers.specs.Number.{number_of}
use Rattle.numbers.specs.Paper.{number_paper}

-- the paper's refusal and value of a text
abbrev pub Answers : Kind → Mark → String → ℕ → ℤ → Type 0
Answers kind mark text n v = number_paper (number_of kind mark (bytes text)) ≡ record { refusal = n; value = v }

-- "`t` `2,500` is 2,500,000 mm under comma, 5 under point": a target is in metres
pub target_comma : Answers K.Target M.Comma "2,500" 0 (pos 2_500)
unfolding number_of
target_comma = refl

pub target_point : Answers K.Target M.Point "2,500" 5 (pos 0)
unfolding number_of
target_point = refl

-- "`5,` under comma is 4"
pub bare_mark : Answers K.Target M.Comma "5," 4 (pos 0)
unfolding number_of
bare_mark = refl

-- "`1.234,5` is 5 under either"
pub grouped : (kind : Kind) (mark : Mark) → Answers kind mark "1.234,5" 5 (pos 0)
unfolding number_of
grouped kind M.Point = refl
grouped kind M.Comma = refl

-- "Longitude 180: 7; -180: accepted."
pub longitude_180 : Answers K.Longitude M.Point "180" 7 (pos 0)
unfolding number_of
longitude_180 = refl

pub longitude_180_west : Answers K.Longitude M.Point "-180" 0 (neg_ℤ (pos 1_800_000_000))
unfolding number_of
longitude_180_west = refl

-- "Latitude 90: accepted; 90.0000001: 6."
pub latitude_90 : Answers K.Latitude M.Point "90" 0 (pos 900_000_000)
unfolding number_of
latitude_90 = refl

pub latitude_past_90 : Answers K.Latitude M.Point "90.0000001" 6 (pos 0)
unfolding number_of
latitude_past_90 = refl

-- "a seventh decimal is a tick, a target's third is a metre"
pub a_tick : Answers K.Longitude M.Comma "0,0000001" 0 (pos 1)
unfolding number_of
a_tick = refl

pub a_metre : Answers K.Target M.Point "0.001" 0 (pos 1)
unfolding number_of
a_metre = refl

-- "Leading zeros and a minus before zero are allowed."
pub leading_zeros : Answers K.Target M.Point "007" 0 (pos 7_000)
unfolding number_of
leading_zeros = refl

pub minus_zero : Answers K.Latitude M.Comma "-0" 0 (pos 0)
unfolding number_of
minus_zero = refl

-- "A target has no minus"
pub target_minus_zero : Answers K.Target M.Comma "-0" 4 (pos 0)
unfolding number_of
target_minus_zero = refl
