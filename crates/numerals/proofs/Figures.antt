-- Figures about numbers that are written, proved about the definition.
-- Assumes nothing.
use Rattle.std.specs.Prelude.{◌≡◌, refl, ℤ, pos, neg_ℤ}
use Prim.Native.String.{String}
use Rattle.numbers.specs.declared.Mark.{Mark}
use Rattle.numbers.specs.declared.Mark.TheVariants as M
use Rattle.numbers.specs.declared.Kind.{Kind}
use Rattle.numbers.specs.declared.Kind.TheVariants as K
use Rattle.numbers.specs.Text.{bytes}
use Rattle.numerals.specs.Numeral.{numeral_of}

-- a value, and the text that is written of it
abbrev pub Writes : Kind → Mark → ℤ → String → Type 0
Writes kind mark v text = numeral_of kind mark v ≡ bytes text

pub west_a_tick : Writes K.Longitude M.Point (neg_ℤ (pos 1)) "-0.0000001"
unfolding numeral_of
west_a_tick = refl

pub lone_zero : (kind : Kind) (mark : Mark) → Writes kind mark (pos 0) "0"
unfolding numeral_of
lone_zero K.Latitude mark = refl
lone_zero K.Longitude mark = refl
lone_zero K.Target mark = refl

pub half_a_degree : Writes K.Longitude M.Comma (pos 105_000_000) "10,5"
unfolding numeral_of
half_a_degree = refl

pub date_line : Writes K.Longitude M.Comma (neg_ℤ (pos 1_800_000_000)) "-180"
unfolding numeral_of
date_line = refl

pub target_written : Writes K.Target M.Comma (pos 2_500) "2,5"
unfolding numeral_of
target_written = refl
