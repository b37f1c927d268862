-- Figures of the document: entries of the table, the sines that they give, and ways back from a short sine. Entry 0 is `Rules.first`,
-- entry 4500 `Rules.last`, and the long sine of 1 tick `SineLaws.long_sine_tick`.
-- Assumes nothing.
use Rattle.std.specs.Prelude.{◌≡◌, refl}
use Rattle.std.proofs.Common.{sym, ◌∙◌, arith}
use Rattle.sines.specs.Table.{sines, sines_from, rounded, sine_of_step, twice_cosine, entry}
use Rattle.sines.proofs.Rules.{last}
use Rattle.sines.specs.Sine.{sine_by, long_sine, quarter_halves, long_sine_half}
use Rattle.sines.specs.SineLaws.{between}
use Rattle.sines.proofs.SineLaws.{a_step, between_start, in_row, some_halves, long_sine_half_1}
use Rattle.sines.specs.Back.{greatest_angle}
use Rattle.sines.proofs.BackLaws.{last_angle_top, greatest_angle_lem, greatest_own}

-- ---- the table

-- "entry 1 is 3,490,658,433"
pub entry_1 : entry 1 ≡ 3_490_658_433
unfolding entry sines sines_from rounded sine_of_step twice_cosine
entry_1 = refl

-- "entry 1500 is 5×10^12"
pub entry_1500 : entry 1_500 ≡ 5_000_000_000_000
unfolding entry sines sines_from rounded sine_of_step twice_cosine
entry_1500 = refl

-- and others that figures rest on
entry_3000 : entry 3_000 ≡ 8_660_254_037_844
unfolding entry sines sines_from rounded sine_of_step twice_cosine
entry_3000 = refl

entry_4499 : entry 4_499 ≡ 9_999_999_390_765
unfolding entry sines sines_from rounded sine_of_step twice_cosine
entry_4499 = refl

-- ---- sines

-- of 30 and of 60 degrees
pub long_30 : long_sine 300_000_000 ≡ 5_000_000_000_000
unfolding sine_by between
long_30 = between_start a_step 1_500 ∙ entry_1500

pub long_60 : long_sine 600_000_000 ≡ 8_660_254_037_844
unfolding sine_by between
long_60 = between_start a_step 3_000 ∙ entry_3000

-- of a tick less than 90 degrees
pub long_before_90 : long_sine 899_999_999 ≡ 9_999_999_999_996
unfolding between
long_before_90 = in_row a_step 4_499 {f = 199_999} (omega arith) ∙ rw (entry_4499, last)

-- of 31 half ticks, of a tenth of a degree and of 45 degrees
long_half_31 : long_sine_half 31 ≡ 270_526
unfolding sine_by entry sines sines_from rounded sine_of_step twice_cosine
long_half_31 = refl

pub long_half_tenth : long_sine_half 2_000_000 ≡ 17_453_283_659
unfolding sine_by entry sines sines_from rounded sine_of_step twice_cosine
long_half_tenth = refl

pub long_half_45 : long_sine_half 900_000_000 ≡ 7_071_067_811_865
unfolding sine_by entry sines sines_from rounded sine_of_step twice_cosine
long_half_45 = refl

-- ---- back to the greatest angle of a short sine of the length rule

pub greatest_1 : greatest_angle 1 ≡ 1
greatest_1 = rw long_sine_half_1 at (greatest_own {u = 1} (omega arith))

pub greatest_54 : greatest_angle 54 ≡ 31
greatest_54 = rw long_half_31 at (greatest_own {u = 31} (omega arith))

pub greatest_tenth : greatest_angle 3_490_656 ≡ 2_000_000
greatest_tenth = rw long_half_tenth at (greatest_own {u = 2_000_000} (omega arith))

pub greatest_45 : greatest_angle 1_414_213_562 ≡ 900_000_000
greatest_45 = rw long_half_45 at (greatest_own {u = 900_000_000} (omega arith))

pub greatest_90 : greatest_angle 2_000_000_000 ≡ quarter_halves
greatest_90 = sym (greatest_angle_lem some_halves {y = 10_000_000_004_999} 2_000_000_000 (omega arith) (omega arith) (last_angle_top some_halves (omega arith)))
