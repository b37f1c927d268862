-- Figures of the document, proved about the definitions. Those about the table alone stand in sines.
-- Assumes nothing.
use Rattle.std.specs.Prelude.{◌≡◌, refl, ℕ, ◌+◌, ◌*◌, ◌/◌, ◌≤◌, ◌<◌, pos, neg_ℤ, Ok}
use Rattle.std.proofs.Common.{ap, ◌∙◌, arith}
use Rattle.roots.proofs.RootLaws.{root_is}
use Rattle.sines.specs.Table.{sines, sines_from, rounded, sine_of_step, twice_cosine, entry}
use Rattle.sines.specs.Sine.{step, sine_by, long_sine, long_sine_half}
use Rattle.sines.specs.SineLaws.{between}
use Rattle.sines.proofs.SineLaws.{long_sine_tick, long_sine_quarter, halves, long_sine_half_zero, long_sine_half_quarter, long_sine_half_1}
use Rattle.sines.specs.BackLaws.{LastAngle}
use Rattle.sines.specs.Back.{greatest_angle}
use Rattle.sines.proofs.Figures.{long_30, long_half_tenth, long_half_45, greatest_1, greatest_54, greatest_tenth, greatest_45, greatest_90}
use Rattle.ticks.specs.Ticks.{offset_of, folded, point_refusal}
use Rattle.globe.specs.Angle.{short_cosine, long_sine_of, short_sine_of, long_sine_half_of}
use Rattle.globe.proofs.AngleLaws.{cosine_pole}
use Rattle.globe.specs.Sheet.{cylinder, sinusoid, place, cylindrical_of, sinusoidal_of, cylindrical_back_of, sinusoidal_back_of}
use Rattle.globe.proofs.SheetLaws.{place_is, there_and_back, cylinder_invertible, back_nobody, back_at, sine_is}
use Rattle.globe.specs.Leg.{degree, degree_length, leg_cosine, length_of, leg_length, leg_of}
use Rattle.globe.proofs.LegLaws.{same_point, north_exact}
use Rattle.globe.specs.Paper.{sine_paper, place_paper, point_paper, length_paper}

-- ---- sines

long_2 : long_sine 2 ≡ 34_906
unfolding sine_by between entry sines sines_from rounded sine_of_step twice_cosine
long_2 = refl

-- "long sine of 1 tick is 17,453"
pub long_1 : sine_paper (long_sine_of (pos 1)) ≡ record { refusal = 0; value = pos 17_453 }
unfolding long_sine_of folded
long_1 = rw long_sine_tick

-- "short sine 1"
pub short_1 : sine_paper (short_sine_of (pos 1)) ≡ record { refusal = 0; value = pos 1 }
unfolding short_sine_of folded
short_1 = rw long_sine_tick

-- a tick less than 180 degrees, 150 degrees the other way, and a tick more than 180 degrees either way
pub long_round : (sine_paper (long_sine_of (pos 1_799_999_999)) ≡ record { refusal = 0; value = pos 17_453 })
    × (sine_paper (long_sine_of (neg_ℤ (pos 1_500_000_000))) ≡ record { refusal = 0; value = neg_ℤ (pos 5_000_000_000_000) })
    × (sine_paper (long_sine_of (pos 1_800_000_001)) ≡ record { refusal = 6; value = pos 0 })
    × (sine_paper (long_sine_of (neg_ℤ (pos 1_800_000_001))) ≡ record { refusal = 6; value = pos 0 })
unfolding long_sine_of folded
long_round =
    (ap (λ (n : ℕ). record { refusal = 0; value = pos n }) long_sine_tick, ap (λ (n : ℕ). record { refusal = 0; value = neg_ℤ (pos n) }) long_30, refl, refl)

-- half a tick, a tick, and what lies outside
pub half : (sine_paper (long_sine_half_of (pos 1)) ≡ record { refusal = 0; value = pos 8_726 })
    × (sine_paper (long_sine_half_of (pos 2)) ≡ record { refusal = 0; value = pos 17_453 })
    × (sine_paper (long_sine_half_of (neg_ℤ (pos 1))) ≡ record { refusal = 6; value = pos 0 })
    × (sine_paper (long_sine_half_of (pos 1_800_000_001)) ≡ record { refusal = 6; value = pos 0 })
unfolding long_sine_half_of
half = (rw long_sine_half_1, rw (halves 1, long_sine_tick), refl, refl)

-- ---- the cylindrical sheet, with meridian 0

-- "cylindrical, meridian 0, 30° N 10° E: x 100,000,000, y 5×10^12"
pub cylindrical_30_10 : place_paper (cylindrical_of (pos 300_000_000) (pos 100_000_000) (pos 0)) ≡ record { refusal = 0; x = pos 100_000_000; y = pos 5_000_000_000_000 }
unfolding offset_of
cylindrical_30_10 = rw (place_is cylinder (pos 300_000_000) (pos 100_000_000) (pos 0) refl refl, long_30)

-- "cylindrical back, (0, 17,453): 1 tick north"
pub cylindrical_back_17453 : point_paper (cylindrical_back_of (pos 0) (pos 17_453) (pos 0)) ≡ record { refusal = 0; latitude = pos 1; longitude = pos 0 }
unfolding offset_of
cylindrical_back_17453 =
    ap point_paper (there_and_back cylinder cylinder_invertible (pos 1) (pos 0) (pos 0) (pos 0) (pos 17_453) refl refl (place_is cylinder (pos 1) (pos 0) (pos 0) refl refl ∙ rw long_sine_tick))

-- "(0, 17,454): 11"
pub cylindrical_back_17454 : point_paper (cylindrical_back_of (pos 0) (pos 17_454) (pos 0)) ≡ record { refusal = 11; latitude = pos 0; longitude = pos 0 }
cylindrical_back_17454 = ap point_paper (back_nobody cylinder (pos 0) (pos 17_454) (pos 0) refl (λ _ e. differs (sine_is (pos 17_454) between_ticks e)))
  where
    between_ticks : LastAngle step 17_454 1
    between_ticks = record { inside = omega arith; low = omega (arith, long_sine_tick); high = λ _. omega (arith, long_2) }

    differs : long_sine 1 ≡ 17_454 → ⊥
    differs e = omega (arith, long_sine_tick)

-- ---- the sinusoidal sheet

-- the place itself, before the paper
pub sinusoidal_60_10 : sinusoidal_of (pos 600_000_000) (pos 100_000_000) (pos 0) ≡ Ok (place (pos 50_000_000_000_000_000) (pos 600_000_000))
unfolding offset_of short_cosine
sinusoidal_60_10 = place_is sinusoid (pos 600_000_000) (pos 100_000_000) (pos 0) refl refl ∙ rw long_30

-- "sinusoidal, 60° N 10° E: x 5×10^16, y 600,000,000", with meridian 0
pub sinusoidal_60_10_paper : place_paper (sinusoidal_of (pos 600_000_000) (pos 100_000_000) (pos 0)) ≡ record { refusal = 0; x = pos 50_000_000_000_000_000; y = pos 600_000_000 }
sinusoidal_60_10_paper = ap place_paper sinusoidal_60_10

-- "back with x one more: 11"
pub sinusoidal_back_one_more : point_paper (sinusoidal_back_of (pos 50_000_000_000_000_001) (pos 600_000_000) (pos 0)) ≡ record { refusal = 11; latitude = pos 0; longitude = pos 0 }
unfolding short_cosine
sinusoidal_back_one_more =
    ap point_paper (back_at sinusoid (pos 50_000_000_000_000_001) (pos 600_000_000) (pos 0) refl (pos 600_000_000) refl refl refl) ∙ rw long_30

-- "sinusoidal back (0, 900,000,000), meridian 5° E: 90° N 5° E"
pub sinusoidal_back_pole : point_paper (sinusoidal_back_of (pos 0) (pos 900_000_000) (pos 50_000_000)) ≡ record { refusal = 0; latitude = pos 900_000_000; longitude = pos 50_000_000 }
sinusoidal_back_pole =
    ap point_paper (back_at sinusoid (pos 0) (pos 900_000_000) (pos 50_000_000) refl (pos 900_000_000) refl refl refl) ∙ rw (cosine_pole (pos 900_000_000) refl)

-- "(1, 900,000,000): 11"
pub sinusoidal_back_beside_pole : point_paper (sinusoidal_back_of (pos 1) (pos 900_000_000) (pos 50_000_000)) ≡ record { refusal = 11; latitude = pos 0; longitude = pos 0 }
sinusoidal_back_beside_pole =
    ap point_paper (back_at sinusoid (pos 1) (pos 900_000_000) (pos 50_000_000) refl (pos 900_000_000) refl refl refl) ∙ rw (cosine_pole (pos 900_000_000) refl)

-- ---- lengths

-- of a chord n, by the greatest angle of its root
length_at : (n r : ℕ) {h u : ℕ} → h ≡ n → r * r ≤ n → n < (r + 1) * (r + 1) → greatest_angle r ≡ u
    → length_paper (Ok (length_of h)) ≡ record { refusal = 0; millimetres = u * degree_length / degree }
length_at n r {h} e l k g = rw (← root_is {h = h} {r = r} (omega arith) (omega arith), g)

-- of a chord that is a square
length_by : (r : ℕ) {h u : ℕ} → h ≡ r * r → greatest_angle r ≡ u → length_paper (Ok (length_of h)) ≡ record { refusal = 0; millimetres = u * degree_length / degree }
length_by r e g = length_at (r * r) r e (omega arith) (omega arith) g

-- "One tick north is then 11 mm, two are 22, and equal points 0."
pub length_1_north : length_paper (leg_of (pos 0) (pos 0) (pos 1) (pos 0)) ≡ record { refusal = 0; millimetres = 11 }
unfolding leg_of point_refusal
length_1_north = rw (north_exact (pos 0) (pos 0) (pos 1) (omega arith))

pub length_2_north : length_paper (leg_of (pos 0) (pos 0) (pos 2) (pos 0)) ≡ record { refusal = 0; millimetres = 22 }
unfolding leg_of point_refusal
length_2_north = rw (north_exact (pos 0) (pos 0) (pos 2) (omega arith))

pub length_equal : length_paper (leg_of (pos 0) (pos 0) (pos 0) (pos 0)) ≡ record { refusal = 0; millimetres = 0 }
unfolding leg_of point_refusal
length_equal = rw (same_point (pos 0) (pos 0))

-- and one tick east on the equator
pub length_1_east : length_paper (leg_of (pos 0) (pos 0) (pos 0) (pos 1)) ≡ record { refusal = 0; millimetres = 11 }
unfolding leg_of leg_length point_refusal leg_cosine
length_1_east = length_by 1 (rw (long_sine_half_zero, long_sine_quarter, long_sine_half_1)) greatest_1

-- "0, 179.9° E to 0, 179.9° W: 22,238,985"
pub length_across_180 : length_paper (leg_of (pos 0) (pos 1_799_000_000) (pos 0) (neg_ℤ (pos 1_799_000_000))) ≡ record { refusal = 0; millimetres = 22_238_985 }
unfolding leg_of leg_length point_refusal leg_cosine
length_across_180 = length_by 3_490_656 (rw (long_sine_half_zero, long_sine_quarter, long_half_tenth)) greatest_tenth

-- "pole to pole: 20,015,086,860"
pub length_pole_to_pole : length_paper (leg_of (pos 900_000_000) (pos 0) (neg_ℤ (pos 900_000_000)) (pos 0)) ≡ record { refusal = 0; millimetres = 20_015_086_860 }
unfolding leg_of leg_length point_refusal
length_pole_to_pole = length_by 2_000_000_000 (rw (long_sine_half_zero, long_sine_half_quarter) (omega arith)) greatest_90

-- a quarter of the equator, as `routereport` has it: "length 10007543430"
pub length_quarter : length_paper (leg_of (pos 0) (pos 0) (pos 0) (pos 900_000_000)) ≡ record { refusal = 0; millimetres = 10_007_543_430 }
unfolding leg_of leg_length point_refusal leg_cosine
length_quarter = length_by 1_414_213_562 (rw (long_sine_half_zero, long_sine_quarter, long_half_45)) greatest_45

-- ---- a leg on which every rule tells

-- Not the document's: worked out from its words by another program. The table's first row gives all its sines.
long_46846 : long_sine 46_846 ≡ 817_616_924
unfolding sine_by entry sines sines_from rounded sine_of_step twice_cosine
long_46846 = refl

long_46863 : long_sine 46_863 ≡ 817_913_630
unfolding sine_by entry sines sines_from rounded sine_of_step twice_cosine
long_46863 = refl

long_half_17 : long_sine_half 17 ≡ 148_352
unfolding sine_by entry sines sines_from rounded sine_of_step twice_cosine
long_half_17 = refl

long_half_332097 : long_sine_half 332_097 ≡ 2_898_092_984
unfolding sine_by entry sines sines_from rounded sine_of_step twice_cosine
long_half_332097 = refl

-- p is 17 half ticks, q 332,097, m 13.37, H 3,024.72 (the next number is a square) and the length 344.70. Rounded up, m, H and the length give another length each, and so do the
-- next root, the next angle, a half dropped from p and the long way round.
pub length_drops : length_paper (leg_of (pos 899_953_154) (pos 1_799_900_000) (pos 899_953_137) (neg_ℤ (pos 1_799_767_903))) ≡ record { refusal = 0; millimetres = 344 }
unfolding leg_of leg_length point_refusal leg_cosine
length_drops = length_at 3_024 54 (rw (long_46846, long_46863, long_half_17, long_half_332097)) (omega arith) (omega arith) greatest_54
