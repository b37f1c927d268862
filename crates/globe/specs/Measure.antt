-- The length of a point buffer.
-- Assumes nothing.
use Rattle.std.specs.Prelude.{ℕ, zero, suc, ◌+◌, ◌-◌, List, ℤ, pos, if◌then◌else◌, Result}
use Rattle.refusals.specs.declared.Refusal.{Refusal}
use Rattle.refusals.specs.Choice.{answered}
use Rattle.signed.specs.Tests.{eq_z}
use Rattle.points.specs.Points.{latitude_at, longitude_at, third_at, count, buffer_refusal}
use Rattle.globe.specs.Leg.{leg_length}

-- the leg into point i, "the leg into the next point not counted" where the pen was up
unfoldable pub leg_into : List ℤ → ℕ → ℕ
leg_into b i =
    if eq_z (third_at b i) (pos 1) then 0 else
    leg_length (latitude_at b (i - 1)) (longitude_at b (i - 1)) (latitude_at b i) (longitude_at b i)

-- of the first n points
unfoldable pub length_up_to : List ℤ → ℕ → ℕ
length_up_to b zero = 0
length_up_to b (suc n) = length_up_to b n + leg_into b n

unfoldable pub measure_of : List ℤ → Result ℕ Refusal
measure_of b = answered (buffer_refusal b) (length_up_to b (count b))
