-- The point buffer: a route's points as numbers, and what refuses them.
-- Assumes nothing.
use Rattle.std.specs.Prelude.{ℕ, zero, suc, ◌+◌, ◌*◌, ◌/◌, ◌%◌, Bool, true, ◌&&◌, ◌||◌, List, [], ◌∷◌, leb, ltb, eqb, ℤ, pos, length, get_or, if◌then◌else◌, Err}
use Rattle.std.proofs.lemmas.List.Edits.{sets}
use Rattle.refusals.specs.declared.Refusal.TheVariants as R
use Rattle.refusals.specs.Choice.{unless, Check, fine, first_of}
use Rattle.signed.specs.Tests.{eq_z}
use Rattle.ticks.specs.Ticks.{point_refusal}

-- "three numbers a point: latitude, longitude, and 1 for the first point and after `g`, else 0"
abbrev pub numbers : ℕ
numbers = 3

abbrev pub point_numbers : ℤ → ℤ → ℤ → List ℤ
point_numbers lat lon third = lat ∷ (lon ∷ (third ∷ []))

-- number k of point i; 0 where there is none
abbrev pub part_at : List ℤ → ℕ → ℕ → ℤ
part_at b i k = get_or b (numbers * i + k) (pos 0)

abbrev pub latitude_at : List ℤ → ℕ → ℤ
latitude_at b i = part_at b i 0

abbrev pub longitude_at : List ℤ → ℕ → ℤ
longitude_at b i = part_at b i 1

abbrev pub third_at : List ℤ → ℕ → ℤ
third_at b i = part_at b i 2

abbrev pub count : List ℤ → ℕ
count b = length b / numbers

-- "at most 1,000 such lines"
abbrev pub most_points : ℕ
most_points = 1_000

-- the numbers of point i stored, where the buffer has room for them
unfoldable pub put_at : List ℤ → ℕ → ℤ → ℤ → ℤ → List ℤ
put_at b i lat lon third = if ltb i (count b) then sets b (numbers * i) (point_numbers lat lon third) else b

-- ---- what refuses a buffer

-- "a third number other than 0 or 1, or a first one of 0" does not fit: that of a point which i points stand before
abbrev pub fits_after : ℕ → ℤ → Bool
fits_after i third = eq_z third (pos 1) || (leb 1 i && eq_z third (pos 0))

-- of the first n points
unfoldable pub thirds_fit : List ℤ → ℕ → Bool
thirds_fit b zero = true
thirds_fit b (suc n) = thirds_fit b n && fits_after n (third_at b n)

-- 6 and 7 of the first n points, point by point
unfoldable pub points_refusal : List ℤ → ℕ → Check
points_refusal b zero = fine
points_refusal b (suc n) = first_of (points_refusal b n) (point_refusal (latitude_at b n) (longitude_at b n))

-- "buffer not a multiple of three, a third number other than 0 or 1, or a first one of 0"; more than 1,000 points; then the points
unfoldable pub buffer_refusal : List ℤ → Check
buffer_refusal b =
    unless (eqb (length b % numbers) 0 && thirds_fit b (count b)) (Err R.Buffer)
    (unless (leb (count b) most_points) (Err R.Points)
    (points_refusal b (count b)))
