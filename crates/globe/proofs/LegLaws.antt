-- Laws of a leg: the product that is exact before its division, what bounds each part, and theorems about a leg's length: it is the same both
-- ways, exact along a meridian up to 110 degrees, so 0 from a point to itself, not 0 where the latitudes differ, and at most half a turn's.
-- Assumes nothing.
use Rattle.std.specs.Prelude.{◌≡◌, true, ℕ, zero, suc, ◌+◌, ◌-◌, ◌*◌, ◌/◌, ◌%◌, ◌≤◌, ◌<◌, min, ℤ, nat_abs, ◌-ℤ◌}
use Rattle.refusals.specs.Choice.{fine}
use Rattle.std.proofs.Common.{sym, ap, ◌∙◌, le_of_lt, mul_comm, mul-add, mul_left_comm, mul-le-mul, mod-lt, arith, leb-false, SFits, to_z, of_z, to_z-of_z}
use Rattle.std.proofs.Math.Nat.{div-add-mod, mul-add-div, div-le_of_le-mul}
use Rattle.std.specs.Int.{w32, w64}
use Rattle.signed.specs.Sides.{above, below, one_side, sub_sides, size_sides}
use Rattle.signed.specs.Machine.{at64, sub_fits}
use Rattle.roots.specs.Root.{root_of}
use Rattle.roots.proofs.RootLaws.{root_is, root_high}
use Rattle.sines.specs.Sine.{quarter, quarter_halves, leg_unit, leg_sine}
use Rattle.sines.proofs.SineLaws.{long_sine_top, long_sine_half_zero, long_sine_half_1, leg_sine_top, leg_sine_some}
use Rattle.sines.specs.Back.{greatest_angle}
use Rattle.sines.proofs.BackLaws.{greatest_angle_meets, greatest_own}
use Rattle.ticks.specs.Ticks.{full_turn, is_latitude, is_longitude, turned, offset_of, point_refusal}
use Rattle.ticks.proofs.TickLaws.{turned_how, latitude, longitude, is_longitude_lem, offset_longitude}
use Rattle.globe.specs.Leg.{half_north, half_east, leg_cosine, cosines, chord, degree, degree_length, length_of, leg_length, ends_refusal}

-- ---- m × s / d by the parts of s, where m × s itself does not fit

pub split : (m s d : ℕ) → 0 < d → m * (s / d) + m * (s % d) / d ≡ m * s / d
split m s d h =
    let e : m * s ≡ d * (m * (s / d)) + m * (s % d)
    = ap (λ (x : ℕ). m * x) (sym (div-add-mod s d)) ∙ mul-add m (d * (s / d)) (s % d) ∙ ap (λ (x : ℕ). x + m * (s % d)) (mul_left_comm m d (s / d)) in
    sym (ap (λ (x : ℕ). x / d) e ∙ mul-add-div h (m * (s / d)) (m * (s % d)))

module _ {m s d : ℕ} (positive : 0 < d) (few : m ≤ d) (square : s ≤ d * d) where
  pub high : m * (s / d) ≤ d * d
  high = mul-le-mul few (div-le_of_le-mul d square)

  pub low : m * (s % d) ≤ d * d
  low = mul-le-mul few (le_of_lt (mod-lt s positive))

  pub whole : m * s / d ≤ d * d
  whole = div-le_of_le-mul d (mul-le-mul few square)

-- ---- what refuses an end

module _ (lat lon : ℤ) (p : is_latitude lat ≡ true) (q : is_longitude lon ≡ true) where
  -- where the start is accepted, the end is judged
  pub end_judged : (lat' lon' : ℤ) → ends_refusal lat lon lat' lon' ≡ point_refusal lat' lon'
  unfolding point_refusal
  end_judged lat' lon' = rw (p, q)

  pub ends_accepted : (lat' lon' : ℤ) → is_latitude lat' ≡ true → is_longitude lon' ≡ true → ends_refusal lat lon lat' lon' ≡ fine
  unfolding point_refusal
  ends_accepted lat' lon' r s = rw (p, q, r, s)

-- ---- what bounds the parts of a leg

-- a difference of two angles, as the machine reads it
pub read_apart : {a b : ℤ} → SFits w32 a → SFits w32 b
    → to_z w64 (of_z w64 (to_z w64 (of_z w64 (to_z w32 (of_z w32 a))) -ℤ to_z w64 (of_z w64 (to_z w32 (of_z w32 b))))) ≡ a -ℤ b
read_apart f g = rw (at64 f, at64 g) (to_z-of_z (sub_fits f g))

pub north_top : (lat lat' : ℤ) → is_latitude lat ≡ true → is_latitude lat' ≡ true → half_north lat lat' ≤ quarter_halves
north_top a b p q = omega (arith, latitude a p, latitude b q, sub_sides a b, size_sides (a -ℤ b), one_side (a -ℤ b))

pub east_apart : (lon lon' : ℤ) → is_longitude lon ≡ true → is_longitude lon' ≡ true → nat_abs (lon -ℤ lon') < full_turn
east_apart a b p q = omega (arith, longitude a p, longitude b q, sub_sides a b, size_sides (a -ℤ b), one_side (a -ℤ b))

pub east_top : (lon lon' : ℤ) → half_east lon lon' ≤ quarter_halves
east_top a b = omega arith

cosine_top : (lat : ℤ) → leg_cosine lat ≤ leg_unit
unfolding leg_cosine
cosine_top lat = omega (arith, long_sine_top {a = quarter - nat_abs lat} (omega arith))

pub product_top : (lat lat' : ℤ) → leg_cosine lat * leg_cosine lat' ≤ leg_unit * leg_unit
product_top a b = mul-le-mul (cosine_top a) (cosine_top b)

pub square_top : {a : ℕ} → a ≤ quarter_halves → leg_sine a * leg_sine a ≤ leg_unit * leg_unit
square_top h = mul-le-mul (leg_sine_top h) (leg_sine_top h)

-- two squares of a sine of 1
abbrev pub greatest_chord : ℕ
greatest_chord = 2 * leg_unit * leg_unit

pub chord_top : (m p q : ℕ) → m ≤ leg_unit → p ≤ quarter_halves → q ≤ quarter_halves → chord m p q ≤ greatest_chord
chord_top m p q h k l = omega (arith, square_top k, whole {m = m} (omega arith) h (square_top l))

-- ---- theorems

-- a leg is as long one way as the other
swap : (a b : ℤ) → nat_abs (a -ℤ b) ≡ nat_abs (b -ℤ a)
swap a b =
    omega (arith, size_sides (a -ℤ b), size_sides (b -ℤ a), sub_sides a b, sub_sides b a, one_side (a -ℤ b), one_side (b -ℤ a))

pub both_ways : (lat lon lat' lon' : ℤ) → leg_length lat lon lat' lon' ≡ leg_length lat' lon' lat lon
unfolding leg_length
both_ways lat lon lat' lon' = cc (swap lat lat', swap lon lon', mul_comm (leg_cosine lat) (leg_cosine lat'))

-- along a meridian, up to 110 degrees, a leg has as many ticks as its latitudes lie apart
none : (a : ℤ) → nat_abs (a -ℤ a) ≡ 0
none a = omega (arith, size_sides (a -ℤ a), sub_sides a a, one_side (a -ℤ a))

pub north_exact : (lat lon lat' : ℤ) → nat_abs (lat -ℤ lat') ≤ 1_100_000_000 → leg_length lat lon lat' lon ≡ nat_abs (lat -ℤ lat') * degree_length / degree
unfolding leg_length
north_exact lat lon lat' h =
    let p = half_north lat lat' in
    let c : chord (cosines lat lat') p 0 ≡ leg_sine p * leg_sine p = rw long_sine_half_zero (omega arith) in
    let r : root_of (leg_sine p * leg_sine p) ≡ leg_sine p = sym (root_is (omega arith) (omega arith)) in
    rw (none lon, c, r, greatest_own h)

-- from a point to itself none
pub same_point : (lat lon : ℤ) → leg_length lat lon lat lon ≡ 0
same_point lat lon = north_exact lat lon lat (omega (arith, none lat)) ∙ rw (none lat)

-- where the latitudes differ, by a tick or more, a leg has a length, since u is 1 or more
some : (r : ℕ) → 0 < r → 0 < greatest_angle r
some r h = omega (arith, none_yet)
  where
    none_yet : greatest_angle r ≡ 0 → ⊥
    none_yet e = omega (arith, long_sine_half_1, leb-false (leg_sine 1) r ((greatest_angle_meets r).later 1 (omega arith) (omega arith)))

pub north_some : (lat lon lat' lon' : ℤ) → is_latitude lat ≡ true → is_latitude lat' ≡ true → 0 < nat_abs (lat -ℤ lat') → 11 ≤ leg_length lat lon lat' lon'
unfolding leg_length
north_some lat lon lat' lon' p q n =
    let h = chord (cosines lat lat') (half_north lat lat') (half_east lon lon') in
    let s = leg_sine_some n (north_top lat lat' p q) in
    let k : 1 ≤ h = omega (arith, mul-le-mul s s) in
    omega (arith, some (root_of h) (omega (arith, off_zero h k)))
  where
    off_zero : (h : ℕ) → 1 ≤ h → root_of h ≡ 0 → ⊥
    off_zero h k e = omega (arith, rw e at (root_high h))

-- no leg is longer than half a turn
abbrev pub longest_leg : ℕ
longest_leg = 20_015_086_860

pub longest : (lat lon lat' lon' : ℤ) → leg_length lat lon lat' lon' ≤ longest_leg
unfolding leg_length
longest lat lon lat' lon' =
    omega (arith, (greatest_angle_meets (root_of (chord (cosines lat lat') (half_north lat lat') (half_east lon lon')))).inside)

-- ---- longitudes counted from another meridian

-- two differences that are whole turns apart, j - 2 of them, and both less than a turn
east_turned : (d e : ℤ) (j : ℕ) → above e + below d + 2 * full_turn ≡ above d + below e + j * full_turn → nat_abs d < full_turn → nat_abs e < full_turn
    → min (nat_abs e) (full_turn - nat_abs e) ≡ min (nat_abs d) (full_turn - nat_abs d)
east_turned d e j h k l = go j h (size_sides d) (size_sides e) (one_side d) (one_side e)
  where
    go : (j : ℕ) → above e + below d + 2 * full_turn ≡ above d + below e + j * full_turn → nat_abs d ≡ above d + below d → nat_abs e ≡ above e + below e
        → min (above d) (below d) ≡ 0 → min (above e) (below e) ≡ 0
        → min (nat_abs e) (full_turn - nat_abs e) ≡ min (nat_abs d) (full_turn - nat_abs d)
    go zero h s t a b = omega arith
    go (suc zero) h s t a b = omega arith
    go (suc (suc zero)) h s t a b = omega arith
    go (suc (suc (suc zero))) h s t a b = omega arith
    go (suc (suc (suc (suc n)))) h s t a b = omega arith

module _ (lon lon' meridian : ℤ) (p : is_longitude lon ≡ true) (q : is_longitude lon' ≡ true) (m : is_longitude meridian ≡ true) where
  east_from : half_east (offset_of lon meridian) (offset_of lon' meridian) ≡ half_east lon lon'
  unfolding offset_of
  east_from =
      let o = turned (lon -ℤ meridian) in
      let o' = turned (lon' -ℤ meridian) in
      let t = turned_how (lon -ℤ meridian) in
      let t' = turned_how (lon' -ℤ meridian) in
      let j = t.k + 2 - t'.k in
      let e : above (o -ℤ o') + below (lon -ℤ lon') + 2 * full_turn ≡ above (lon -ℤ lon') + below (o -ℤ o') + j * full_turn
      = omega (arith, t.few, t'.few, t.apart, t'.apart, sub_sides lon meridian, sub_sides lon' meridian, sub_sides lon lon', sub_sides o o') in
      let far = east_apart (offset_of lon meridian) (offset_of lon' meridian) (is_longitude_lem o (offset_longitude lon meridian p m)) (is_longitude_lem o' (offset_longitude lon' meridian q m)) in
      east_turned (lon -ℤ lon') (o -ℤ o') j e (east_apart lon lon' p q) far

pub offset_length : (lat lon lat' lon' meridian : ℤ) → is_longitude lon ≡ true → is_longitude lon' ≡ true → is_longitude meridian ≡ true
    → leg_length lat (offset_of lon meridian) lat' (offset_of lon' meridian) ≡ leg_length lat lon lat' lon'
unfolding leg_length
offset_length lat lon lat' lon' meridian p q m = ap (λ (e : ℕ). length_of (chord (cosines lat lat') (half_north lat lat') e)) (east_from lon lon' meridian p q m)
