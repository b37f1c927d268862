-- What is known of an accepted point buffer and of its beginnings, that the numbers of points one after the other are accepted, and what a stored point leaves.
-- Assumes nothing.
use Rattle.std.specs.Prelude.{◌≡◌, ◌≢◌, true, false, ◌&&◌, List, [], ◌++◌, leb, eqb, ℤ, pos, length, take, set, Err, ltb}
use Rattle.std.proofs.Math.Path.{refl}
use Rattle.std.proofs.Common.{append_assoc, add-zero, zero-add, add-one, arith, take_all, take-suc, length-take-le, get_or-take, to_z-of_z, to_z, of_z}
use Prim.Native.Nat.{ℕ, zero, suc, ◌+◌, ◌*◌, ◌%◌, ◌≤◌, ◌<◌}
use Rattle.std.proofs.Math.Numerals.{add-two}
use borrow.Author.Count.{below_none, below_more}
use borrow.Author.Tests.{eqb-true, leb-true, eq-eqb, ne_eqb, lt-leb, le-leb, lt-ltb, le-ltb, ltb-true, ltb-false}
use Rattle.std.proofs.lemmas.List.Edits.{sets}
use Rattle.std.proofs.lemmas.List.{get_or_past}
use Rattle.std.specs.Int.{w32}
use Rattle.refusals.specs.declared.Refusal.{Refusal}
use Rattle.refusals.specs.declared.Refusal.TheVariants as R
use Rattle.refusals.specs.Choice.{fine}
use Rattle.refusals.specs.Tests.{by_test, and_true, true_and, and_no, unless_none, first_none}
use Rattle.signed.specs.Tests.{eq_z}
use Rattle.ticks.specs.Ticks.{is_latitude, is_longitude, point_refusal}
use Rattle.ticks.proofs.TickLaws.{point_accepted, latitude_fits, longitude_fits}
use Rattle.points.specs.Points.{numbers, point_numbers, part_at, latitude_at, longitude_at, third_at, count, most_points, put_at, fits_after, thirds_fit, points_refusal, buffer_refusal}

-- ---- an accepted buffer

pub record Accepted (b : List ℤ) : Type 0 where
  pub whole : length b % numbers ≡ 0
  pub thirds : thirds_fit b (count b) ≡ true
  pub few : count b ≤ most_points
  pub points : points_refusal b (count b) ≡ fine

pub accepted : (b : List ℤ) → buffer_refusal b ≡ fine → Accepted b
unfolding buffer_refusal
accepted b e =
    let p = unless_none (eqb (length b % numbers) 0 && thirds_fit b (count b)) R.Buffer _ e in
    let q = and_true (eqb (length b % numbers) 0) (thirds_fit b (count b)) p.0 in
    let r = unless_none (leb (count b) most_points) R.Points _ p.1 in
    record { whole = eqb-true _ 0 q.0; thirds = q.1; few = leb-true _ most_points r.0; points = r.1 }

pub record Point (b : List ℤ) (i : ℕ) : Type 0 where
  pub latitude : is_latitude (latitude_at b i) ≡ true
  pub longitude : is_longitude (longitude_at b i) ≡ true
  pub third : fits_after i (third_at b i) ≡ true

-- the first n points, one by one
module _ (b : List ℤ) where
  abbrev pub Fits : ℕ → Type 0
  Fits i = fits_after i (third_at b i) ≡ true

  abbrev pub Unrefused : ℕ → Type 0
  Unrefused i = point_refusal (latitude_at b i) (longitude_at b i) ≡ fine

  pub thirds_of : (n : ℕ) → thirds_fit b n ≡ true → (i : ℕ) → i < n → Fits i
  unfolding thirds_fit
  thirds_of zero t i h = below_none Fits i h
  thirds_of (suc n) t i h =
      let p = and_true (thirds_fit b n) (fits_after n (third_at b n)) t in
      below_more Fits n (thirds_of n p.0) p.1 i (omega arith)

  pub thirds_fit_lem : (n : ℕ) → ((i : ℕ) → i < n → Fits i) → thirds_fit b n ≡ true
  unfolding thirds_fit
  thirds_fit_lem zero h = refl
  thirds_fit_lem (suc n) h = true_and (thirds_fit_lem n (λ i l. h i (omega arith))) (h n (omega arith))

  pub unrefused_of : (n : ℕ) → points_refusal b n ≡ fine → (i : ℕ) → i < n → Unrefused i
  unfolding points_refusal
  unrefused_of zero e i h = below_none Unrefused i h
  unrefused_of (suc n) e i h =
      let p = first_none (points_refusal b n) (point_refusal (latitude_at b n) (longitude_at b n)) e in
      below_more Unrefused n (unrefused_of n p.0) p.1 i (omega arith)

  none_refused : (n : ℕ) → ((i : ℕ) → i < n → Unrefused i) → points_refusal b n ≡ fine
  unfolding points_refusal
  none_refused zero h = refl
  none_refused (suc n) h = rw (none_refused n (λ i l. h i (omega arith)), h n (omega arith))

  -- one that does not fit is one of all
  pub unfit_at : (n i : ℕ) → i < n → fits_after i (third_at b i) ≡ false → thirds_fit b n ≡ false
  unfolding thirds_fit
  unfit_at zero i h = absurd (omega arith)
  unfit_at (suc n) i h =
      below_more (λ k. fits_after k (third_at b k) ≡ false → thirds_fit b (suc n) ≡ false) n
      (λ k l e. rw (unfit_at n k l e)) (λ e. and_no (thirds_fit b n) _ e) i (omega arith)

  -- the first point that is refused refuses them all
  pub refused_at : {r : Refusal} (n i : ℕ) → i < n → points_refusal b i ≡ fine → point_refusal (latitude_at b i) (longitude_at b i) ≡ Err r
      → points_refusal b n ≡ Err r
  unfolding points_refusal
  refused_at zero i h = absurd (omega arith)
  refused_at {r} (suc n) i h =
      below_more (λ k. points_refusal b k ≡ fine → point_refusal (latitude_at b k) (longitude_at b k) ≡ Err r → points_refusal b (suc n) ≡ Err r) n
      (λ k l p e. rw (refused_at n k l p e)) (λ p e. rw (p, e)) i (omega arith)

-- each way out of the buffer's check
module _ (b : List ℤ) where
  pub not_whole : length b % numbers ≢ 0 → buffer_refusal b ≡ Err R.Buffer
  unfolding buffer_refusal
  not_whole h = rw (ne_eqb (length b % numbers) 0 h)

  pub not_fit : thirds_fit b (count b) ≡ false → buffer_refusal b ≡ Err R.Buffer
  unfolding buffer_refusal
  not_fit h = rw (h, and_no (eqb (length b % numbers) 0) false refl)

  module _ (w : length b % numbers ≡ 0) (t : thirds_fit b (count b) ≡ true) where
    pub too_many : most_points < count b → buffer_refusal b ≡ Err R.Points
    unfolding buffer_refusal
    too_many h = rw (eq-eqb (length b % numbers) 0 w, t, lt-leb (count b) most_points h)

    pub well_formed : count b ≤ most_points → buffer_refusal b ≡ points_refusal b (count b)
    unfolding buffer_refusal
    well_formed h = rw (eq-eqb (length b % numbers) 0 w, t, le-leb (count b) most_points h)

pub point_of_lem : (b : List ℤ) → buffer_refusal b ≡ fine → (i : ℕ) → i < count b → Point b i
point_of_lem b e i h =
    let a = accepted b e in
    let p = point_accepted (latitude_at b i) (longitude_at b i) (unrefused_of b (count b) a.points i h) in
    record { latitude = p.0; longitude = p.1; third = thirds_of b (count b) a.thirds i h }

-- in range is also the 0 that is read where there is no point i
module _ (b : List ℤ) (e : buffer_refusal b ≡ fine) (i : ℕ) where
  or_none : (P : ℤ → Type 0) (k : ℕ) → P (pos 0) → (i < count b → P (part_at b i k)) → P (part_at b i k)
  or_none P k z h =
      by_test (ltb i (count b))
      (λ t. h (ltb-true i (count b) t))
      (λ t. rw (get_or_past b (numbers * i + k) (pos 0) (omega (arith, ltb-false i (count b) t, (accepted b e).whole))) z)

  pub in_latitude : is_latitude (latitude_at b i) ≡ true
  in_latitude = or_none (λ z. is_latitude z ≡ true) 0 refl (λ h. (point_of_lem b e i h).latitude)

  pub in_longitude : is_longitude (longitude_at b i) ≡ true
  in_longitude = or_none (λ z. is_longitude z ≡ true) 1 refl (λ h. (point_of_lem b e i h).longitude)

-- the machine reads them back
pub latitude_read : {b : List ℤ} {i : ℕ} → Point b i → to_z w32 (of_z w32 (latitude_at b i)) ≡ latitude_at b i
latitude_read p = to_z-of_z (latitude_fits p.latitude)

pub longitude_read : {b : List ℤ} {i : ℕ} → Point b i → to_z w32 (of_z w32 (longitude_at b i)) ≡ longitude_at b i
longitude_read p = to_z-of_z (longitude_fits p.longitude)

-- a point that a leg leads to is not the first
pub leg_before : (b : List ℤ) (i : ℕ) → fits_after i (third_at b i) ≡ true → eq_z (third_at b i) (pos 1) ≡ false → 1 ≤ i
leg_before b i t e = leb-true 1 i (and_true (leb 1 i) (eq_z (third_at b i) (pos 0)) (rw e at t)).0

-- ---- the numbers of the first points

module _ (b : List ℤ) where
  -- those of one point more
  pub take_point : (i : ℕ) → i < count b → take (numbers * suc i) b ≡ take (numbers * i) b ++ point_numbers (latitude_at b i) (longitude_at b i) (third_at b i)
  take_point i h =
      let at = numbers * i in
      let e : numbers * suc i ≡ suc (suc (suc at)) = omega arith in
      rw (add-zero, add-one, add-two, e, take-suc b (suc (suc at)) (pos 0) (omega arith), take-suc b (suc at) (pos 0) (omega arith), take-suc b at (pos 0) (omega arith))
      (simp append_assoc)

  -- those of all points are the whole buffer
  pub take_points : buffer_refusal b ≡ fine → take (numbers * count b) b ≡ b
  take_points e = take_all (numbers * count b) b (omega (arith, (accepted b e).whole))

-- ---- a beginning

-- the first k points of an accepted buffer are accepted too
module _ (b : List ℤ) (h : buffer_refusal b ≡ fine) (k : ℕ) (l : k ≤ count b) where
  abbrev first : List ℤ
  first = take (numbers * k) b

  first_length : length first ≡ numbers * k
  first_length = length-take-le (numbers * k) b (omega arith)

  pub count_first : count first ≡ k
  count_first = omega (arith, first_length)

  part_first : (i j : ℕ) → i < k → j < numbers → part_at first i j ≡ part_at b i j
  part_first i j m n = get_or-take (numbers * k) b (numbers * i + j) (pos 0) (omega arith)

  first_thirds : (i : ℕ) → i < k → Fits first i
  first_thirds i m = rw (part_first i 2 m (omega arith)) (thirds_of b (count b) (accepted b h).thirds i (omega arith))

  first_unrefused : (i : ℕ) → i < k → Unrefused first i
  first_unrefused i m = rw (part_first i 0 m (omega arith), part_first i 1 m (omega arith)) (unrefused_of b (count b) (accepted b h).points i (omega arith))

  pub first_accepted : buffer_refusal first ≡ fine
  unfolding buffer_refusal
  first_accepted =
      rw (eq-eqb (length first % numbers) 0 (omega (arith, first_length)), count_first, thirds_fit_lem first k first_thirds, le-leb k most_points (omega (arith, (accepted b h).few)))
      (none_refused first k first_unrefused)

-- ---- a list of points is accepted

-- the numbers of points one after the other, k points before them
pub data Points : ℕ → List ℤ → Type 0 where
  none : {k : ℕ} → Points k []
  next : {k : ℕ} {lat lon third : ℤ} {b : List ℤ} → is_latitude lat ≡ true → is_longitude lon ≡ true
      → fits_after k third ≡ true → Points (k + 1) b → Points k (point_numbers lat lon third ++ b)

points_whole : {k : ℕ} {b : List ℤ} → Points k b → length b % numbers ≡ 0
points_whole none = refl
points_whole (next y x t ps) = omega (arith, points_whole ps)

record PointAfter (k : ℕ) (b : List ℤ) (i : ℕ) : Type 0 where
  latitude : is_latitude (latitude_at b i) ≡ true
  longitude : is_longitude (longitude_at b i) ≡ true
  third : fits_after (k + i) (third_at b i) ≡ true

-- the numbers of the points behind the first
pub behind : (lat lon third : ℤ) (b : List ℤ) (i k : ℕ) → part_at (point_numbers lat lon third ++ b) (suc i) k ≡ part_at b i k
behind lat lon third b i k = let e : numbers * suc i + k ≡ suc (suc (suc (numbers * i + k))) = omega arith in rw e

points_at : {k : ℕ} {b : List ℤ} → Points k b → (i : ℕ) → i < count b → PointAfter k b i
points_at none i h = absurd (omega arith)
points_at (next y x t ps) zero h = record { latitude = y; longitude = x; third = rw add-zero t }
points_at (next {k} {lat} {lon} {third} {b} y x t ps) (suc i) h =
    let p = points_at ps i (omega arith) in
    let at = behind lat lon third b i in
    let u : k + suc i ≡ k + 1 + i = omega arith in
    record { latitude = rw (at 0) p.latitude; longitude = rw (at 1) p.longitude; third = rw (at 2, u) p.third }

module _ {b : List ℤ} (ps : Points 0 b) (few : count b ≤ most_points) where
  thirds : (i : ℕ) → i < count b → Fits b i
  thirds i h = rw zero-add at (points_at ps i h).third

  unrefused : (i : ℕ) → i < count b → Unrefused b i
  unfolding point_refusal
  unrefused i h = let p = points_at ps i h in rw (p.latitude, p.longitude)

  pub points_accepted : buffer_refusal b ≡ fine
  unfolding buffer_refusal
  points_accepted =
      rw (eq-eqb (length b % numbers) 0 (points_whole ps), thirds_fit_lem b (count b) thirds, le-leb (count b) most_points few)
      (none_refused b (count b) unrefused)

-- ---- a stored point

-- number by number
pub point_sets : (b : List ℤ) (i : ℕ) (lat lon third : ℤ)
    → set (set (set b (numbers * i) lat) (numbers * i + 1) lon) (numbers * i + 2) third ≡ sets b (numbers * i) (point_numbers lat lon third)
point_sets b i lat lon third =
    let at = numbers * i in
    let e : at + 1 ≡ suc at = omega arith in
    let f : at + 2 ≡ suc (suc at) = omega arith in
    rw (e, f)

module _ (b : List ℤ) (i : ℕ) (lat lon third : ℤ) where
  pub put_in : i < count b → put_at b i lat lon third ≡ sets b (numbers * i) (point_numbers lat lon third)
  unfolding put_at
  put_in h = rw (lt-ltb i (count b) h)

  pub put_past : count b ≤ i → put_at b i lat lon third ≡ b
  unfolding put_at
  put_past h = rw (le-ltb i (count b) h)
