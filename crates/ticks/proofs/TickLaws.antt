-- What the ranges, the turn, the fold and the refusals of a point say, as facts that `omega` reads.
-- Assumes nothing.
use Rattle.std.specs.Prelude.{◌≡◌, refl, ◌⊎◌, Bool, true, false, ◌&&◌, ℕ, zero, suc, ◌+◌, ◌-◌, ◌*◌, ◌≤◌, ◌<◌, min, ℤ, pos, nat_abs, ◌+ℤ◌, ◌-ℤ◌, ◌*ℤ◌, if◌then◌else◌}
use Rattle.std.proofs.Common.{sym, ◌∙◌, inl, inr, mul-le-mul, arith, SFits}
use Rattle.std.proofs.Math.IntN.{neg_ℤ}
use Rattle.std.specs.Int.Signed.{lt_z, le_z}
use Rattle.std.specs.Int.{w32, w64}
use Rattle.refusals.specs.declared.Refusal.TheVariants as R
use Rattle.refusals.specs.Choice.{fine}
use Rattle.refusals.specs.Tests.{and_true, true_and, unless_none}
use Rattle.sines.specs.Sine.{quarter, short_unit}
use Rattle.signed.specs.Sides.{above, below, one_side, same, add_sides, sub_sides, neg_above, neg_below, mul_above, mul_below, size_sides}
use Rattle.signed.specs.Tests.{lt_z_true, lt_z_false, le_z_true, le_z_false, lt_lt_z, le_le_z}
use Rattle.signed.specs.Machine.{fits_of}
use Rattle.ticks.specs.Ticks.{half, full_turn, is_latitude, is_longitude, is_angle, folded, turned, offset_of, point_refusal, sheet_refusal}

-- ---- the ranges

-- from -n to n, both allowed, by the size
within_size : (n : ℕ) (z : ℤ) → le_z (neg_ℤ (pos n)) z && le_z z (pos n) ≡ true → nat_abs z ≤ n
within_size n z e =
    let p = and_true (le_z (neg_ℤ (pos n)) z) (le_z z (pos n)) e in
    let a = le_z_true (neg_ℤ (pos n)) z p.0 in
    let b = le_z_true z (pos n) p.1 in
    omega (arith, neg_above (pos n), neg_below (pos n), one_side z, size_sides z)

size_within : (n : ℕ) (z : ℤ) → nat_abs z ≤ n → le_z (neg_ℤ (pos n)) z && le_z z (pos n) ≡ true
size_within n z h =
    let s = size_sides z in
    true_and (le_le_z (neg_ℤ (pos n)) z (omega (arith, neg_above (pos n), neg_below (pos n)))) (le_le_z z (pos n) (omega arith))

pub latitude_size : (z : ℤ) → is_latitude z ≡ true → nat_abs z ≤ quarter
latitude_size z e = within_size quarter z e

pub size_latitude : (z : ℤ) → nat_abs z ≤ quarter → is_latitude z ≡ true
size_latitude z h = size_within quarter z h

pub angle_size : (z : ℤ) → is_angle z ≡ true → nat_abs z ≤ half
angle_size z e = within_size half z e

pub size_angle : (z : ℤ) → nat_abs z ≤ half → is_angle z ≡ true
size_angle z h = size_within half z h

-- every latitude has a sine
pub latitude_angle : (z : ℤ) → is_latitude z ≡ true → is_angle z ≡ true
latitude_angle z e = size_angle z (omega (arith, latitude_size z e))

-- by its sides
pub record Latitude (z : ℤ) : Type 0 where
  pub north : above z ≤ quarter
  pub south : below z ≤ quarter

pub record Longitude (z : ℤ) : Type 0 where
  pub east : above z < half
  pub west : below z ≤ half

pub latitude : (z : ℤ) → is_latitude z ≡ true → Latitude z
latitude z e = omega (arith, latitude_size z e, size_sides z)

pub longitude : (z : ℤ) → is_longitude z ≡ true → Longitude z
longitude z e =
    let p = and_true (le_z (neg_ℤ (pos half)) z) (lt_z z (pos half)) e in
    let a = le_z_true (neg_ℤ (pos half)) z p.0 in
    let b = lt_z_true z (pos half) p.1 in
    let o = one_side z in
    omega arith

pub is_longitude_lem : (z : ℤ) → Longitude z → is_longitude z ≡ true
is_longitude_lem z h =
    let o = one_side z in
    true_and (le_le_z (neg_ℤ (pos half)) z (omega arith)) (lt_lt_z z (pos half) (omega arith))

pub latitude_fits : {z : ℤ} → is_latitude z ≡ true → SFits w32 z
latitude_fits {z} e = let h = latitude z e in fits_of w32 z (omega arith) (omega arith)

pub longitude_fits : {z : ℤ} → is_longitude z ≡ true → SFits w32 z
longitude_fits {z} e = let h = longitude z e in fits_of w32 z (omega arith) (omega arith)

-- ---- the turn

-- r is d and k - 1 turns, k at most 2
pub record Turned (d r : ℤ) : Type 0 where
  pub k : ℕ
  pub few : k ≤ 2
  pub apart : above r + below d + full_turn ≡ above d + below r + k * full_turn

pub turned_how : (d : ℤ) → Turned d (turned d)
turned_how d = go (lt_z d (neg_ℤ (pos half))) (le_z (pos half) d)
  where
    go : (a b : Bool) → Turned d (if a then d +ℤ pos full_turn else (if b then d -ℤ pos full_turn else d))
    go true b = record { k = 2; few = omega arith; apart = omega (arith, add_sides d (pos full_turn)) }
    go false true = record { k = 0; few = omega arith; apart = omega (arith, sub_sides d (pos full_turn)) }
    go false false = record { k = 1; few = omega arith; apart = omega arith }

turned_longitude : (d : ℤ) → above d < full_turn + half → below d ≤ full_turn + half → Longitude (turned d)
turned_longitude d p q = go (lt_z d (neg_ℤ (pos half))) (le_z (pos half) d) refl refl
  where
    go : (a b : Bool) → lt_z d (neg_ℤ (pos half)) ≡ a → le_z (pos half) d ≡ b → Longitude (if a then d +ℤ pos full_turn else (if b then d -ℤ pos full_turn else d))
    go true b e f = omega (arith, lt_z_true d (neg_ℤ (pos half)) e, one_side d, add_sides d (pos full_turn), one_side (d +ℤ pos full_turn))
    go false true e f = omega (arith, le_z_true (pos half) d f, one_side d, sub_sides d (pos full_turn), one_side (d -ℤ pos full_turn))
    go false false e f = omega (arith, lt_z_false d (neg_ℤ (pos half)) e, le_z_false (pos half) d f, one_side d)

module _ (lon meridian : ℤ) (p : is_longitude lon ≡ true) (q : is_longitude meridian ≡ true) where
  pub offset_longitude : Longitude (offset_of lon meridian)
  unfolding offset_of
  offset_longitude =
      let l = longitude lon p in
      let m = longitude meridian q in
      let s = sub_sides lon meridian in
      let o = one_side (lon -ℤ meridian) in
      turned_longitude (lon -ℤ meridian) (omega arith) (omega arith)

  -- also where lon is an offset
  pub sum_fits : SFits w64 (meridian +ℤ lon)
  sum_fits =
      let l = longitude lon p in
      let m = longitude meridian q in
      let s = add_sides meridian lon in
      let o = one_side (meridian +ℤ lon) in
      fits_of w64 (meridian +ℤ lon) (omega arith) (omega arith)

  pub sum_longitude : Longitude (turned (meridian +ℤ lon))
  sum_longitude =
      let l = longitude lon p in
      let m = longitude meridian q in
      let s = add_sides meridian lon in
      let o = one_side (meridian +ℤ lon) in
      turned_longitude (meridian +ℤ lon) (omega arith) (omega arith)

  -- the longitude comes back from its offset, and the offset from the longitude
  pub turn_back : turned (meridian +ℤ offset_of lon meridian) ≡ lon
  unfolding offset_of
  turn_back =
      let l = longitude lon p in
      let m = longitude meridian q in
      let d = lon -ℤ meridian in
      let o = turned d in
      let f = offset_longitude in
      let a = add_sides meridian o in
      let b = one_side (meridian +ℤ o) in
      let v = turned_longitude (meridian +ℤ o) (omega arith) (omega arith) in
      same (turned (meridian +ℤ o)) lon (omega (arith, sub_sides lon meridian, (turned_how d).apart, (turned_how (meridian +ℤ o)).apart, (turned_how d).few, (turned_how (meridian +ℤ o)).few))

pub back_turn : (x meridian : ℤ) → is_longitude x ≡ true → is_longitude meridian ≡ true → offset_of (turned (meridian +ℤ x)) meridian ≡ x
unfolding offset_of
back_turn x m p q =
    let r = turned (m +ℤ x) in
    let l = longitude x p in
    let h = longitude m q in
    let v = sum_longitude x m p q in
    let w = offset_longitude r m (is_longitude_lem r v) q in
    same (offset_of r m) x (omega (arith, add_sides m x, sub_sides r m, (turned_how (m +ℤ x)).apart, (turned_how (r -ℤ m)).apart, (turned_how (m +ℤ x)).few, (turned_how (r -ℤ m)).few))

pub no_offset : (meridian : ℤ) → is_longitude meridian ≡ true → offset_of meridian meridian ≡ pos 0
unfolding offset_of
no_offset m q =
    let f = longitude (offset_of m m) (is_longitude_lem (offset_of m m) (offset_longitude m m q q)) in
    same (offset_of m m) (pos 0) (omega (arith, sub_sides m m, (turned_how (m -ℤ m)).apart, (turned_how (m -ℤ m)).few))

-- two offsets that add up to whole turns, k - 2 of them: they mirror each other, or both are half a turn
by_turns : (a b : ℤ) (k : ℕ) → Longitude a → Longitude b → above b + above a + 2 * full_turn ≡ below b + below a + k * full_turn
    → (b ≡ neg_ℤ a) ⊎ ((a ≡ neg_ℤ (pos half)) × (b ≡ neg_ℤ (pos half)))
by_turns a b zero f g e = absurd (omega (arith, one_side a, one_side b))
by_turns a b (suc zero) f g e =
    let o = one_side a in
    let o' = one_side b in
    inr (same a (neg_ℤ (pos half)) (omega arith), same b (neg_ℤ (pos half)) (omega arith))
by_turns a b (suc (suc zero)) f g e = inl (same b (neg_ℤ a) (omega (arith, neg_above a, neg_below a)))
by_turns a b (suc (suc (suc k))) f g e = absurd (omega (arith, one_side a, one_side b))

-- longitudes and meridians may be counted from anywhere
pub offset_from : (lon meridian from : ℤ) → is_longitude lon ≡ true → is_longitude meridian ≡ true → is_longitude from ≡ true
    → offset_of (offset_of lon from) (offset_of meridian from) ≡ offset_of lon meridian
unfolding offset_of
offset_from lon meridian from p q r =
    let x = offset_of lon from in
    let y = offset_of meridian from in
    let f = offset_longitude lon from p r in
    let g = offset_longitude meridian from q r in
    let h = offset_longitude x y (is_longitude_lem x f) (is_longitude_lem y g) in
    let k = offset_longitude lon meridian p q in
    let s = turned_how (lon -ℤ from) in
    let t = turned_how (meridian -ℤ from) in
    let u = turned_how (x -ℤ y) in
    let v = turned_how (lon -ℤ meridian) in
    same (offset_of x y) (offset_of lon meridian)
    (omega (arith, sub_sides lon from, sub_sides meridian from, sub_sides x y, sub_sides lon meridian, s.apart, s.few, t.apart, t.few, u.apart, u.few, v.apart, v.few))

-- mirrored longitudes have the mirrored offset, or half a turn, which comes out to the west either way
module _ (lon meridian : ℤ) (p : is_longitude lon ≡ true) (q : is_longitude meridian ≡ true) (p' : is_longitude (neg_ℤ lon) ≡ true) (q' : is_longitude (neg_ℤ meridian) ≡ true) where
  abbrev there : ℤ
  there = offset_of lon meridian

  abbrev mirrored : ℤ
  mirrored = offset_of (neg_ℤ lon) (neg_ℤ meridian)

  -- they add up to k - 2 turns
  pub offset_mirror : (mirrored ≡ neg_ℤ there) ⊎ ((there ≡ neg_ℤ (pos half)) × (mirrored ≡ neg_ℤ (pos half)))
  unfolding offset_of
  offset_mirror =
      let t = turned_how (lon -ℤ meridian) in
      let u = turned_how (neg_ℤ lon -ℤ neg_ℤ meridian) in
      let e : above mirrored + above there + 2 * full_turn ≡ below mirrored + below there + (t.k + u.k) * full_turn
      = omega (arith, t.apart, u.apart, sub_sides lon meridian, sub_sides (neg_ℤ lon) (neg_ℤ meridian), neg_above lon, neg_below lon, neg_above meridian, neg_below meridian) in
      by_turns there mirrored (t.k + u.k) (offset_longitude lon meridian p q) (offset_longitude (neg_ℤ lon) (neg_ℤ meridian) p' q') e

-- offset × width fits 64 bits
pub product_fits : (d : ℤ) (w : ℕ) → Longitude d → w ≤ short_unit → SFits w64 (d *ℤ pos w)
product_fits d w h k =
    let e : above d ≤ half = omega arith in
    fits_of w64 (d *ℤ pos w) (omega (arith, mul_above d w, mul-le-mul e k)) (omega (arith, mul_below d w, mul-le-mul h.west k))

-- ---- the fold

-- each side of an angle is folded by itself
folded_sides : (a : ℤ) → is_angle a ≡ true → (above (folded a) ≡ min (above a) (half - above a)) × (below (folded a) ≡ min (below a) (half - below a))
unfolding folded
folded_sides a h = go (lt_z (pos quarter) a) (lt_z a (neg_ℤ (pos quarter))) refl refl (omega (arith, angle_size a h, size_sides a))
  where
    go : (s t : Bool) → lt_z (pos quarter) a ≡ s → lt_z a (neg_ℤ (pos quarter)) ≡ t → above a + below a ≤ half
        → let r = if s then pos half -ℤ a else (if t then neg_ℤ (pos half) -ℤ a else a) in
        (above r ≡ min (above a) (half - above a)) × (below r ≡ min (below a) (half - below a))
    go true t e f l = omega (arith, lt_z_true (pos quarter) a e, one_side a, sub_sides (pos half) a, one_side (pos half -ℤ a))
    go false true e f l = omega (arith, lt_z_true a (neg_ℤ (pos quarter)) f, one_side a, sub_sides (neg_ℤ (pos half)) a, one_side (neg_ℤ (pos half) -ℤ a))
    go false false e f l = omega (arith, lt_z_false (pos quarter) a e, lt_z_false a (neg_ℤ (pos quarter)) f, one_side a)

pub folded_latitude : (a : ℤ) → is_angle a ≡ true → is_latitude (folded a) ≡ true
folded_latitude a h = size_latitude (folded a) (omega (arith, folded_sides a h, one_side (folded a), size_sides (folded a)))

pub folded_self : (a : ℤ) → is_latitude a ≡ true → folded a ≡ a
folded_self a h = same (folded a) a (omega (arith, latitude a h, folded_sides a (latitude_angle a h)))

pub folded_supplement : (a : ℕ) → a ≤ half → folded (pos (half - a)) ≡ folded (pos a)
folded_supplement a h =
    same (folded (pos (half - a))) (folded (pos a))
    (omega (arith, folded_sides (pos a) (size_angle (pos a) h), folded_sides (pos (half - a)) (size_angle (pos (half - a)) (omega arith))))

pub angle_mirror : (a : ℤ) → is_angle a ≡ true → is_angle (neg_ℤ a) ≡ true
angle_mirror a h = size_angle (neg_ℤ a) (omega (arith, angle_size a h, size_sides a, size_sides (neg_ℤ a), neg_above a, neg_below a))

pub folded_mirror : (a : ℤ) → is_angle a ≡ true → folded (neg_ℤ a) ≡ neg_ℤ (folded a)
folded_mirror a h =
    let s = folded_sides a h in
    let m = folded_sides (neg_ℤ a) (angle_mirror a h) in
    let u = rw (neg_above a) at m.0 ∙ sym s.1 in
    let d = rw (neg_below a) at m.1 ∙ sym s.0 in
    same (folded (neg_ℤ a)) (neg_ℤ (folded a)) (omega (arith, u, d, neg_above (folded a), neg_below (folded a)))

-- ---- what nothing refuses

pub point_accepted : (lat lon : ℤ) → point_refusal lat lon ≡ fine → (is_latitude lat ≡ true) × (is_longitude lon ≡ true)
unfolding point_refusal
point_accepted lat lon e =
    let y = unless_none (is_latitude lat) R.Latitude _ e in
    let x = unless_none (is_longitude lon) R.Longitude fine y.1 in
    (y.0, x.0)

pub sheet_accepted : (lat lon meridian : ℤ) → sheet_refusal lat lon meridian ≡ fine
    → (is_longitude meridian ≡ true) × (is_latitude lat ≡ true) × (is_longitude lon ≡ true)
unfolding sheet_refusal
sheet_accepted lat lon meridian e =
    let m = unless_none (is_longitude meridian) R.Meridian _ e in
    let p = point_accepted lat lon m.1 in
    (m.0, p.0, p.1)
