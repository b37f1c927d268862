-- What is promised of a course, in the paper's own numbers.
-- Assumes nothing.
use Rattle.std.specs.Prelude.{◌≡◌, refl, ◌↔◌, Bool, true, false, ◌&&◌, ℕ, zero, suc, ◌+◌, ◌-◌, ◌*◌, ◌/◌, ◌%◌, ◌≤◌, ◌<◌, min, ℤ, pos, negsuc, neg_ℤ, nat_abs, ◌-ℤ◌, ◌*ℤ◌, if◌then◌else◌, Result, Ok, Err}
use Rattle.std.proofs.Common.{sym, ap, ap₂, ◌∙◌, arith}
use Rattle.std.specs.Int.Signed.{lt_z}
use Rattle.refusals.specs.declared.Refusal.{Refusal}
use Rattle.refusals.specs.declared.Refusal.TheVariants as R
use Rattle.refusals.specs.Choice.{Check, answered, unrefused}
use Rattle.refusals.specs.Tests.{by_test, clash, and_true, true_and}
use Rattle.signed.specs.Sides.{above, below, size_neg}
use Rattle.signed.specs.Sign.{sign_as}
use Rattle.signed.specs.Tests.{lt_z_true, eq_z, eq_z_true, eq_eq_z}
use Rattle.sines.specs.Sine.{quarter, short_unit, short_sine}
use Rattle.sines.proofs.SineLaws.{long_sine_zero, long_sine_tick, long_sine_quarter, short_sine_some}
use Rattle.sines.proofs.Figures.{long_30, long_60, long_before_90}
use Rattle.sines.specs.Slope.{slope_of}
use Rattle.sines.proofs.SlopeLaws.{slope_top, slope_low, slope_high, slope_up, slope_flat}
use Rattle.ticks.specs.Ticks.{half, full_turn, is_latitude, is_longitude, is_angle, accepted, folded, offset_of, point_refusal}
use Rattle.ticks.proofs.TickLaws.{size_latitude, size_angle, latitude_angle, is_longitude_lem, offset_longitude, offset_from, no_offset}
use Rattle.globe.specs.declared.DirectionOut.{DirectionOut}
use Rattle.globe.specs.Angle.{short_cosine, short_around, short_sine_of}
use Rattle.globe.specs.Leg.{ends_refusal, leg_length, leg_of}
use Rattle.globe.specs.Course.{over, offset_cosine, eastward, northward, in_quarter, course_by, set_off, course_of}
use Rattle.globe.proofs.CourseLaws as C
use Rattle.globe.specs.Paper.{sine_paper, length_paper, direction_paper}

abbrev no_course : ℕ → DirectionOut
no_course n = record { refusal = n; ticks = 0 }

abbrev towards : ℕ → DirectionOut
towards n = record { refusal = 0; ticks = n }

-- "A refusal gives zero in every value beside its number"
pub direction_zero : (v : Result ℕ Refusal) → ((direction_paper v).refusal ≡ 0 → ⊥) → (direction_paper v).ticks ≡ 0
direction_zero (Ok n) f = absurd (f refl)
direction_zero (Err r) f = refl

-- ---- N and D to a course

both_zero : direction_paper (set_off (pos 0) (pos 0)) ≡ no_course 18
unfolding set_off
both_zero = refl

module _ (n d : ℤ) (some : n ≡ pos 0 → d ≡ pos 0 → ⊥) where
  set_off_lem : direction_paper (set_off n d) ≡ towards (course_by n d)
  unfolding set_off
  set_off_lem =
      by_test (eq_z n (pos 0))
      (λ e. by_test (eq_z d (pos 0)) (λ f. absurd (some (eq_z_true n (pos 0) e) (eq_z_true d (pos 0) f))) (λ f. rw (e, f)))
      (λ e. rw e)

not_below : (n : ℕ) → lt_z (pos n) (pos 0) ≡ false
not_below n = by_test (lt_z (pos n) (pos 0)) (λ e. absurd (omega (arith, lt_z_true (pos n) (pos 0) e))) (λ e. e)

north_east : (n d : ℕ) → course_by (pos n) (pos d) ≡ slope_of d n
unfolding course_by
north_east n d = rw (not_below n, not_below d)

south_east : (n d : ℕ) → course_by (pos n) (negsuc d) ≡ half - slope_of (suc d) n
unfolding course_by
south_east n d = rw (not_below n)

north_west : (n d : ℕ) → course_by (negsuc n) (pos d) ≡ (full_turn - slope_of d (suc n)) % full_turn
unfolding course_by
north_west n d = rw (not_below d)

south_west : (n d : ℕ) → course_by (negsuc n) (negsuc d) ≡ half + slope_of (suc d) (suc n)
unfolding course_by
south_west n d = refl

-- N or D is not 0
east_some : {n : ℕ} {d : ℤ} → 0 < n → pos n ≡ pos 0 → d ≡ pos 0 → ⊥
east_some h e f = omega (arith, ap above e)

west_some : {n : ℕ} {d : ℤ} → negsuc n ≡ pos 0 → d ≡ pos 0 → ⊥
west_some e f = omega (arith, ap nat_abs e)

north_some : {n : ℤ} {d : ℕ} → 0 < d → n ≡ pos 0 → pos d ≡ pos 0 → ⊥
north_some h e f = omega (arith, ap above f)

south_some : {n : ℤ} {d : ℕ} → n ≡ pos 0 → negsuc d ≡ pos 0 → ⊥
south_some e f = omega (arith, ap nat_abs f)

-- ---- points to N and D

module _ (lat lon lat' lon' : ℤ) (first : accepted lat lon ≡ true) (second : accepted lat' lon' ≡ true) where
  course_is : direction_paper (course_of lat lon lat' lon') ≡ direction_paper (set_off (eastward lat' (offset_of lon' lon)) (northward lat lat' (offset_of lon' lon)))
  unfolding course_of point_refusal
  course_is =
      let p = and_true (is_latitude lat) (is_longitude lon) first in
      let q = and_true (is_latitude lat') (is_longitude lon') second in
      rw (p.0, p.1, q.0, q.1)

  course_at : {n d : ℤ} → eastward lat' (offset_of lon' lon) ≡ n → northward lat lat' (offset_of lon' lon) ≡ d
      → direction_paper (course_of lat lon lat' lon') ≡ direction_paper (set_off n d)
  course_at e f = course_is ∙ ap₂ (λ (x y : ℤ). direction_paper (set_off x y)) e f

-- ---- refusals

-- "after 6 and 7 of start, then end": what refuses the length of a leg refuses its course
pub course_ends : (lat lon lat' lon' : ℤ) → let r = (length_paper (leg_of lat lon lat' lon')).refusal in
    (r ≡ 0 → ⊥) → direction_paper (course_of lat lon lat' lon') ≡ no_course r
unfolding leg_of course_of
course_ends lat lon lat' lon' f =
    let o = offset_of lon' lon in
    go (ends_refusal lat lon lat' lon') (leg_length lat lon lat' lon') (set_off (eastward lat' o) (northward lat lat' o)) f
  where
    go : (c : Check) (m : ℕ) (v : Result ℕ Refusal) → let n = (length_paper (answered c m)).refusal in (n ≡ 0 → ⊥) → direction_paper (unrefused c v) ≡ no_course n
    go (Ok x) m v f = absurd (f refl)
    go (Err r) m v f = refl

-- "18 when N and D are both zero", and only then
pub course_18 : (lat lon lat' lon' : ℤ) → accepted lat lon ≡ true → accepted lat' lon' ≡ true → let offset = offset_of lon' lon in
    ((direction_paper (course_of lat lon lat' lon')).refusal ≡ 18) ↔ ((eastward lat' offset ≡ pos 0) × (northward lat lat' offset ≡ pos 0))
course_18 lat lon lat' lon' first second =
    let n = eastward lat' (offset_of lon' lon) in
    let d = northward lat lat' (offset_of lon' lon) in
    (λ e. zero n d (sym (refusal (course_is lat lon lat' lon' first second)) ∙ e), λ z. refusal (course_at lat lon lat' lon' first second z.0 z.1 ∙ both_zero))
  where
    refusal : {a b : DirectionOut} → a ≡ b → a.refusal ≡ b.refusal
    refusal e = ap (λ (c : DirectionOut). c.refusal) e

    zero : (n d : ℤ) → (direction_paper (set_off n d)).refusal ≡ 18 → (n ≡ pos 0) × (d ≡ pos 0)
    zero n d e =
        by_test (eq_z n (pos 0) && eq_z d (pos 0))
        (λ t. let p = and_true (eq_z n (pos 0)) (eq_z d (pos 0)) t in (eq_z_true n (pos 0) p.0, eq_z_true d (pos 0) p.1))
        (λ t. absurd (omega (arith, sym (refusal (set_off_lem n d (λ a b. clash (true_and (eq_eq_z n (pos 0) a) (eq_eq_z d (pos 0) b)) t))) ∙ e)))

-- a point has no course to itself
pub course_to_itself : (lat lon : ℤ) → accepted lat lon ≡ true → direction_paper (course_of lat lon lat lon) ≡ no_course 18
course_to_itself lat lon h =
    let o = no_offset lon (and_true (is_latitude lat) (is_longitude lon) h).1 in
    course_at lat lon lat lon h h (ap (eastward lat) o ∙ C.no_east lat) (ap (northward lat lat) o ∙ C.no_north lat) ∙ both_zero

-- ---- (5-4b), sentence by sentence and without a division

-- the short sine that is answered, and "the short sine of 90 degrees less its size", of a latitude as of an offset
abbrev sine : ℤ → ℤ
sine a = (sine_paper (short_sine_of a)).value

abbrev cosine : ℤ → ℤ
cosine a = sine (pos 900_000_000 -ℤ pos (nat_abs a))

sine_is : (a : ℤ) → is_angle a ≡ true → sine a ≡ short_around a
unfolding short_sine_of
sine_is a h = rw h

cosine_is : (a : ℤ) → is_angle a ≡ true → cosine a ≡ offset_cosine a
unfolding offset_cosine
cosine_is a h = let d = pos quarter -ℤ pos (nat_abs a) in sine_is d (latitude_angle d (C.less_latitude a h))

sine_at : (a : ℕ) → a ≤ quarter → nat_abs (sine (pos a)) ≡ short_sine a
sine_at a h = ap nat_abs (sine_is (pos a) (latitude_angle (pos a) (size_latitude (pos a) h)) ∙ C.around_size a h)

cosine_at : (a : ℕ) → a ≤ quarter → nat_abs (cosine (pos a)) ≡ short_sine (quarter - a)
unfolding short_cosine
cosine_at a h =
    let l = size_latitude (pos a) h in
    ap nat_abs (cosine_is (pos a) (latitude_angle (pos a) l) ∙ C.offset_cosine_latitude (pos a) l)

-- "over 10^9", "each division drops toward zero": what these words say of z and q
pub record Drops (z q : ℤ) : Type 0 where
  pub sign : q ≡ sign_as z (nat_abs q)
  pub low : 1_000_000_000 * nat_abs q ≤ nat_abs z
  pub high : nat_abs z < 1_000_000_000 * nat_abs q + 1_000_000_000

drops : (z : ℤ) → Drops z (over z)
drops (pos n) = record { sign = refl; low = omega arith; high = omega arith }
drops (negsuc n) =
    let e = size_neg (pos (suc n / short_unit)) in
    record { sign = ap (λ (k : ℕ). neg_ℤ (pos k)) (sym e); low = omega (arith, e); high = omega (arith, e) }

pub record IsCourse (lat lon lat' lon' : ℤ) (course : DirectionOut) : Type 0 where
  pub n : ℤ
  pub rise : ℤ
  pub back : ℤ
  pub less : ℤ
  pub d : ℤ
  pub a : ℕ
  -- "N is short cosine of the end latitude times short sine of the offset of the end from the start, over 10^9."
  pub n_is : Drops (cosine lat' *ℤ sine (offset_of lon' lon)) n
  -- "D is start cosine times end sine over 10^9, less (start sine times end cosine over 10^9) times the offset's short cosine over 10^9"
  pub rise_is : Drops (cosine lat *ℤ sine lat') rise
  pub back_is : Drops (sine lat *ℤ cosine lat') back
  pub less_is : Drops (back *ℤ cosine (offset_of lon' lon)) less
  pub d_is : d ≡ rise -ℤ less
  -- "the greatest angle a from 0 to 90 degrees with short sine of a times the size of D at most short cosine of a times the size of N"
  pub a_inside : a ≤ 900_000_000
  pub a_low : nat_abs (sine (pos a)) * nat_abs d ≤ nat_abs (cosine (pos a)) * nat_abs n
  pub a_high : (v : ℕ) → a < v → v ≤ 900_000_000 → nat_abs (cosine (pos v)) * nat_abs n < nat_abs (sine (pos v)) * nat_abs d
  -- "18 when N and D are both zero"
  pub none : n ≡ pos 0 → d ≡ pos 0 → course ≡ no_course 18
  -- else "N and D not negative: a. D alone negative: 180 - a. Both negative: 180 + a. N alone negative: 360 - a, where 360 is 0."
  pub neither : (n ≡ pos 0 → d ≡ pos 0 → ⊥) → lt_z n (pos 0) ≡ false → lt_z d (pos 0) ≡ false → course ≡ towards a
  pub d_alone : lt_z n (pos 0) ≡ false → lt_z d (pos 0) ≡ true → course ≡ towards (1_800_000_000 - a)
  pub both : lt_z n (pos 0) ≡ true → lt_z d (pos 0) ≡ true → course ≡ towards (1_800_000_000 + a)
  pub n_alone : lt_z n (pos 0) ≡ true → lt_z d (pos 0) ≡ false → course ≡ towards ((3_600_000_000 - a) % 3_600_000_000)

-- a number below 0 is not 0
below_some : (z : ℤ) → lt_z z (pos 0) ≡ true → z ≡ pos 0 → ⊥
below_some z t e = omega (arith, lt_z_true z (pos 0) t, ap above e, ap below e)

pub course_by_rule : (lat lon lat' lon' : ℤ) → accepted lat lon ≡ true → accepted lat' lon' ≡ true
    → IsCourse lat lon lat' lon' (direction_paper (course_of lat lon lat' lon'))
unfolding eastward northward course_by
course_by_rule lat lon lat' lon' first second =
    let p = and_true (is_latitude lat) (is_longitude lon) first in
    let q = and_true (is_latitude lat') (is_longitude lon') second in
    let l = latitude_angle lat p.0 in
    let l' = latitude_angle lat' q.0 in
    let offset = offset_of lon' lon in
    let o = C.offset_angle lon lon' p.1 q.1 in
    let n = eastward lat' offset in
    let d = northward lat lat' offset in
    let a = slope_of (nat_abs d) (nat_abs n) in
    let h = slope_top (nat_abs d) (nat_abs n) in
    let c = cosine_is lat l ∙ C.offset_cosine_latitude lat p.0 in
    let c' = cosine_is lat' l' ∙ C.offset_cosine_latitude lat' q.0 in
    let b = over (short_around lat *ℤ pos (short_cosine lat')) in
    let is = course_is lat lon lat' lon' first second in
    record {
      n = n;
      rise = over (pos (short_cosine lat) *ℤ short_around lat');
      back = b;
      less = over (b *ℤ offset_cosine offset);
      d = d;
      a = a;
      n_is = rw (c', sine_is offset o) (drops (pos (short_cosine lat') *ℤ short_around offset));
      rise_is = rw (c, sine_is lat' l') (drops (pos (short_cosine lat) *ℤ short_around lat'));
      back_is = rw (sine_is lat l, c') (drops (short_around lat *ℤ pos (short_cosine lat')));
      less_is = rw (cosine_is offset o) (drops (b *ℤ offset_cosine offset));
      d_is = refl;
      a_inside = h;
      a_low = rw (sine_at a h, cosine_at a h) (slope_low (nat_abs d) (nat_abs n));
      a_high = λ v m k. rw (sine_at v k, cosine_at v k) (slope_high (nat_abs d) (nat_abs n) v m k);
      none = λ e f. is ∙ ap₂ (λ (x y : ℤ). direction_paper (set_off x y)) e f ∙ both_zero;
      neither = λ f s t. is ∙ set_off_lem n d f ∙ ap towards (rw (s, t));
      d_alone = λ s t. is ∙ set_off_lem n d (λ _ e. below_some d t e) ∙ ap towards (rw (s, t));
      both = λ s t. is ∙ set_off_lem n d (λ e _. below_some n s e) ∙ ap towards (rw (s, t));
      n_alone = λ s t. is ∙ set_off_lem n d (λ e _. below_some n s e) ∙ ap towards (rw (s, t));
    }

-- ---- every course lies below 360 degrees

-- from any N and D, whether or not two points have them
pub set_off_below : (n d : ℤ) → (direction_paper (set_off n d)).ticks < 3_600_000_000
unfolding set_off course_by
set_off_below n d = go (eq_z n (pos 0) && eq_z d (pos 0)) (inside (lt_z n (pos 0)) (lt_z d (pos 0)) (slope_top (nat_abs d) (nat_abs n)))
  where
    inside : (s t : Bool) {a : ℕ} → a ≤ quarter → in_quarter s t a < 3_600_000_000
    inside false false h = omega arith
    inside false true h = omega arith
    inside true true h = omega arith
    inside true false h = omega arith

    go : (t : Bool) {c : ℕ} → c < 3_600_000_000 → (direction_paper (if t then Err R.Course else Ok c)).ticks < 3_600_000_000
    go true h = omega arith
    go false h = h

pub course_below : (lat lon lat' lon' : ℤ) → (direction_paper (course_of lat lon lat' lon')).ticks < 3_600_000_000
unfolding course_of
course_below lat lon lat' lon' =
    let o = offset_of lon' lon in
    go (ends_refusal lat lon lat' lon') (set_off (eastward lat' o) (northward lat lat' o)) (set_off_below (eastward lat' o) (northward lat lat' o))
  where
    go : (c : Check) (v : Result ℕ Refusal) → (direction_paper v).ticks < 3_600_000_000 → (direction_paper (unrefused c v)).ticks < 3_600_000_000
    go (Ok x) v h = h
    go (Err r) v h = omega arith

-- ---- due north, south, east and west

module _ (lon lat' : ℤ) (h : is_longitude lon ≡ true) (k : is_latitude lat' ≡ true) where
  meridian_at : {d : ℤ} → short_around lat' ≡ d → direction_paper (course_of (pos 0) lon lat' lon) ≡ direction_paper (set_off (pos 0) d)
  meridian_at e =
      course_at (pos 0) lon lat' lon h (true_and k h) (ap (eastward lat') (no_offset lon h) ∙ C.no_east lat') (C.from_equator lat' (offset_of lon lon) ∙ e)

module _ (lon : ℤ) (h : is_longitude lon ≡ true) (lat : ℕ) (some : 0 < lat) (k : lat ≤ 900_000_000) where
  -- off the equator the short sine is at least 1
  tall : 1 ≤ short_sine lat
  tall = short_sine_some some k

  pub due_north : direction_paper (course_of (pos 0) lon (pos lat) lon) ≡ towards 0
  due_north =
      meridian_at lon (pos lat) h (size_latitude (pos lat) k) (C.around_size lat k)
      ∙ set_off_lem (pos 0) (pos (short_sine lat)) (north_some tall)
      ∙ ap towards (north_east 0 (short_sine lat) ∙ slope_flat tall)

  pub due_south : direction_paper (course_of (pos 0) lon (neg_ℤ (pos lat)) lon) ≡ towards 1_800_000_000
  due_south =
      let l = size_latitude (neg_ℤ (pos lat)) (omega (arith, size_neg (pos lat))) in
      meridian_at lon (neg_ℤ (pos lat)) h l (C.around_mirror (pos lat) (latitude_angle (pos lat) (size_latitude (pos lat) k)) ∙ ap neg_ℤ (C.around_size lat k))
      ∙ go (short_sine lat) tall
    where
      go : (s : ℕ) → 1 ≤ s → direction_paper (set_off (pos 0) (neg_ℤ (pos s))) ≡ towards 1_800_000_000
      go zero t = absurd (omega arith)
      go (suc s) t = set_off_lem (pos 0) (negsuc s) south_some ∙ ap towards (south_east 0 s ∙ ap (λ (n : ℕ). half - n) (slope_flat {d = suc s} (omega arith)))

module _ (lon lon' : ℤ) (h : is_longitude lon ≡ true) (k : is_longitude lon' ≡ true) where
  equator_at : {n : ℤ} → short_around (offset_of lon' lon) ≡ n → direction_paper (course_of (pos 0) lon (pos 0) lon') ≡ direction_paper (set_off n (pos 0))
  equator_at e =
      course_at (pos 0) lon (pos 0) lon' h k (C.equator_east (offset_of lon' lon) ∙ e) (C.from_equator (pos 0) (offset_of lon' lon) ∙ C.around_size 0 (omega arith) ∙ rw long_sine_zero)

  -- along the equator, less than half a turn to the east or to the west
  module _ (o : ℕ) (some : 0 < o) (less : o < 1_800_000_000) where
    wide : 1 ≤ short_sine (min o (half - o))
    wide = short_sine_some (omega arith) (omega arith)

    pub due_east : offset_of lon' lon ≡ pos o → direction_paper (course_of (pos 0) lon (pos 0) lon') ≡ towards 900_000_000
    due_east e =
        let s = short_sine (min o (half - o)) in
        equator_at (ap short_around e ∙ C.around_east o (omega arith))
        ∙ set_off_lem (pos s) (pos 0) (east_some wide)
        ∙ ap towards (north_east s 0 ∙ slope_up s)

    pub due_west : offset_of lon' lon ≡ neg_ℤ (pos o) → direction_paper (course_of (pos 0) lon (pos 0) lon') ≡ towards 2_700_000_000
    due_west e =
        equator_at (ap short_around e ∙ C.around_mirror (pos o) (size_angle (pos o) (omega arith)) ∙ ap neg_ℤ (C.around_east o (omega arith)))
        ∙ go (short_sine (min o (half - o))) wide
      where
        go : (s : ℕ) → 1 ≤ s → direction_paper (set_off (neg_ℤ (pos s)) (pos 0)) ≡ towards 2_700_000_000
        go zero t = absurd (omega arith)
        go (suc s) t = set_off_lem (negsuc s) (pos 0) west_some ∙ ap towards (north_west s 0 ∙ ap (λ (n : ℕ). (full_turn - n) % full_turn) (slope_up (suc s)))

-- ---- mirrored longitudes mirror the course

abbrev mirror : DirectionOut → DirectionOut
mirror c = record { refusal = c.refusal; ticks = (3_600_000_000 - c.ticks) % 3_600_000_000 }

mirrored : (n d : ℤ) → direction_paper (set_off (neg_ℤ n) d) ≡ mirror (direction_paper (set_off n d))
mirrored (pos zero) (pos zero) = rw both_zero
mirrored (pos zero) (pos (suc d)) = rw (set_off_lem (pos 0) (pos (suc d)) (north_some (omega arith)), north_east 0 (suc d), slope_flat {d = suc d} (omega arith))
mirrored (pos zero) (negsuc d) = rw (set_off_lem (pos 0) (negsuc d) south_some, south_east 0 d, slope_flat {d = suc d} (omega arith))
mirrored (pos (suc n)) (pos d) =
    rw (set_off_lem (pos (suc n)) (pos d) (east_some (omega arith)), set_off_lem (negsuc n) (pos d) west_some, north_east (suc n) d, north_west n d)
mirrored (pos (suc n)) (negsuc d) =
    let h = slope_top (suc d) (suc n) in
    rw (set_off_lem (pos (suc n)) (negsuc d) south_some, set_off_lem (negsuc n) (negsuc d) south_some, south_east (suc n) d, south_west n d) (ap towards (omega arith))
mirrored (negsuc n) (pos d) =
    let h = slope_top d (suc n) in
    rw (set_off_lem (negsuc n) (pos d) west_some, set_off_lem (pos (suc n)) (pos d) (east_some (omega arith)), north_east (suc n) d, north_west n d) (ap towards (omega arith))
mirrored (negsuc n) (negsuc d) =
    let h = slope_top (suc d) (suc n) in
    rw (set_off_lem (negsuc n) (negsuc d) south_some, set_off_lem (pos (suc n)) (negsuc d) south_some, south_east (suc n) d, south_west n d) (ap towards (omega arith))

-- where the mirrored longitudes are longitudes, as all are but -180 degrees
pub course_mirrored : (lat lon lat' lon' : ℤ) → accepted lat lon ≡ true → accepted lat' lon' ≡ true → is_longitude (neg_ℤ lon) ≡ true → is_longitude (neg_ℤ lon') ≡ true
    → direction_paper (course_of lat (neg_ℤ lon) lat' (neg_ℤ lon')) ≡ mirror (direction_paper (course_of lat lon lat' lon'))
course_mirrored lat lon lat' lon' first second h k =
    let p = and_true (is_latitude lat) (is_longitude lon) first in
    let q = and_true (is_latitude lat') (is_longitude lon') second in
    course_at lat (neg_ℤ lon) lat' (neg_ℤ lon') (true_and p.0 h) (true_and q.0 k) (C.mirrored_east lon lon' p.1 q.1 h k lat') (C.mirrored_north lon lon' p.1 q.1 h k lat lat')
    ∙ mirrored (eastward lat' (offset_of lon' lon)) (northward lat lat' (offset_of lon' lon))
    ∙ ap mirror (sym (course_is lat lon lat' lon' first second))

-- ---- longitudes may be counted from any meridian

pub course_from : (lat lon lat' lon' meridian : ℤ) → accepted lat lon ≡ true → accepted lat' lon' ≡ true → is_longitude meridian ≡ true
    → direction_paper (course_of lat (offset_of lon meridian) lat' (offset_of lon' meridian)) ≡ direction_paper (course_of lat lon lat' lon')
course_from lat lon lat' lon' meridian first second m =
    let p = and_true (is_latitude lat) (is_longitude lon) first in
    let q = and_true (is_latitude lat') (is_longitude lon') second in
    let o = is_longitude_lem (offset_of lon meridian) (offset_longitude lon meridian p.1 m) in
    let o' = is_longitude_lem (offset_of lon' meridian) (offset_longitude lon' meridian q.1 m) in
    let e = offset_from lon' lon meridian q.1 p.1 m in
    course_at lat (offset_of lon meridian) lat' (offset_of lon' meridian) (true_and p.0 o) (true_and q.0 o') (ap (eastward lat') e) (ap (northward lat lat') e)
    ∙ sym (course_is lat lon lat' lon' first second)

-- ---- figures

-- 60° N, a tick to the west: N drops to 0, and the two parts of D differ by 1, since each division drops by itself
pub course_a_tick_west : direction_paper (course_of (pos 600_000_000) (pos 0) (pos 600_000_000) (neg_ℤ (pos 1))) ≡ towards 0
unfolding offset_of eastward northward offset_cosine folded short_cosine
course_a_tick_west =
    course_at (pos 600_000_000) (pos 0) (pos 600_000_000) (neg_ℤ (pos 1)) refl refl {n = pos 0} {d = pos 1} (rw (long_30, long_sine_tick)) (rw (long_30, long_60, long_before_90))
    ∙ set_off_lem (pos 0) (pos 1) (north_some (omega arith))
    ∙ ap towards (north_east 0 1 ∙ slope_flat {d = 1} (omega arith))

-- different points without a course: a tick from a pole, their longitudes a tick apart, and half a turn along the equator
pub course_none : (direction_paper (course_of (pos 899_999_999) (pos 0) (pos 899_999_999) (pos 1)) ≡ no_course 18)
    × (direction_paper (course_of (pos 0) (pos 0) (pos 0) (neg_ℤ (pos 1_800_000_000))) ≡ no_course 18)
unfolding offset_of eastward northward offset_cosine folded short_cosine
course_none = (
  course_at (pos 899_999_999) (pos 0) (pos 899_999_999) (pos 1) refl refl {n = pos 0} {d = pos 0} (rw long_sine_tick) (rw (long_sine_tick, long_before_90)) ∙ both_zero,
  course_at (pos 0) (pos 0) (pos 0) (neg_ℤ (pos 1_800_000_000)) refl refl {n = pos 0} {d = pos 0} (rw (long_sine_quarter, long_sine_zero)) (rw (long_sine_quarter, long_sine_zero)) ∙ both_zero,
)

-- from 30° N over the pole to the equator: the cosine of the offset is negative, D is not, and the way is north
pub course_over_the_pole : direction_paper (course_of (pos 300_000_000) (pos 0) (pos 0) (neg_ℤ (pos 1_800_000_000))) ≡ towards 0
unfolding offset_of eastward northward offset_cosine folded short_cosine
course_over_the_pole =
    course_at (pos 300_000_000) (pos 0) (pos 0) (neg_ℤ (pos 1_800_000_000)) refl refl {n = pos 0} {d = pos 500_000_000} (rw (long_sine_quarter, long_sine_zero)) (rw (long_30, long_60, long_sine_zero, long_sine_quarter))
    ∙ set_off_lem (pos 0) (pos 500_000_000) (north_some (omega arith))
    ∙ ap towards (north_east 0 500_000_000 ∙ slope_flat {d = 500_000_000} (omega arith))

-- over the date line it is east from 179.9° E to 179.9° W, and west back
pub course_date_line : (direction_paper (course_of (pos 0) (pos 1_799_000_000) (pos 0) (neg_ℤ (pos 1_799_000_000))) ≡ towards 900_000_000)
    × (direction_paper (course_of (pos 0) (neg_ℤ (pos 1_799_000_000)) (pos 0) (pos 1_799_000_000)) ≡ towards 2_700_000_000)
unfolding offset_of
course_date_line = (
  due_east (pos 1_799_000_000) (neg_ℤ (pos 1_799_000_000)) refl refl 2_000_000 (omega arith) (omega arith) refl,
  due_west (neg_ℤ (pos 1_799_000_000)) (pos 1_799_000_000) refl refl 2_000_000 (omega arith) (omega arith) refl,
)
