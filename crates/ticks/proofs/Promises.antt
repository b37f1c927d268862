-- What is promised of the ranges, of the offset, of the fold and of the refusals of a point, in the document's own numbers.
-- Assumes nothing.
use Rattle.std.specs.Prelude.{◌≡◌, refl, ◌↔◌, ◌⊎◌, Bool, true, false, ◌&&◌, ℕ, T, ℤ, pos, neg_ℤ, ◌+ℤ◌, ◌-ℤ◌, ◌≤ℤ◌, ◌<ℤ◌, if◌then◌else◌, Err}
use Rattle.std.proofs.Common.{sym, subst, ◌∙◌, inl, inr, arith}
use Rattle.std.proofs.Math.Path.{ap}
use Rattle.std.specs.Int.Signed.{lt_z, le_z}
use Rattle.refusals.specs.declared.Refusal.TheVariants as R
use Rattle.refusals.specs.Choice.{Check, fine, sent}
use Rattle.refusals.specs.Tests.{by_test, and_true, true_and}
use Rattle.signed.specs.Sides.{above, below, same, add_sides, sub_sides}
use Rattle.ticks.specs.Ticks.{half, full_turn, is_latitude, is_longitude, is_angle, folded, accepted, turned, offset_of, point_refusal, sheet_refusal}
use Rattle.ticks.proofs.TickLaws.{longitude, is_longitude_lem, Turned, turned_how, offset_longitude, no_offset, folded_latitude, folded_self, folded_mirror}

-- ---- the ranges

holds : {t : Bool} → t ≡ true → T t
holds e = subst T (sym e) tt

is_true : (t : Bool) → T t → t ≡ true
is_true t h = by_test t (λ e. e) (λ e. absurd (subst T e h))

-- from -n to n, both allowed
both_allowed : (n : ℕ) (z : ℤ) → (le_z (neg_ℤ (pos n)) z && le_z z (pos n) ≡ true) ↔ ((neg_ℤ (pos n) ≤ℤ z) × (z ≤ℤ pos n))
both_allowed n z = (there, λ h. true_and (is_true (le_z (neg_ℤ (pos n)) z) h.0.le) (is_true (le_z z (pos n)) h.1.le))
  where
    there : le_z (neg_ℤ (pos n)) z && le_z z (pos n) ≡ true → (neg_ℤ (pos n) ≤ℤ z) × (z ≤ℤ pos n)
    there e =
        let p = and_true (le_z (neg_ℤ (pos n)) z) (le_z z (pos n)) e in
        (record { le = holds p.0 }, record { le = holds p.1 })

-- "Latitude runs from -900,000,000 to 900,000,000, both allowed."
pub latitude_range : (z : ℤ) → (is_latitude z ≡ true) ↔ ((neg_ℤ (pos 900_000_000) ≤ℤ z) × (z ≤ℤ pos 900_000_000))
latitude_range z = both_allowed 900_000_000 z

-- "-180 to 180 degrees, both allowed"
pub angle_range : (z : ℤ) → (is_angle z ≡ true) ↔ ((neg_ℤ (pos 1_800_000_000) ≤ℤ z) × (z ≤ℤ pos 1_800_000_000))
angle_range z = both_allowed 1_800_000_000 z

-- "Longitude and central meridian run from -1,800,000,000, allowed, up to but not including 1,800,000,000"
pub longitude_range : (z : ℤ) → (is_longitude z ≡ true) ↔ ((neg_ℤ (pos 1_800_000_000) ≤ℤ z) × (z <ℤ pos 1_800_000_000))
longitude_range z = (there, λ h. true_and (is_true (le_z (neg_ℤ (pos 1_800_000_000)) z) h.0.le) (is_true (lt_z z (pos 1_800_000_000)) h.1.lt))
  where
    there : is_longitude z ≡ true → (neg_ℤ (pos 1_800_000_000) ≤ℤ z) × (z <ℤ pos 1_800_000_000)
    there e =
        let p = and_true (le_z (neg_ℤ (pos 1_800_000_000)) z) (lt_z z (pos 1_800_000_000)) e in
        (record { le = holds p.0 }, record { lt = holds p.1 })

-- ---- the offset

-- "plus or minus a full turn where needed so that it lies in the longitude range": what these words say of o and a difference d
pub record IsTurned (d o : ℤ) : Type 0 where
  pub range : is_longitude o ≡ true
  pub turns : (o ≡ d) ⊎ ((o ≡ d +ℤ pos 3_600_000_000) ⊎ (o ≡ d -ℤ pos 3_600_000_000))

turns_of : (d : ℤ) → (turned d ≡ d) ⊎ ((turned d ≡ d +ℤ pos 3_600_000_000) ⊎ (turned d ≡ d -ℤ pos 3_600_000_000))
turns_of d = go (lt_z d (neg_ℤ (pos half))) (le_z (pos half) d)
  where
    go : (a b : Bool) → let o = if a then d +ℤ pos full_turn else (if b then d -ℤ pos full_turn else d) in (o ≡ d) ⊎ ((o ≡ d +ℤ pos 3_600_000_000) ⊎ (o ≡ d -ℤ pos 3_600_000_000))
    go true b = inr (inl refl)
    go false true = inr (inr refl)
    go false false = inl refl

turned_by : {d o : ℤ} → (o ≡ d) ⊎ ((o ≡ d +ℤ pos 3_600_000_000) ⊎ (o ≡ d -ℤ pos 3_600_000_000)) → Turned d o
turned_by {d} (inl e) = record { k = 1; few = omega arith; apart = omega (arith, ap above e, ap below e) }
turned_by {d} (inr (inl e)) = record { k = 2; few = omega arith; apart = omega (arith, ap above e, ap below e, add_sides d (pos full_turn)) }
turned_by {d} (inr (inr e)) = record { k = 0; few = omega arith; apart = omega (arith, ap above e, ap below e, sub_sides d (pos full_turn)) }

-- they say it of one number only
pub turned_one : {d o o' : ℤ} → IsTurned d o → IsTurned d o' → o ≡ o'
turned_one {d} {o} {o'} a b =
    let p = longitude o a.range in
    let q = longitude o' b.range in
    let s = turned_by a.turns in
    let t = turned_by b.turns in
    same o o' (omega (arith, s.apart, s.few, t.apart, t.few))

module _ (lon meridian : ℤ) (p : is_longitude lon ≡ true) (q : is_longitude meridian ≡ true) where
  -- "Offset: longitude minus central meridian, plus or minus a full turn where needed"
  pub offset_meets : IsTurned (lon -ℤ meridian) (offset_of lon meridian)
  unfolding offset_of
  offset_meets = record { range = is_longitude_lem (offset_of lon meridian) (offset_longitude lon meridian p q); turns = turns_of (lon -ℤ meridian) }

  -- it is 0 for the central meridian's own longitude and for no other
  pub offset_zero : (offset_of lon meridian ≡ pos 0) ↔ (lon ≡ meridian)
  unfolding offset_of
  offset_zero =
      let l = longitude lon p in
      let m = longitude meridian q in
      let t = turned_how (lon -ℤ meridian) in
      (λ e. same lon meridian (omega (arith, sub_sides lon meridian, t.apart, t.few, ap above e, ap below e)), λ e. ap (λ (x : ℤ). offset_of x meridian) e ∙ no_offset meridian q)

-- ---- the fold

-- "beyond 90, the sine of 180 less the angle; odd as before": whose sine is taken for an angle's
pub record Folds (a : ℤ) : Type 0 where
  pub inside : is_latitude (folded a) ≡ true
  pub self : is_latitude a ≡ true → folded a ≡ a
  pub beyond : pos 900_000_000 <ℤ a → folded a ≡ pos 1_800_000_000 -ℤ a
  pub odd : folded (neg_ℤ a) ≡ neg_ℤ (folded a)

pub folds : (a : ℤ) → is_angle a ≡ true → Folds a
unfolding folded
folds a h = record { inside = folded_latitude a h; self = folded_self a; beyond = λ l. rw (is_true (lt_z (pos 900_000_000) a) l.lt); odd = folded_mirror a h }

-- ---- refusals

-- each refusal by its name, and by the number that is sent back

-- "A point is accepted exactly when its latitude and longitude lie in these ranges."; 6 comes before 7
pub record PointJudged (lat lon : ℤ) : Type 0 where
  pub six : is_latitude lat ≡ false → (point_refusal lat lon ≡ Err R.Latitude) × (sent (point_refusal lat lon) ≡ 6)
  pub seven : is_latitude lat ≡ true → is_longitude lon ≡ false → (point_refusal lat lon ≡ Err R.Longitude) × (sent (point_refusal lat lon) ≡ 7)
  pub none : accepted lat lon ≡ true → (point_refusal lat lon ≡ fine) × (sent (point_refusal lat lon) ≡ 0)

pub point_judged : (lat lon : ℤ) → PointJudged lat lon
unfolding point_refusal
point_judged lat lon =
    record {
      six = λ e. (rw e, rw e);
      seven = λ e f. (rw (e, f), rw (e, f));
      none = λ e. let h = and_true (is_latitude lat) (is_longitude lon) e in (rw (h.0, h.1), rw (h.0, h.1));
    }

abbrev pub Is6 : Check → Type 0
Is6 c = (c ≡ Err R.Latitude) × (sent c ≡ 6)

-- an angle that has a sine is no latitude for that: 90 degrees and a tick
pub past_the_pole : (is_angle (pos 900_000_001) ≡ true) × Is6 (point_refusal (pos 900_000_001) (pos 0)) × Is6 (point_refusal (neg_ℤ (pos 900_000_001)) (pos 0))
unfolding point_refusal
past_the_pole = (refl, (refl, refl), (refl, refl))

-- "Sheets: 14, 6, 7."
pub record SheetJudged (lat lon meridian : ℤ) : Type 0 where
  pub fourteen : is_longitude meridian ≡ false → (sheet_refusal lat lon meridian ≡ Err R.Meridian) × (sent (sheet_refusal lat lon meridian) ≡ 14)
  pub point : is_longitude meridian ≡ true → sheet_refusal lat lon meridian ≡ point_refusal lat lon

pub sheet_judged : (lat lon meridian : ℤ) → SheetJudged lat lon meridian
unfolding sheet_refusal
sheet_judged lat lon meridian = record { fourteen = λ e. (rw e, rw e); point = λ e. rw e }
