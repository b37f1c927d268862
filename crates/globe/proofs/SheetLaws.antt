-- Demand 3 proved once for every sheet whose latitudes come back from their heights, and so for both sheets; that two ways back which
-- meet it agree; and the way back as it is worked out.
-- Assumes nothing.
use Rattle.std.specs.Prelude.{◌≡◌, ◌↔◌, ◌⊎◌, Bool, ℕ, zero, suc, ◌≤◌, ◌<◌, leb, ℤ, pos, negsuc, neg_ℤ, nat_abs, ◌+ℤ◌, ◌*ℤ◌, if◌then◌else◌, Result, Ok, Err}
use Rattle.std.proofs.Math.Path.{refl, sym, ap}
use Rattle.std.proofs.Common.{subst, ◌∙◌, inl, inr, ⊎_elim, le_refl, arith}
use Rattle.std.proofs.Math.Bool.{true, false}
use Rattle.std.proofs.Math.Nat.{div-zero}
use borrow.Author.Tests.{eqb-true, eqb-false, ne_eqb, le-leb, lt-leb}
use Rattle.std.proofs.Math.Dec.{eqb}
use Rattle.std.proofs.Math.IntN.{*ℤ-zero}
use Rattle.std.specs.Int.Signed.{quot_z}
use Rattle.signed.specs.Sides.{same, mul_above, mul_below, quot_mul}
use Rattle.signed.specs.Tests.{eq_z, eq_z_true, eq_eq_z}
use Rattle.signed.specs.Sign.{sign_as}
use Rattle.signed.specs.SignLaws.{as_size, as_self, as_as}
use Rattle.sines.specs.Sine.{step, quarter, long_sine}
use Rattle.sines.proofs.SineLaws.{a_step, long_sine_lt, long_sine_one, long_sine_zero}
use Rattle.sines.proofs.GreatestLaws.{greatest_is}
use Rattle.sines.specs.BackLaws.{LastAngle}
use Rattle.sines.proofs.BackLaws.{later}
use Rattle.globe.specs.declared.Place.{Place}
use Rattle.globe.specs.declared.PlaceOut.{PlaceOut}
use Rattle.globe.specs.declared.Point.{Point}
use Rattle.globe.specs.declared.PointOut.{PointOut}
use Rattle.refusals.specs.declared.Refusal.{Refusal}
use Rattle.refusals.specs.declared.Refusal.TheVariants as R
use Rattle.refusals.specs.Refusal.{number}
use Rattle.refusals.specs.Choice.{unless, Check, sent, answered}
use Rattle.refusals.specs.Tests.{and_true, true_and, and_yes, by_test, clash, sent_none}
use Rattle.ticks.specs.Ticks.{is_latitude, is_longitude, accepted, turned, offset_of, point_refusal, sheet_refusal}
use Rattle.ticks.proofs.TickLaws.{latitude_size, is_longitude_lem, offset_longitude, sum_longitude, turn_back, back_turn, no_offset, sheet_accepted}
use Rattle.globe.specs.Angle.{signed_long_sine}
use Rattle.globe.proofs.AngleLaws.{cosine_off, cosine_pole}
use Rattle.globe.specs.Sheet.{Sheet, cylinder, sinusoid, place, place_of, cylindrical_of, sinusoidal_of, is_at, point, back_of, cylindrical_back_of, sinusoidal_back_of}
use Rattle.globe.specs.Paper.{place_paper, point_paper}
use Rattle.globe.specs.Demand.{there, no_place, no_point, Demand3}
use Rattle.globe.specs.SheetLaws.{Invertible, angle_up_to, at_pole, is_exact, off_pole, point_at, if_there}

pub times_one : (z : ℤ) → z *ℤ pos 1 ≡ z
times_one z = same (z *ℤ pos 1) z (omega (arith, mul_above z 1, mul_below z 1))

-- ---- what a place tells

at_is : (x y : ℤ) (a : Result Place Refusal) → is_at x y a ≡ true → a ≡ Ok (place x y)
at_is x y (Ok p) t =
    let h = and_true (eq_z p.x x) (eq_z p.y y) t in
    rw (← eq_z_true p.x x h.0, ← eq_z_true p.y y h.1)
at_is x y (Err r) t = clash t refl

is_at_lem : (x y : ℤ) → is_at x y (Ok (place x y)) ≡ true
is_at_lem x y = true_and (eq_eq_z x x refl) (eq_eq_z y y refl)

paper_refusal : (c : Check) (x y : ℤ) → (place_paper (answered c (place x y))).refusal ≡ sent c
paper_refusal (Ok tt) x y = refl
paper_refusal (Err r) x y = refl

same_lat : {a b c d : ℤ} → ◌≡◌ {A = Result Point Refusal} (Ok (point a b)) (Ok (point c d)) → a ≡ c
same_lat {a} {b} {c} {d} e = let p : point a b ≡ point c d = cc in ap (λ (q : Point). q.latitude) p

same_lon : {a b c d : ℤ} → ◌≡◌ {A = Result Point Refusal} (Ok (point a b)) (Ok (point c d)) → b ≡ d
same_lon {a} {b} {c} {d} e = let p : point a b ≡ point c d = cc in ap (λ (q : Point). q.longitude) p

refused_point : {A : Type 0} {p : PointOut} → p ≡ no_point R.Place → p.refusal ≡ 0 → A
refused_point e z = let n : ◌≡◌ {A = ℕ} (number R.Place) 0 = sym (ap (λ (p : PointOut). p.refusal) e) ∙ z in absurd (omega arith)

same_out : (p q : PointOut) → p.refusal ≡ q.refusal → p.latitude ≡ q.latitude → p.longitude ≡ q.longitude → p ≡ q
same_out p q r a o =
    ap (λ (n : ℕ). record { refusal = n; latitude = p.latitude; longitude = p.longitude }) r
    ∙ ap (λ (z : ℤ). record { refusal = q.refusal; latitude = z; longitude = p.longitude }) a
    ∙ ap (λ (z : ℤ). record { refusal = q.refusal; latitude = q.latitude; longitude = z }) o

-- ---- where the width is 0

no_x : {w : ℕ} → w ≡ 0 → (d : ℤ) → d *ℤ pos w ≡ pos 0
no_x e d = ap (λ (n : ℕ). d *ℤ pos n) e ∙ *ℤ-zero d

quot_none : (z : ℤ) → quot_z z (pos 0) ≡ pos 0
quot_none (pos n) = ap pos (div-zero n)
quot_none (negsuc n) = ap (λ (k : ℕ). neg_ℤ (pos k)) (div-zero (suc n))

own : (meridian : ℤ) → is_longitude meridian ≡ true → turned (meridian +ℤ pos 0) ≡ meridian
own meridian m = rw (no_offset meridian m) at (turn_back meridian meridian m m)

pole_own : {w : ℕ} (x meridian : ℤ) → is_longitude meridian ≡ true → w ≡ 0 → turned (meridian +ℤ quot_z x (pos w)) ≡ meridian
pole_own x meridian m e = ap (λ (n : ℕ). turned (meridian +ℤ quot_z x (pos n))) e ∙ ap (λ (z : ℤ). turned (meridian +ℤ z)) (quot_none x) ∙ own meridian m

module _ (s : Sheet) where
  -- ---- places

  module _ (lat lon meridian : ℤ) where
    pub place_refusal : (place_paper (place_of s lat lon meridian)).refusal ≡ sent (sheet_refusal lat lon meridian)
    unfolding place_of
    place_refusal = paper_refusal (sheet_refusal lat lon meridian) _ _

    module _ (m : is_longitude meridian ≡ true) where
      pub place_is : accepted lat lon ≡ true → place_of s lat lon meridian ≡ Ok (place (offset_of lon meridian *ℤ pos (s.width lat)) (s.height lat))
      unfolding place_of sheet_refusal point_refusal
      place_is h = let p = and_true (is_latitude lat) (is_longitude lon) h in rw (m, p.0, p.1)

  -- what a place tells: nothing was out of range, and x and y are the sheet's
  abbrev pub Told : ℤ → ℤ → ℤ → ℤ → ℤ → Type 0
  Told lat lon meridian x y =
      (is_longitude meridian ≡ true) × (accepted lat lon ≡ true) × (x ≡ offset_of lon meridian *ℤ pos (s.width lat)) × (y ≡ s.height lat)

  pub paper_tells : (lat lon meridian : ℤ) {x y : ℤ} → place_paper (place_of s lat lon meridian) ≡ there x y → Told lat lon meridian x y
  paper_tells lat lon meridian {x} {y} e =
      let a = sheet_accepted lat lon meridian (sent_none _ (sym (place_refusal lat lon meridian) ∙ ap (λ (p : PlaceOut). p.refusal) e)) in
      let h = true_and a.1 a.2 in
      let f = sym (ap place_paper (place_is lat lon meridian a.0 h)) ∙ e in
      (a.0, h, sym (ap (λ (p : PlaceOut). p.x) f), sym (ap (λ (p : PlaceOut). p.y) f))

  pub place_tells : (lat lon meridian : ℤ) {x y : ℤ} → place_of s lat lon meridian ≡ Ok (place x y) → Told lat lon meridian x y
  place_tells lat lon meridian e = paper_tells lat lon meridian (ap place_paper e)

  pub of_paper : (lat lon meridian : ℤ) {x y : ℤ} → place_paper (place_of s lat lon meridian) ≡ there x y → place_of s lat lon meridian ≡ Ok (place x y)
  of_paper lat lon meridian e = let t = paper_tells lat lon meridian e in rw (t.2, t.3) (place_is lat lon meridian t.0 t.1)

  pub no_place_lem : (lat lon meridian : ℤ) → is_longitude meridian ≡ false → place_paper (place_of s lat lon meridian) ≡ no_place R.Meridian
  unfolding place_of sheet_refusal
  no_place_lem lat lon meridian m = rw m

  pub no_point_lem : (x y meridian : ℤ) → is_longitude meridian ≡ false → point_paper (back_of s x y meridian) ≡ no_point R.Meridian
  unfolding back_of
  no_point_lem x y meridian m = rw m

  -- ---- there and back

  module _ (inv : Invertible s) where
    -- the longitude that comes back: the point's own, and where no offset moves x the central meridian's
    abbrev comes_back : ℤ → ℤ → ℤ → ℤ
    comes_back lat lon meridian = if eqb (s.width lat) 0 then meridian else lon

    lon_back : (lon meridian : ℤ) → is_longitude meridian ≡ true → is_longitude lon ≡ true → (w : ℕ)
        → turned (meridian +ℤ quot_z (offset_of lon meridian *ℤ pos w) (pos w)) ≡ (if eqb w 0 then meridian else lon)
    lon_back lon meridian m o zero = pole_own (offset_of lon meridian *ℤ pos 0) meridian m refl
    lon_back lon meridian m o (suc n) =
        rw (quot_mul (offset_of lon meridian) {k = suc n} (omega arith), ne_eqb (suc n) 0 not_zero) (turn_back lon meridian o m)
      where
        not_zero : suc n ≡ 0 → ⊥
        not_zero e = omega arith

    pub there_and_back : (lat lon meridian x y : ℤ) → is_longitude meridian ≡ true → accepted lat lon ≡ true → place_of s lat lon meridian ≡ Ok (place x y)
        → back_of s x y meridian ≡ Ok (point lat (comes_back lat lon meridian))
    unfolding back_of
    there_and_back lat lon meridian x y m h e =
        let t = place_tells lat lon meridian e in
        let p = and_true (is_latitude lat) (is_longitude lon) h in
        let w = s.width lat in
        let lat-is : s.latitude y ≡ lat = ap s.latitude t.3 ∙ inv.back lat p.0 in
        let lon-is : turned (meridian +ℤ quot_z x (pos w)) ≡ comes_back lat lon meridian
        = ap (λ (z : ℤ). turned (meridian +ℤ quot_z z (pos w))) t.2 ∙ lon_back lon meridian m p.1 w in
        rw (m, lat-is, lon-is, shared (eqb w 0) refl, is_at_lem x y)
      where
        shared : (b : Bool) → eqb (s.width lat) 0 ≡ b → place_of s lat (if b then meridian else lon) meridian ≡ Ok (place x y)
        shared false b = e
        shared true b =
            let t = place_tells lat lon meridian e in
            let a = (and_true (is_latitude lat) (is_longitude lon) h).0 in
            let n = eqb-true (s.width lat) 0 b in
            let x-is = no_x n (offset_of meridian meridian) ∙ sym (no_x n (offset_of lon meridian)) ∙ sym t.2 in
            place_is lat meridian meridian m (true_and a m) ∙ rw (x-is, t.3)

    -- the one point that can go there, and whether it does
    module _ (x y meridian : ℤ) (m : is_longitude meridian ≡ true) where
      abbrev lat : ℤ
      lat = s.latitude y

      abbrev lon : ℤ
      lon = turned (meridian +ℤ quot_z x (pos (s.width lat)))

      abbrev goes : Bool
      goes = is_at x y (place_of s lat lon meridian)

      hit : goes ≡ true → point_paper (back_of s x y meridian) ≡ record { refusal = 0; latitude = lat; longitude = lon }
      unfolding back_of
      hit t = rw (m, t)

      miss : goes ≡ false → point_paper (back_of s x y meridian) ≡ no_point R.Place
      unfolding back_of
      miss t = rw (m, t)

      at_pole_lem : s.width lat ≡ 0 → offset_of lon meridian ≡ pos 0
      at_pole_lem e = ap (λ (z : ℤ). offset_of z meridian) (pole_own x meridian m e) ∙ no_offset meridian m

      there_right : goes ≡ true → (accepted lat lon ≡ true) × (place_paper (place_of s lat lon meridian) ≡ there x y)
      there_right t = let e = at_is x y (place_of s lat lon meridian) t in ((place_tells lat lon meridian e).1, ap place_paper e)

      back_right : let p = point_paper (back_of s x y meridian) in p.refusal ≡ 0
          → (accepted p.latitude p.longitude ≡ true)
          × (place_paper (place_of s p.latitude p.longitude meridian) ≡ there x y)
          × (s.width p.latitude ≡ 0 → offset_of p.longitude meridian ≡ pos 0)
      back_right z = by_test goes (λ t. rw (hit t) ((there_right t).0, (there_right t).1, at_pole_lem)) (λ t. refused_point (miss t) z)

      back_answers : ((point_paper (back_of s x y meridian)).refusal ≡ 0) ⊎ (point_paper (back_of s x y meridian) ≡ no_point R.Place)
      back_answers = by_test goes (λ t. inl (ap (λ (p : PointOut). p.refusal) (hit t))) (λ t. inr (miss t))

      nobody : ((lat lon : ℤ) → accepted lat lon ≡ true → place_paper (place_of s lat lon meridian) ≡ there x y → ⊥) → point_paper (back_of s x y meridian) ≡ no_point R.Place
      nobody f = by_test goes (λ t. absurd (f lat lon (there_right t).0 (there_right t).1)) miss

      somebody : point_paper (back_of s x y meridian) ≡ no_point R.Place → (lat lon : ℤ) → accepted lat lon ≡ true → place_paper (place_of s lat lon meridian) ≡ there x y → ⊥
      somebody e lat lon h f =
          refused_point e (ap (λ (p : Result Point Refusal). (point_paper p).refusal) (there_and_back lat lon meridian x y m h (of_paper lat lon meridian f)))

    pub demand3 : Demand3 (λ lat lon meridian. place_paper (place_of s lat lon meridian)) (λ x y meridian. point_paper (back_of s x y meridian)) (λ lat. s.width lat ≡ 0)
    demand3 = record {
      by_range = λ lat lon meridian m. (λ h. ap (λ (p : Result Place Refusal). (place_paper p).refusal) (place_is lat lon meridian m h), in-range lat lon meridian);
      one_point = one_point;
      right = back_right;
      none = λ x y meridian m. (somebody x y meridian m, nobody x y meridian m);
      answers = back_answers;
      no_place_lem = no_place_lem;
      no_point_lem = no_point_lem;
    }
      where
        in-range : (lat lon meridian : ℤ) → (place_paper (place_of s lat lon meridian)).refusal ≡ 0 → accepted lat lon ≡ true
        in-range lat lon meridian e =
            let a = sheet_accepted lat lon meridian (sent_none _ (sym (place_refusal lat lon meridian) ∙ e)) in
            true_and a.1 a.2

        one_point : (lat lon lat' lon' meridian x y : ℤ) → is_longitude meridian ≡ true
            → place_paper (place_of s lat lon meridian) ≡ there x y → place_paper (place_of s lat' lon' meridian) ≡ there x y
            → (lat ≡ lat') × ((lon ≡ lon') ⊎ (s.width lat ≡ 0))
        one_point lat lon lat' lon' meridian x y m e f =
            let h = (paper_tells lat lon meridian e).1 in
            let k = (paper_tells lat' lon' meridian f).1 in
            let g = sym (there_and_back lat lon meridian x y m h (of_paper lat lon meridian e)) ∙ there_and_back lat' lon' meridian x y m k (of_paper lat' lon' meridian f) in
            (same_lat g, go (same_lat g) (same_lon g) (eqb (s.width lat) 0) refl)
          where
            go : lat ≡ lat' → comes_back lat lon meridian ≡ comes_back lat' lon' meridian → (t : Bool) → eqb (s.width lat) 0 ≡ t → (lon ≡ lon') ⊎ (s.width lat ≡ 0)
            go l g true t = inr (eqb-true (s.width lat) 0 t)
            go l g false t = inl (rw (t, rw l at t) at g)

-- ---- the two sheets

-- the latitudes at which longitudes share a place, said in other words
renamed : {place : ℤ → ℤ → ℤ → PlaceOut} {back : ℤ → ℤ → ℤ → PointOut} {m n : ℤ → Type 0} → ((lat : ℤ) → is_latitude lat ≡ true → m lat ↔ n lat)
    → Demand3 place back m → Demand3 place back n
renamed {place} {back} {m} {n} f d = record {
  by_range = d.by_range;
  one_point = λ lat lon lat' lon' meridian x y k p q.
      let h = (and_true (is_latitude lat) (is_longitude lon) ((d.by_range lat lon meridian k).1 (ap (λ (p : PlaceOut). p.refusal) p))).0 in
      let o = d.one_point lat lon lat' lon' meridian x y k p q in
      (o.0, ⊎_elim inl (λ e. inr ((f lat h).0 e)) o.1);
  right = λ x y meridian k e.
      let p = back x y meridian in
      let r = d.right x y meridian k e in
      (r.0, r.1, λ h. r.2 ((f p.latitude (and_true (is_latitude p.latitude) (is_longitude p.longitude) r.0).0).1 h));
  none = d.none;
  answers = d.answers;
  no_place_lem = d.no_place_lem;
  no_point_lem = d.no_point_lem;
}

no_sine_lem : {a : ℕ} → a ≤ quarter → long_sine a ≡ 0 → a ≡ 0
no_sine_lem h e = long_sine_one h (omega arith) (e ∙ sym long_sine_zero)

angle_is : {y a : ℕ} → LastAngle step y a → angle_up_to y ≡ a
angle_is {y} {a} last =
    sym (greatest_is (λ a. leb (long_sine a) y) (record {
      inside = last.inside;
      holds = le-leb (long_sine a) y last.low;
      later = λ v l h. lt-leb (long_sine v) y (later a_step last l h);
    }))

angle_back : {a : ℕ} → a ≤ quarter → angle_up_to (long_sine a) ≡ a
angle_back h = angle_is (record { inside = h; low = le_refl _; high = λ l. long_sine_lt (omega arith) (omega arith) })

pub cylinder_invertible : Invertible cylinder
cylinder_invertible = record { back = back }
  where
    back : (lat : ℤ) → is_latitude lat ≡ true → sign_as (signed_long_sine lat) (angle_up_to (nat_abs (signed_long_sine lat))) ≡ lat
    back lat a =
        let n = nat_abs lat in
        let h = latitude_size lat a in
        rw (as_size lat (long_sine n), angle_back h) (as_as lat (long_sine n) n (no_sine_lem h) ∙ as_self lat)

pub sinusoid_invertible : Invertible sinusoid
sinusoid_invertible = record { back = λ lat a. refl }

-- no two points share a place
pub demand3_cylindrical : Demand3 (λ lat lon meridian. place_paper (cylindrical_of lat lon meridian)) (λ x y meridian. point_paper (cylindrical_back_of x y meridian)) (λ _. ⊥)
demand3_cylindrical = renamed (λ lat _. (never, absurd)) (demand3 cylinder cylinder_invertible)
  where
    never : ◌≡◌ {A = ℕ} 1 0 → ⊥
    never e = omega arith

-- but for a pole
pub demand3_sinusoidal : Demand3 (λ lat lon meridian. place_paper (sinusoidal_of lat lon meridian)) (λ x y meridian. point_paper (sinusoidal_back_of x y meridian)) (λ lat. nat_abs lat ≡ quarter)
demand3_sinusoidal = renamed (λ lat a. (pole lat a, no_width lat)) (demand3 sinusoid sinusoid_invertible)
  where
    pole : (lat : ℤ) → is_latitude lat ≡ true → sinusoid.width lat ≡ 0 → nat_abs lat ≡ quarter
    pole lat a e = omega (arith, latitude_size lat a, off)
      where
        off : nat_abs lat < quarter → ⊥
        off h = omega (arith, cosine_off lat h)

    no_width : (lat : ℤ) → nat_abs lat ≡ quarter → sinusoid.width lat ≡ 0
    no_width lat h = omega (arith, cosine_pole lat h)

-- ---- two ways back that meet demand 3 agree, so that nobody has to believe the definition of one

module _ {place : ℤ → ℤ → ℤ → PlaceOut} {b c : ℤ → ℤ → ℤ → PointOut} {merges : ℤ → Type 0} (d : Demand3 place b merges) (e : Demand3 place c merges) where
  pub ways_back_agree : (x y meridian : ℤ) → b x y meridian ≡ c x y meridian
  ways_back_agree x y meridian =
      by_test (is_longitude meridian) (λ m. go m (d.answers x y meridian m) (e.answers x y meridian m))
      (λ m. d.no_point_lem x y meridian m ∙ sym (e.no_point_lem x y meridian m))
    where
      by_offset : (lat lon lat' lon' : ℤ) → is_longitude meridian ≡ true → accepted lat lon ≡ true → accepted lat' lon' ≡ true
          → offset_of lon meridian ≡ offset_of lon' meridian → lon ≡ lon'
      by_offset lat lon lat' lon' m a b f =
          sym (turn_back lon meridian (and_true (is_latitude lat) (is_longitude lon) a).1 m)
          ∙ ap (λ (o : ℤ). turned (meridian +ℤ o)) f
          ∙ turn_back lon' meridian (and_true (is_latitude lat') (is_longitude lon') b).1 m

      go : is_longitude meridian ≡ true → ((b x y meridian).refusal ≡ 0) ⊎ (b x y meridian ≡ no_point R.Place)
          → ((c x y meridian).refusal ≡ 0) ⊎ (c x y meridian ≡ no_point R.Place) → b x y meridian ≡ c x y meridian
      go m (inl h) (inl k) =
          let r = d.right x y meridian m h in
          let t = e.right x y meridian m k in
          let o = d.one_point _ _ _ _ meridian x y m r.1 t.1 in
          same_out _ _ (h ∙ sym k) o.0 (⊎_elim (λ l. l) (λ z. by_offset (b x y meridian).latitude (b x y meridian).longitude (c x y meridian).latitude (c x y meridian).longitude m r.0 t.0 (r.2 z ∙ sym (t.2 (subst merges o.0 z)))) o.1)
      go m (inl h) (inr k) = let r = d.right x y meridian m h in absurd ((e.none x y meridian m).0 k _ _ r.0 r.1)
      go m (inr h) (inl k) = let t = e.right x y meridian m k in absurd ((d.none x y meridian m).0 h _ _ t.0 t.1)
      go m (inr h) (inr k) = h ∙ sym k

module _ (s : Sheet) (x y meridian : ℤ) (m : is_longitude meridian ≡ true) where
  -- the longitude that can have this x at a latitude
  abbrev lon_at : ℤ → ℤ
  lon_at lat = turned (meridian +ℤ quot_z x (pos (s.width lat)))

  abbrev goes_at : ℤ → Bool
  goes_at lat = is_at x y (place_of s lat (lon_at lat) meridian)

  -- no latitude has this y
  pub back_nobody : (is_latitude (s.latitude y) ≡ true → s.height (s.latitude y) ≡ y → ⊥) → back_of s x y meridian ≡ Err R.Place
  unfolding back_of
  back_nobody f = rw m (by_test (goes_at (s.latitude y)) (λ t. absurd (no t)) (λ t. rw t))
    where
      no : goes_at (s.latitude y) ≡ true → ⊥
      no t =
          let e = place_tells s (s.latitude y) (lon_at (s.latitude y)) meridian (at_is x y _ t) in
          f (and_true (is_latitude (s.latitude y)) (is_longitude (lon_at (s.latitude y))) e.1).0 (sym e.3)

  -- this one has
  module _ (lat : ℤ) (l : s.latitude y ≡ lat) (a : is_latitude lat ≡ true) (h : s.height lat ≡ y) where
    abbrev q : ℤ
    q = quot_z x (pos (s.width lat))

    -- whether a longitude at this latitude goes there
    goes_at_lem : (lon : ℤ) → is_longitude lon ≡ true → is_at x y (place_of s lat lon meridian) ≡ eq_z (offset_of lon meridian *ℤ pos (s.width lat)) x
    goes_at_lem lon o = rw (place_is s lat lon meridian m (true_and a o), eq_eq_z (s.height lat) y h) (and_yes _)

    pole : s.width lat ≡ 0 → if_there s x y meridian lat (lon_at lat) ≡ at_pole lat x meridian
    pole z = rw (pole_own x meridian m z, goes_at_lem meridian m, no_x z (offset_of meridian meridian))

    off : is_longitude q ≡ true → if_there s x y meridian lat (lon_at lat) ≡ off_pole lat (s.width lat) x meridian
    off o = rw (goes_at_lem (lon_at lat) (is_longitude_lem (lon_at lat) (sum_longitude q meridian o m)), back_turn q meridian o m, o)

    -- the quotient of a place is its offset, and so in range
    far : (s.width lat ≡ 0 → ⊥) → is_longitude q ≡ false → if_there s x y meridian lat (lon_at lat) ≡ off_pole lat (s.width lat) x meridian
    far n o = by_test (goes_at lat) (λ t. clash (in-range t) o) (λ t. rw (t, o) (sym (either (is_exact x (s.width lat)))))
      where
        either : (t : Bool) → unless {A = Result Point Refusal} t (Err R.Place) (Err R.Place) ≡ Err R.Place
        either true = refl
        either false = refl

        some : (k : ℕ) → (k ≡ 0 → ⊥) → 1 ≤ k
        some zero n = absurd (n refl)
        some (suc k) n = omega arith

        in-range : goes_at lat ≡ true → is_longitude q ≡ true
        in-range t =
            let e = place_tells s lat (lon_at lat) meridian (at_is x y _ t) in
            let i = ap (λ (z : ℤ). quot_z z (pos (s.width lat))) e.2 ∙ quot_mul (offset_of (lon_at lat) meridian) (some (s.width lat) n) in
            ap is_longitude i ∙ is_longitude_lem (offset_of (lon_at lat) meridian) (offset_longitude (lon_at lat) meridian (and_true (is_latitude lat) (is_longitude (lon_at lat)) e.1).1 m)

    pub back_at : back_of s x y meridian ≡ point_at lat (s.width lat) x meridian
    unfolding back_of
    back_at =
        rw (m, l)
        (by_test (eqb (s.width lat) 0) (λ z. rw z (pole (eqb-true _ 0 z)))
        (λ z. rw z (by_test (is_longitude q) off (far (eqb-false _ 0 z)))))

-- on the cylindrical sheet, from the last angle whose long sine is at most the size of y
module _ (y : ℤ) {a : ℕ} (last : LastAngle step (nat_abs y) a) where
  pub latitude_is : cylinder.latitude y ≡ sign_as y a
  latitude_is = ap (sign_as y) (angle_is last)

  pub height_is : long_sine a ≡ nat_abs y → signed_long_sine (sign_as y a) ≡ y
  height_is e = rw (as_size y a, e) (as_as y a (nat_abs y) (λ z. sym e ∙ ap long_sine z ∙ long_sine_zero) ∙ as_self y)

  pub sine_is : signed_long_sine (cylinder.latitude y) ≡ y → long_sine a ≡ nat_abs y
  sine_is e =
      let l = sign_as y (angle_up_to (nat_abs y)) in
      ap long_sine (sym (angle_is last) ∙ sym (as_size y _)) ∙ sym (as_size l (long_sine (nat_abs l))) ∙ ap nat_abs e
