-- What is promised of a point that was put into a buffer, and of what refuses a buffer, proved about the definitions.
-- Assumes nothing.
use Rattle.std.specs.Prelude.{◌≡◌, ◌⊎◌, true, false, ◌&&◌, List, leb, eqb, ℤ, pos, length, set, Ok, Err}
use Rattle.std.proofs.Math.Path.{refl}
use Rattle.std.proofs.Common.{◌∙◌, inl, inr, arith, eqb-true, eq-eqb, leb-true, leb-false, le-leb, length-set, get_or-set_same, get_or-set_other}
use Prim.Native.Nat.{ℕ, zero, suc, ◌+◌, ◌*◌, ◌%◌, ◌≤◌, ◌<◌}
use Rattle.refusals.specs.declared.Refusal.{Refusal}
use Rattle.refusals.specs.declared.Refusal.TheVariants as R
use Rattle.refusals.specs.Refusal.{number}
use Rattle.refusals.specs.Choice.{unless, Check, fine, first_of}
use Rattle.refusals.specs.Tests.{by_test, clash, and_true, true_and}
use Rattle.signed.specs.Tests.{eq_z, eq_z_true}
use Rattle.ticks.specs.Ticks.{point_refusal}
use Rattle.points.specs.Points.{numbers, part_at, latitude_at, longitude_at, third_at, count, most_points, put_at, fits_after, thirds_fit, points_refusal, buffer_refusal}
use Rattle.points.proofs.PointLaws.{put_in, thirds_of, thirds_fit_lem, unrefused_of}

-- ---- a point that was put

pub record PutBack (b : List ℤ) (i : ℕ) (lat lon third : ℤ) : Type 0 where
  pub latitude : latitude_at (put_at b i lat lon third) i ≡ lat
  pub longitude : longitude_at (put_at b i lat lon third) i ≡ lon
  pub third_number : third_at (put_at b i lat lon third) i ≡ third
  -- no number of another point changes
  pub others : (j k : ℕ) → k < numbers → (j ≡ i → ⊥) → part_at (put_at b i lat lon third) j k ≡ part_at b j k

-- where there is room for a point, its numbers are read back
pub put_back : (b : List ℤ) (i : ℕ) (lat lon third : ℤ) → i < count b → PutBack b i lat lon third
put_back b i lat lon third h =
    let at = numbers * i in
    let b₁ = set b at lat in
    let b₂ = set b₁ (suc at) lon in
    let first : at + 0 ≡ at = omega arith in
    let second : at + 1 ≡ suc at = omega arith in
    let last : at + 2 ≡ suc (suc at) = omega arith in
    let stored = put_in b i lat lon third h in
    record {
      latitude = rw (stored, first)
          (get_or-set_other b₂ (suc (suc at)) at third (pos 0) (λ e. omega arith) ∙
          get_or-set_other b₁ (suc at) at lon (pos 0) (λ e. omega arith) ∙
          get_or-set_same b at lat (pos 0) (omega arith));
      longitude = rw (stored, second)
          (get_or-set_other b₂ (suc (suc at)) (suc at) third (pos 0) (λ e. omega arith) ∙
          get_or-set_same b₁ (suc at) lon (pos 0) (simp length-set (omega arith)));
      third_number = rw (stored, last) (get_or-set_same b₂ (suc (suc at)) third (pos 0) (simp length-set (omega arith)));
      others = λ j k l n. rw stored
          (get_or-set_other b₂ (suc (suc at)) (numbers * j + k) third (pos 0) (λ e. n (omega arith)) ∙
          get_or-set_other b₁ (suc at) (numbers * j + k) lon (pos 0) (λ e. n (omega arith)) ∙
          get_or-set_other b at (numbers * j + k) lat (pos 0) (λ e. n (omega arith)));
    }

-- ---- what refuses a buffer

-- none of "buffer not a multiple of three, a third number other than 0 or 1, or a first one of 0"
pub record Formed (b : List ℤ) : Type 0 where
  pub whole : length b % 3 ≡ 0
  pub thirds : (i : ℕ) → i < count b → (third_at b i ≡ pos 1) ⊎ ((0 < i) × (third_at b i ≡ pos 0))

-- r is the refusal of the first point that has one
pub record FirstRefused (b : List ℤ) (r : Refusal) : Type 0 where
  pub i : ℕ
  pub inside : i < count b
  pub here : point_refusal (latitude_at b i) (longitude_at b i) ≡ Err r
  pub before : (j : ℕ) → j < i → point_refusal (latitude_at b j) (longitude_at b j) ≡ fine

-- 17 first, then 9, then 6 and 7 by point; no case is another. A refusal of the whole has its number beside its name, one of a point as `ticks` promises
pub data Judged (b : List ℤ) : Check → Type 0 where
  unformed : (Formed b → ⊥) → number R.Buffer ≡ 17 → Judged b (Err R.Buffer)
  many : Formed b → 1_000 < count b → number R.Points ≡ 9 → Judged b (Err R.Points)
  refused : {r : Refusal} → Formed b → count b ≤ 1_000 → FirstRefused b r → Judged b (Err r)
  none : Formed b → count b ≤ 1_000 → ((i : ℕ) → i < count b → point_refusal (latitude_at b i) (longitude_at b i) ≡ fine) → Judged b fine

fits_says : (i : ℕ) (z : ℤ) → fits_after i z ≡ true → (z ≡ pos 1) ⊎ ((0 < i) × (z ≡ pos 0))
fits_says i z t = by_test (eq_z z (pos 1)) (λ e. inl (eq_z_true z (pos 1) e)) other
  where
    other : eq_z z (pos 1) ≡ false → (z ≡ pos 1) ⊎ ((0 < i) × (z ≡ pos 0))
    other e = let h = and_true (leb 1 i) (eq_z z (pos 0)) (rw e at t) in inr (leb-true 1 i h.0, eq_z_true z (pos 0) h.1)

says_fits : (i : ℕ) (z : ℤ) → (z ≡ pos 1) ⊎ ((0 < i) × (z ≡ pos 0)) → fits_after i z ≡ true
says_fits i z (inl e) = rw e
says_fits i z (inr h) = rw (h.1, le-leb 1 i h.0)

module _ (b : List ℤ) where
  formed : eqb (length b % numbers) 0 && thirds_fit b (count b) ≡ true → Formed b
  formed t =
      let p = and_true (eqb (length b % numbers) 0) (thirds_fit b (count b)) t in
      record { whole = eqb-true (length b % numbers) 0 p.0; thirds = λ i h. fits_says i (third_at b i) (thirds_of b (count b) p.1 i h) }

  formed_test : Formed b → eqb (length b % numbers) 0 && thirds_fit b (count b) ≡ true
  formed_test f = true_and (eq-eqb (length b % numbers) 0 f.whole) (thirds_fit_lem b (count b) (λ i h. says_fits i (third_at b i) (f.thirds i h)))

  first_refused : {r : Refusal} (k : ℕ) → k ≤ count b → points_refusal b k ≡ Err r → FirstRefused b r
  unfolding points_refusal
  first_refused zero l e = absurd (grind arith)
  first_refused {r} (suc k) l e = go (λ z. first_refused k (omega arith) z) (points_refusal b k) refl e
    where
      go : (points_refusal b k ≡ Err r → FirstRefused b r) → (c : Check) → points_refusal b k ≡ c
          → first_of c (point_refusal (latitude_at b k) (longitude_at b k)) ≡ Err r → FirstRefused b r
      go again (Ok tt) z h = record { i = k; inside = l; here = h; before = unrefused_of b k z }
      go again (Err q) z h = again (z ∙ h)

  few_judged : Formed b → count b ≤ 1_000 → Judged b (points_refusal b (count b))
  few_judged f h = go (points_refusal b (count b)) refl
    where
      go : (c : Check) → points_refusal b (count b) ≡ c → Judged b c
      go (Ok tt) e = none f h (unrefused_of b (count b) e)
      go (Err r) e = refused f h (first_refused (count b) (omega arith) e)

  formed_judged : Formed b → Judged b (unless (leb (count b) most_points) (Err R.Points) (points_refusal b (count b)))
  formed_judged f =
      by_test (leb (count b) most_points)
      (λ e. rw e (few_judged f (leb-true (count b) 1_000 e)))
      (λ e. rw e (many f (leb-false (count b) 1_000 e) refl))

  pub buffer_judged : Judged b (buffer_refusal b)
  unfolding buffer_refusal
  buffer_judged =
      by_test (eqb (length b % numbers) 0 && thirds_fit b (count b))
      (λ t. rw t (formed_judged (formed t)))
      (λ t. rw t (unformed (λ f. clash (formed_test f) t) refl))
