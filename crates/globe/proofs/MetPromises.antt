-- What is promised of the question whether a target is met, in the paper's own numbers, and the document's words at work on three points.
-- Assumes nothing.
use Rattle.std.specs.Prelude.{◌≡◌, List, [], ◌∷◌, leb, ℤ, pos, take, Result, Ok, Err}
use Rattle.std.proofs.Math.Path.{refl}
use Rattle.std.proofs.Common.{ap, ⊎_elim, eq-or-lt_of_le, arith}
use Prim.Native.Nat.{ℕ, ◌*◌, ◌≤◌, ◌<◌}
use borrow.Author.Tests.{leb-true, leb-false, le-leb, lt-leb}
use Rattle.refusals.specs.declared.Refusal.{Refusal}
use Rattle.refusals.specs.declared.Refusal.TheVariants as R
use Rattle.refusals.specs.Choice.{unless, Check, fine, sent, first_of, answered}
use Rattle.refusals.specs.Tests.{by_test}
use Rattle.sines.specs.Least.{least, IsLeast}
use Rattle.sines.proofs.LeastLaws.{at_zero, least_meets, least_is}
use Rattle.points.specs.Points.{count, buffer_refusal, thirds_fit, points_refusal}
use Rattle.ticks.specs.Ticks.{point_refusal}
use Rattle.globe.specs.declared.Met.{Met}
use Rattle.globe.specs.declared.Met.TheVariants as M
use Rattle.globe.specs.declared.MetOut.{MetOut}
use Rattle.globe.proofs.LegLaws.{north_exact}
use Rattle.globe.specs.Measure.{leg_into, length_up_to, measure_of}
use Rattle.globe.proofs.MeasureLaws.{length_grows, accepted_measured, first_measured}
use Rattle.globe.specs.Met.{most_target, reaches, looked_at, walked, met_of}
use Rattle.globe.specs.Paper.{length_paper, met_paper}

-- "A refusal gives zero in every value beside its number"
pub met_zero : (v : Result Met Refusal) → ((met_paper v).refusal ≡ 0 → ⊥) → ((met_paper v).met ≡ 0) × ((met_paper v).points ≡ 0)
met_zero (Ok (M.Yes k)) n = absurd (n refl)
met_zero (Ok (M.No k)) n = absurd (n refl)
met_zero (Err r) n = (refl, refl)

module _ (b : List ℤ) where
  -- what `measure` answers for the whole buffer, and for its first k points
  abbrev whole : ℕ
  whole = (length_paper (measure_of b)).millimetres

  abbrev beginning : ℕ → ℕ
  beginning k = (length_paper (measure_of (take (3 * k) b))).millimetres

  -- "R-1's for the buffer, all found before any leg is measured": whatever the target
  pub met_refused : (target : ℕ) → (buffer_refusal b ≡ fine → ⊥) → (met_paper (met_of b target)).refusal ≡ sent (buffer_refusal b)
  unfolding met_of
  met_refused target = go (buffer_refusal b) (unless (leb target most_target) (Err R.Target) fine)
    where
      go : (c d : Check) → (c ≡ fine → ⊥) → (met_paper (answered (first_of c d) (walked b target))).refusal ≡ sent c
      go (Ok tt) d n = absurd (n refl)
      go (Err r) d n = refl

  module _ (h : buffer_refusal b ≡ fine) where
    answer_is : (target : ℕ) → target ≤ 999_999_000 → met_of b target ≡ Ok (walked b target)
    unfolding met_of
    answer_is target l = rw (h, le-leb target most_target (omega arith))

    -- "then 16 only for a target above 999,999,000"
    pub met_16 : (target : ℕ) → (999_999_000 < target → (met_paper (met_of b target)).refusal ≡ 16) × (target ≤ 999_999_000 → (met_paper (met_of b target)).refusal ≡ 0)
    unfolding met_of walked
    met_16 target = (λ l. rw (h, lt-leb target most_target l), λ l. rw (answer_is target l) (by_test (reaches b target (count b)) (λ e. rw e) (λ e. rw e)))

    beginning_is : (k : ℕ) → k ≤ count b → beginning k ≡ length_up_to b k
    beginning_is k l = ap (λ (l : Result ℕ Refusal). (length_paper l).millimetres) (first_measured b h k l)

    whole_is : whole ≡ length_up_to b (count b)
    whole_is = ap (λ (l : Result ℕ Refusal). (length_paper l).millimetres) (accepted_measured b h)

    -- the length of a beginning never falls as it grows
    pub never_falls : (k n : ℕ) → k ≤ n → n ≤ count b → beginning k ≤ beginning n
    never_falls k n l m = rw (beginning_is k (omega arith), beginning_is n m) (length_grows b k n l)

    module _ (target : ℕ) (fits : target ≤ 999_999_000) where
      abbrev answer : MetOut
      answer = met_paper (met_of b target)

      -- "Yes holds exactly when the full length is at least the target"
      pub met_yes : target ≤ whole → answer.met ≡ 1
      unfolding walked
      met_yes l = rw (answer_is target fits, le-leb target (length_up_to b (count b)) (rw whole_is at l))

      pub met_no : whole < target → answer.met ≡ 0
      unfolding walked
      met_no l = rw (answer_is target fits, lt-leb target (length_up_to b (count b)) (rw whole_is at l))

      points_is : answer.points ≡ looked_at b target
      unfolding walked
      points_is = rw (answer_is target fits) (by_test (reaches b target (count b)) (λ e. rw e) (λ e. rw e))

      shortest : IsLeast (reaches b target) (count b) answer.points
      shortest = rw points_is (least_meets (reaches b target) (count b))

      -- "the shortest beginning .. whose length reaches it": the beginning answered does,
      pub met_reached : target ≤ whole → target ≤ beginning answer.points
      met_reached l =
          let p = answer.points in
          rw (beginning_is p shortest.inside)
          (⊎_elim
          (λ e. omega (arith, whole_is, ap (length_up_to b) e))
          (λ m. leb-true target (length_up_to b p) (shortest.holds m))
          (eq-or-lt_of_le shortest.inside))

      -- and no shorter one
      pub met_shortest : (k : ℕ) → k < answer.points → beginning k < target
      met_shortest k l = rw (beginning_is k (omega (arith, shortest.inside))) (leb-false target (length_up_to b k) (shortest.earlier k l))

      -- "or n if none does"
      pub met_all : whole < target → answer.points ≡ count b
      met_all l =
          ⊎_elim (λ e. e)
          (λ m. absurd (omega (arith, whole_is, leb-true target (length_up_to b answer.points) (shortest.holds m), length_grows b answer.points (count b) shortest.inside)))
          (eq-or-lt_of_le shortest.inside)

    -- "none, for target 0", whatever the legs
    pub met_0 : met_paper (met_of b 0) ≡ record { refusal = 0; met = 1; points = 0 }
    unfolding walked
    met_0 =
        let none = at_zero (reaches b 0) (count b) (λ _. le-leb 0 (length_up_to b 0) (omega arith)) in
        rw (answer_is 0 (omega arith), le-leb 0 (length_up_to b (count b)) (omega arith), ← least_is (reaches b 0) (count b) 0 none)

-- [0,0,1, 1,0,1, 2,0,0]: the leg into the second point is not counted
abbrev three : List ℤ
three = pos 0 ∷ pos 0 ∷ pos 1 ∷ pos 1 ∷ pos 0 ∷ pos 1 ∷ pos 2 ∷ pos 0 ∷ pos 0 ∷ []

pub met_three : (met_paper (met_of three 11) ≡ record { refusal = 0; met = 1; points = 3 }) × (met_paper (met_of three 12) ≡ record { refusal = 0; met = 0; points = 3 })
unfolding met_of walked buffer_refusal thirds_fit points_refusal point_refusal length_up_to leg_into least
met_three = (rw (north_exact (pos 1) (pos 0) (pos 2) (omega arith)), rw (north_exact (pos 1) (pos 0) (pos 2) (omega arith)))
