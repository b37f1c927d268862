-- Laws of "the greatest number such that": the answer is what the words say, and they say it of one number only.
-- Assumes nothing.
use Rattle.std.specs.Prelude.{◌≡◌, Bool, true}
use Rattle.std.proofs.Common.{ap, ◌∙◌, eq-or-lt_of_le, arith}
use Rattle.std.proofs.Math.Logic.{⊎_elim}
use Rattle.std.proofs.Math.Bool.{false}
use Prim.Native.Nat.{ℕ, zero, suc, ◌≤◌, ◌<◌}
use Rattle.std.proofs.Math.Nat.{le_of_suc-le-suc}
use Rattle.refusals.specs.Tests.{by_test, clash}
use Rattle.sines.specs.Greatest.{greatest, IsGreatest}

module _ (p : ℕ → Bool) where
  here : (n : ℕ) → p n ≡ true → IsGreatest p n n
  here n e = record { inside = omega arith; holds = e; later = λ v a h. absurd (none_between a h) }
    where
      none_between : {v : ℕ} → n < v → v ≤ n → ⊥
      none_between a h = omega arith

  -- one number more, at which the test fails
  more : {n u : ℕ} → p (suc n) ≡ false → IsGreatest p n u → IsGreatest p (suc n) u
  more e g = record {
    inside = omega (arith, g.inside);
    holds = g.holds;
    later = λ v a h. ⊎_elim (λ q. ap p q ∙ e) (λ l. g.later v a (le_of_suc-le-suc l)) (eq-or-lt_of_le h);
  }

  -- where the test holds at 0 there is such a number
  meets : p 0 ≡ true → (n : ℕ) → IsGreatest p n (greatest p n)
  unfolding greatest
  meets t zero = here zero t
  meets t (suc n) = by_test (p (suc n)) (λ e. rw e (here (suc n) e)) (λ e. rw e (more e (meets t n)))

  pub greatest_meets : {n : ℕ} → p 0 ≡ true → IsGreatest p n (greatest p n)
  greatest_meets {n} t = meets t n

  -- and the words say it of no other
  alone : (n : ℕ) {u : ℕ} → IsGreatest p n u → u ≡ greatest p n
  unfolding greatest
  alone zero g = omega (arith, g.inside)
  alone (suc n) {u} g =
      by_test (p (suc n)) (λ e. rw e (omega (arith, g.inside, last e)))
      (λ e. rw e (alone n (record { inside = less e; holds = g.holds; later = λ v a h. g.later v a (omega arith) })))
    where
      less : p (suc n) ≡ false → u ≤ n
      less e = ⊎_elim (λ q. clash g.holds (ap p q ∙ e)) (λ l. le_of_suc-le-suc l) (eq-or-lt_of_le g.inside)

      last : p (suc n) ≡ true → u < suc n → ⊥
      last e l = clash e (g.later (suc n) l (omega arith))

  pub greatest_is : {n u : ℕ} → IsGreatest p n u → u ≡ greatest p n
  greatest_is {n} g = alone n g
