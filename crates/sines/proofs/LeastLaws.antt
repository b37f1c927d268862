-- Laws of "the least number such that": the answer is what the words say, and they say it of one number only.
-- Assumes nothing.
use Rattle.std.specs.Prelude.{◌≡◌, Bool, true, false, ℕ, zero, suc, ◌<◌}
use Rattle.std.proofs.Common.{ap, arith}
use Rattle.refusals.specs.Tests.{by_test}
use Rattle.sines.specs.Least.{least, IsLeast}

pub at_zero : (p : ℕ → Bool) (n : ℕ) → (0 < n → p 0 ≡ true) → IsLeast p n 0
at_zero p n h = record { inside = omega arith; earlier = λ v l. absurd (omega arith); holds = h }

-- the test failed at 0
later : (p : ℕ → Bool) (n u : ℕ) → p 0 ≡ false → IsLeast (λ k. p (suc k)) n u → IsLeast p (suc n) (suc u)
later p n u e g = record { inside = omega (arith, g.inside); earlier = before; holds = λ l. g.holds (omega arith) }
  where
    before : (v : ℕ) → v < suc u → p v ≡ false
    before zero l = e
    before (suc v) l = g.earlier v (omega arith)

pub least_meets : (p : ℕ → Bool) (n : ℕ) → IsLeast p n (least p n)
unfolding least
least_meets p zero = at_zero p 0 (λ l. absurd (omega arith))
least_meets p (suc n) =
    by_test (p 0) (λ e. rw e (at_zero p (suc n) (λ _. e))) (λ e. rw e (later p n (least (λ k. p (suc k)) n) e (least_meets (λ k. p (suc k)) n)))

-- and the words say it of no other
pub least_is : (p : ℕ → Bool) (n u : ℕ) → IsLeast p n u → u ≡ least p n
unfolding least
least_is p zero u g = omega (arith, g.inside)
least_is p (suc n) zero g = rw (g.holds (omega arith))
least_is p (suc n) (suc u) g =
    rw (g.earlier 0 (omega arith))
    (ap suc (least_is (λ k. p (suc k)) n u (record { inside = omega (arith, g.inside); earlier = λ v l. g.earlier (suc v) (omega arith); holds = λ l. g.holds (omega arith) })))
