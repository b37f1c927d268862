-- "The least number such that": by a test, and the number that is answered where it holds at none.
-- Assumes nothing.
use Rattle.std.specs.Prelude.{◌≡◌, Bool, true, false, cond, ℕ, zero, suc, ◌≤◌, ◌<◌}

-- the least number up to n at which the test p holds; n where there is none
unfoldable pub least : (ℕ → Bool) → ℕ → ℕ
least p zero = zero
least p (suc n) = cond (p 0) 0 (suc (least (λ k. p (suc k)) n))

-- what the words say of u
pub record IsLeast (p : ℕ → Bool) (n u : ℕ) : Type 0 where
  pub inside : u ≤ n
  pub earlier : (v : ℕ) → v < u → p v ≡ false
  pub holds : u < n → p u ≡ true
