-- "The greatest number such that": by a test, and the last number to be tried.
-- Assumes nothing.
use Rattle.std.specs.Prelude.{◌≡◌, Bool, true, false, cond, ℕ, zero, suc, ◌≤◌, ◌<◌}

-- the greatest number up to n at which the test p holds; 0 where there is none
unfoldable pub greatest : (ℕ → Bool) → ℕ → ℕ
greatest p zero = zero
greatest p (suc n) = cond (p (suc n)) (suc n) (greatest p n)

-- what the words say of u
pub record IsGreatest (p : ℕ → Bool) (n u : ℕ) : Type 0 where
  pub inside : u ≤ n
  pub holds : p u ≡ true
  pub later : (v : ℕ) → u < v → v ≤ n → p v ≡ false
