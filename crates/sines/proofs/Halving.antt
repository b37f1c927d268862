-- The greatest number at which a test holds that, once it fails, fails ever after: what it says of every number, and a search for it by halving.
-- Assumes nothing.
use Rattle.std.specs.Prelude.{◌≡◌, Bool, true, false, ℕ, zero, suc, ◌+◌, ◌-◌, ◌/◌, ◌≤◌, ◌<◌}
use Rattle.std.proofs.Common.{ap, ⊎_elim, ◌∙◌, eq-or-lt_of_le, arith}
use Rattle.refusals.specs.Tests.{by_test, clash}
use Rattle.sines.specs.Greatest.{greatest, IsGreatest}
use Rattle.sines.proofs.GreatestLaws.{greatest_is, greatest_meets}

-- where the test holds at a number up to n, it holds at each before it
pub record Falls (p : ℕ → Bool) (n : ℕ) : Type 0 where
  pub earlier : (a b : ℕ) → a ≤ b → b ≤ n → p b ≡ true → p a ≡ true

-- what is sought is among the `left` numbers from `low` on
pub record Within (p : ℕ → Bool) (n low left : ℕ) : Type 0 where
  pub some : 0 < left
  pub inside : low + left ≤ n + 1
  pub holds : p low ≡ true
  pub fails : low + left ≤ n → p (low + left) ≡ false

-- ---- laws

-- where it holds at 0, and at u if that is not 0
pub or_first : (p : ℕ → Bool) → p 0 ≡ true → (u : ℕ) → (0 < u → p u ≡ true) → p u ≡ true
or_first p z zero h = z
or_first p z (suc u) h = h (omega arith)

-- where it fails at n, and after u if that is not n
pub or_end : (p : ℕ → Bool) {n u : ℕ} → p n ≡ false → u < n → (u + 1 < n → p (u + 1) ≡ false) → p (u + 1) ≡ false
or_end p {n} {u} z l h = ⊎_elim (λ e. ap p e ∙ z) h (eq-or-lt_of_le {n = u + 1} {m = n} (omega arith))

module _ {p : ℕ → Bool} {n : ℕ} where
  pub start : p 0 ≡ true → Within p n 0 (n + 1)
  start t = record { some = omega arith; inside = omega arith; holds = t; fails = λ h. absurd (past h) }
    where
      past : 0 + (n + 1) ≤ n → ⊥
      past h = omega arith

  module _ {low left : ℕ} (more : 1 < left) (w : Within p n low left) where
    pub upper : p (low + left / 2) ≡ true → Within p n (low + left / 2) (left - left / 2)
    upper t =
        let e : low + left / 2 + (left - left / 2) ≡ low + left = omega arith in
        record { some = omega arith; inside = omega (arith, w.inside); holds = t; fails = rw e w.fails }

  module _ (f : Falls p n) where
    -- where it fails, it fails ever after
    pub later : {a b : ℕ} → a ≤ b → b ≤ n → p a ≡ false → p b ≡ false
    later {a} {b} l h e = by_test (p b) (λ t. clash (f.earlier a b l h t) e) (λ s. s)

    pub lower : {low left : ℕ} → 1 < left → Within p n low left → p (low + left / 2) ≡ false → Within p n low (left - left / 2)
    lower more w t = record { some = omega arith; inside = omega (arith, w.inside); holds = w.holds; fails = λ h. later (omega arith) h t }

    pub done : {low left : ℕ} → left ≤ 1 → Within p n low left → low ≡ greatest p n
    done {low} {left} l w =
        let e : left ≡ 1 = omega (arith, w.some) in
        greatest_is p (record {
          inside = omega (arith, w.inside);
          holds = w.holds;
          later = λ v m h. later {a = low + left} {b = v} (omega arith) h (w.fails (omega arith));
        })

    -- where the test holds, and fails at the next number or none is left
    pub last : {u : ℕ} → u ≤ n → p u ≡ true → (u < n → p (u + 1) ≡ false) → u ≡ greatest p n
    last {u} l t h = greatest_is p (record { inside = l; holds = t; later = λ v m g. later {a = u + 1} {b = v} (omega arith) g (h (omega arith)) })

    -- a number is up to the greatest exactly where the test holds at it
    pub up_to : p 0 ≡ true → {a : ℕ} → a ≤ n → p a ≡ true → a ≤ greatest p n
    up_to z {a} h t = let g = greatest_meets p {n = n} z in omega (arith, past g)
      where
        past : IsGreatest p n (greatest p n) → greatest p n < a → ⊥
        past g l = clash t (g.later a l h)

    pub from_up_to : p 0 ≡ true → {a : ℕ} → a ≤ greatest p n → p a ≡ true
    from_up_to z {a} l = let g = greatest_meets p {n = n} z in f.earlier a (greatest p n) l g.inside g.holds
