-- The tests on signed numbers, each from and to a fact about the sides that `omega` reads.
-- Assumes nothing.
use Rattle.std.specs.Prelude.{◌≡◌, refl, Bool, true, false, ◌&&◌, ◌+◌, ◌≤◌, ◌<◌, T, eqb, ℤ, pos, negsuc, nat_abs}
use Rattle.std.proofs.Common.{sym, ap, subst, ◌∙◌, arith, ltb-true, ltb-false, leb-true, leb-false, lt-ltb, le-leb, eqb-true, eq-eqb}
use Rattle.std.specs.Int.Signed.{lt_z, le_z}
use Rattle.signed.specs.Sides.{above, below, same, size_sides}
use Rattle.refusals.specs.Tests.{by_test, clash, and_true, true_and}

pub lt_z_true : (a b : ℤ) → lt_z a b ≡ true → above a + below b < above b + below a
lt_z_true (pos a) (pos b) e = omega (arith, ltb-true a b e)
lt_z_true (pos a) (negsuc b) e = absurd (subst T (sym e) tt)
lt_z_true (negsuc a) (pos b) e = omega arith
lt_z_true (negsuc a) (negsuc b) e = omega (arith, ltb-true b a e)

pub lt_z_false : (a b : ℤ) → lt_z a b ≡ false → above b + below a ≤ above a + below b
lt_z_false (pos a) (pos b) e = omega (arith, ltb-false a b e)
lt_z_false (pos a) (negsuc b) e = omega arith
lt_z_false (negsuc a) (pos b) e = absurd (subst T e tt)
lt_z_false (negsuc a) (negsuc b) e = omega (arith, ltb-false b a e)

pub lt_lt_z : (a b : ℤ) → above a + below b < above b + below a → lt_z a b ≡ true
lt_lt_z (pos a) (pos b) h = lt-ltb a b (omega arith)
lt_lt_z (pos a) (negsuc b) h = absurd (omega arith)
lt_lt_z (negsuc a) (pos b) h = refl
lt_lt_z (negsuc a) (negsuc b) h = lt-ltb b a (omega arith)

pub le_z_true : (a b : ℤ) → le_z a b ≡ true → above a + below b ≤ above b + below a
le_z_true (pos a) (pos b) e = omega (arith, leb-true a b e)
le_z_true (pos a) (negsuc b) e = absurd (subst T (sym e) tt)
le_z_true (negsuc a) (pos b) e = omega arith
le_z_true (negsuc a) (negsuc b) e = omega (arith, leb-true b a e)

pub le_z_false : (a b : ℤ) → le_z a b ≡ false → above b + below a < above a + below b
le_z_false (pos a) (pos b) e = omega (arith, leb-false a b e)
le_z_false (pos a) (negsuc b) e = omega arith
le_z_false (negsuc a) (pos b) e = absurd (subst T e tt)
le_z_false (negsuc a) (negsuc b) e = omega (arith, leb-false b a e)

pub le_le_z : (a b : ℤ) → above a + below b ≤ above b + below a → le_z a b ≡ true
le_le_z (pos a) (pos b) h = le-leb a b (omega arith)
le_le_z (pos a) (negsuc b) h = absurd (omega arith)
le_le_z (negsuc a) (pos b) h = refl
le_le_z (negsuc a) (negsuc b) h = le-leb b a (omega arith)

-- ---- equality

abbrev pub eq_z : ℤ → ℤ → Bool
eq_z a b = le_z a b && le_z b a

pub eq_z_true : (a b : ℤ) → eq_z a b ≡ true → a ≡ b
eq_z_true a b e =
    let p = and_true (le_z a b) (le_z b a) e in
    same a b (omega (arith, le_z_true a b p.0, le_z_true b a p.1))

pub eq_eq_z : (a b : ℤ) → a ≡ b → eq_z a b ≡ true
eq_eq_z a b e = true_and (le_le_z a b (omega (arith, ap above e, ap below e))) (le_le_z b a (omega (arith, ap above e, ap below e)))

pub ne_eq_z : (a b : ℤ) → (a ≡ b → ⊥) → eq_z a b ≡ false
ne_eq_z a b f = by_test (eq_z a b) (λ e. absurd (f (eq_z_true a b e))) (λ e. e)

-- a number is 0 where its size is
pub size_test : (z : ℤ) → eqb (nat_abs z) 0 ≡ eq_z z (pos 0)
size_test z =
    by_test (eqb (nat_abs z) 0) (λ e. e ∙ sym (eq_eq_z z (pos 0) (same z (pos 0) (omega (arith, size_sides z, eqb-true (nat_abs z) 0 e)))))
    (λ e. e ∙ sym (ne_eq_z z (pos 0) (λ p. clash (eq-eqb (nat_abs z) 0 (ap nat_abs p)) e)))
