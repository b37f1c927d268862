-- Signed numbers for `omega`, which reads natural numbers only: how far a number lies above 0, and how far below.
-- Each law says what an operation is in terms of the two sides, as a linear fact.
-- Assumes nothing.
use Rattle.std.specs.Prelude.{◌≡◌, refl, Bool, true, false, cond, ℕ, zero, suc, ◌+◌, ◌-◌, ◌*◌, ◌/◌, ◌≤◌, ◌<◌, min, ltb, ℤ, pos, negsuc, neg_ℤ, nat_abs, ◌+ℤ◌, ◌-ℤ◌, ◌*ℤ◌}
use Rattle.std.proofs.Common.{sym, ap, ◌∙◌, zero-mul, mul-div_cancel, arith, ltb-true, ltb-false}
use Rattle.std.proofs.Math.Nat.{zero-div}
use Rattle.std.proofs.Math.IntN.{neg_ℤ-neg_ℤ, sub_ℕ, +ℤ_idl, *ℤ-negsuc}
use Rattle.std.specs.Int.Signed.{quot_z}

abbrev pub above : ℤ → ℕ
above (pos n) = n
above (negsuc n) = 0

abbrev pub below : ℤ → ℕ
below (pos n) = 0
below (negsuc n) = suc n

-- one of the two is 0
pub one_side : (z : ℤ) → min (above z) (below z) ≡ 0
one_side (pos n) = omega arith
one_side (negsuc n) = omega arith

-- numbers with the same sides are equal
pub same : (a b : ℤ) → above a + below b ≡ above b + below a → a ≡ b
same (pos a) (pos b) e = ap pos (omega arith)
same (pos a) (negsuc b) e = absurd (omega arith)
same (negsuc a) (pos b) e = absurd (omega arith)
same (negsuc a) (negsuc b) e = ap negsuc (omega arith)

pub size_sides : (a : ℤ) → nat_abs a ≡ above a + below a
size_sides (pos n) = omega arith
size_sides (negsuc n) = omega arith

-- ---- sums and differences

sub_at : (a b : ℕ) (t : Bool) → ltb a b ≡ t → let z = cond t (negsuc (b - suc a)) (pos (a - b)) in above z + b ≡ below z + a
sub_at a b true e = let h : a < b = ltb-true a b e in omega arith
sub_at a b false e = let h : b ≤ a = ltb-false a b e in omega arith

nat_sub_sides : (a b : ℕ) → above (sub_ℕ a b) + b ≡ below (sub_ℕ a b) + a
nat_sub_sides a b = sub_at a b (ltb a b) refl

pub add_sides : (a b : ℤ) → above (a +ℤ b) + below a + below b ≡ below (a +ℤ b) + above a + above b
add_sides (pos a) (pos b) = omega arith
add_sides (pos a) (negsuc b) = omega (arith, nat_sub_sides a (suc b))
add_sides (negsuc a) (pos b) = omega (arith, nat_sub_sides b (suc a))
add_sides (negsuc a) (negsuc b) = omega arith

nat_neg_above : (n : ℕ) → above (neg_ℤ (pos n)) ≡ 0
nat_neg_above zero = refl
nat_neg_above (suc n) = refl

nat_neg_below : (n : ℕ) → below (neg_ℤ (pos n)) ≡ n
nat_neg_below zero = refl
nat_neg_below (suc n) = refl

pub neg_above : (a : ℤ) → above (neg_ℤ a) ≡ below a
neg_above (pos n) = nat_neg_above n
neg_above (negsuc n) = refl

pub neg_below : (a : ℤ) → below (neg_ℤ a) ≡ above a
neg_below (pos n) = nat_neg_below n
neg_below (negsuc n) = refl

pub sub_sides : (a b : ℤ) → above (a -ℤ b) + below a + above b ≡ below (a -ℤ b) + above a + below b
sub_sides a b = omega (arith, add_sides a (neg_ℤ b), neg_above b, neg_below b)

-- 0 less a number, as a minus is written in code
pub zero_less : (z : ℤ) → pos 0 -ℤ z ≡ neg_ℤ z
zero_less z = +ℤ_idl (neg_ℤ z)

-- ---- products by a natural number, and quotients toward zero

pub mul_above : (a : ℤ) (k : ℕ) → above (a *ℤ pos k) ≡ above a * k
mul_above (pos a) k = refl
mul_above (negsuc a) k = omega (arith, nat_neg_above (suc a * k))

pub mul_below : (a : ℤ) (k : ℕ) → below (a *ℤ pos k) ≡ below a * k
mul_below (pos a) k = omega arith
mul_below (negsuc a) k = nat_neg_below (suc a * k)

-- each side is divided by itself: that is what dropping toward zero means
pub quot_above : (a : ℤ) (k : ℕ) → above (quot_z a (pos k)) ≡ above a / k
quot_above (pos a) k = refl
quot_above (negsuc a) k = nat_neg_above (suc a / k) ∙ sym (zero-div k)

pub quot_below : (a : ℤ) (k : ℕ) → below (quot_z a (pos k)) ≡ below a / k
quot_below (pos a) k = sym (zero-div k)
quot_below (negsuc a) k = nat_neg_below (suc a / k)

-- a product divided by its factor
pub quot_mul : (a : ℤ) {k : ℕ} → 1 ≤ k → quot_z (a *ℤ pos k) (pos k) ≡ a
quot_mul a {k} h =
    let b = a *ℤ pos k in
    let u = quot_above b k ∙ ap (λ (n : ℕ). n / k) (mul_above a k) ∙ mul-div_cancel (above a) h in
    let d = quot_below b k ∙ ap (λ (n : ℕ). n / k) (mul_below a k) ∙ mul-div_cancel (below a) h in
    same (quot_z b (pos k)) a (omega arith)

-- products and quotients mirror
pub mul_neg : (z : ℤ) (k : ℕ) → neg_ℤ z *ℤ pos k ≡ neg_ℤ (z *ℤ pos k)
mul_neg (pos zero) k = rw zero-mul
mul_neg (pos (suc n)) k = refl
mul_neg (negsuc n) k = sym (neg_ℤ-neg_ℤ (pos (suc n * k)))

pub quot_neg : (z : ℤ) (k : ℕ) → quot_z (neg_ℤ z) (pos k) ≡ neg_ℤ (quot_z z (pos k))
quot_neg (pos zero) k = rw zero-div
quot_neg (pos (suc n)) k = refl
quot_neg (negsuc n) k = sym (neg_ℤ-neg_ℤ (pos (suc n / k)))

pub neg_mul : (a b : ℤ) → neg_ℤ a *ℤ b ≡ neg_ℤ (a *ℤ b)
neg_mul a (pos k) = mul_neg a k
neg_mul a (negsuc k) = *ℤ-negsuc (neg_ℤ a) k ∙ ap neg_ℤ (mul_neg a (suc k) ∙ sym (*ℤ-negsuc a k))

-- ---- sizes

pub size_neg : (z : ℤ) → nat_abs (neg_ℤ z) ≡ nat_abs z
size_neg z = omega (arith, size_sides z, size_sides (neg_ℤ z), neg_above z, neg_below z)

pub size_mul : (a b : ℤ) → nat_abs (a *ℤ b) ≡ nat_abs a * nat_abs b
size_mul (pos a) (pos b) = refl
size_mul (pos a) (negsuc b) = size_neg (pos (a * suc b))
size_mul (negsuc a) (pos b) = size_neg (pos (suc a * b))
size_mul (negsuc a) (negsuc b) = refl

pub size_quot : (a : ℤ) (k : ℕ) → nat_abs (quot_z a (pos k)) ≡ nat_abs a / k
size_quot (pos a) k = refl
size_quot (negsuc a) k = size_neg (pos (suc a / k))

pub size_sub : (a b : ℤ) → nat_abs (a -ℤ b) ≤ nat_abs a + nat_abs b
size_sub a b = omega (arith, size_sides a, size_sides b, size_sides (a -ℤ b), sub_sides a b, one_side (a -ℤ b))
