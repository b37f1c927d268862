-- Laws of a size with a sign: both are kept, and a number that fits is its own nearest.
-- Assumes nothing.
use Rattle.std.specs.Prelude.{◌≡◌, refl, true, false, ℕ, zero, suc, ◌+◌, ◌^◌, ◌≤◌, ◌<◌, min, T, ℤ, pos, negsuc, neg_ℤ, nat_abs, ◌-ℤ◌}
use Rattle.std.proofs.Common.{ap, subst, arith, pow_pos, ltb-true}
use Rattle.std.specs.Int.Signed.{lt_z}
use Rattle.std.specs.Int.{Width}
use mir.Val.{SFits, hbits}
use Rattle.signed.specs.Sides.{above, below, one_side, size_sides, sub_sides, neg_above, neg_below}
use Rattle.signed.specs.Machine.{fits_above, fits_below, neg_fits}
use Rattle.signed.specs.Sign.{sign_as, nearest}

pub as_size : (z : ℤ) (n : ℕ) → nat_abs (sign_as z n) ≡ n
as_size (pos m) n = refl
as_size (negsuc m) n = omega (arith, size_sides (neg_ℤ (pos n)), neg_above (pos n), neg_below (pos n))

pub as_self : (z : ℤ) → sign_as z (nat_abs z) ≡ z
as_self (pos m) = refl
as_self (negsuc m) = refl

-- what has the sign of z has z's sign, but where it is 0
pub as_as : (z : ℤ) (n m : ℕ) → (n ≡ 0 → m ≡ 0) → sign_as (sign_as z n) m ≡ sign_as z m
as_as (pos a) n m h = refl
as_as (negsuc a) zero m h = rw (h refl)
as_as (negsuc a) (suc n) m h = refl

pub as_pos : (z : ℤ) (n : ℕ) → lt_z z (pos 0) ≡ false → sign_as z n ≡ pos n
as_pos (pos m) n e = refl
as_pos (negsuc m) n e = absurd (subst T e tt)

pub as_neg : (z : ℤ) (n : ℕ) → lt_z z (pos 0) ≡ true → sign_as z n ≡ neg_ℤ (pos n)
as_neg (pos m) n e = absurd (omega (arith, ltb-true m 0 e))
as_neg (negsuc m) n e = refl

pub as_fits : (w : Width) (z : ℤ) (n : ℕ) → n < 2 ^ hbits w → SFits w (sign_as z n)
as_fits w (pos m) n h = record { sfits = h }
as_fits w (negsuc m) n h = neg_fits w (pos n) (omega arith) (omega arith)

-- a number that fits is its own nearest
pub nearest_self : (w : Width) (z : ℤ) → SFits w z → nearest w z ≡ z
nearest_self w (pos n) f = ap pos (omega (arith, f.sfits))
nearest_self w (negsuc n) f = ap negsuc (omega (arith, f.sfits))

-- the nearest number fits, and none that fits lies nearer
pub nearest_fits : (w : Width) (z : ℤ) → SFits w (nearest w z)
nearest_fits w (pos n) = record { sfits = omega (arith, pow_pos (hbits w)) }
nearest_fits w (negsuc n) = record { sfits = omega (arith, pow_pos (hbits w)) }

-- what `omega` is to know of a difference
record Difference (a b : ℤ) : Type 0 where
  sides : above (a -ℤ b) + below a + above b ≡ below (a -ℤ b) + above a + below b
  size : nat_abs (a -ℤ b) ≡ above (a -ℤ b) + below (a -ℤ b)
  one : min (above (a -ℤ b)) (below (a -ℤ b)) ≡ 0
  other : min (above b) (below b) ≡ 0

difference : (a b : ℤ) → Difference a b
difference a b = record { sides = sub_sides a b; size = size_sides (a -ℤ b); one = one_side (a -ℤ b); other = one_side b }

pub nearest_least : (w : Width) (z x : ℤ) → SFits w x → nat_abs (z -ℤ nearest w z) ≤ nat_abs (z -ℤ x)
nearest_least w (pos n) x f = omega (arith, pow_pos (hbits w), fits_above w x f, difference (pos n) x, difference (pos n) (nearest w (pos n)))
nearest_least w (negsuc n) x f = omega (arith, pow_pos (hbits w), fits_below w x f, difference (negsuc n) x, difference (negsuc n) (nearest w (negsuc n)))
