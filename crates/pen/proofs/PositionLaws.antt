-- Positions: west mirrors east, and a position is the double nearest to the exact quotient, a finite number and never minus zero.
-- Assumes nothing.
use Rattle.std.specs.Prelude.{◌≡◌, Bool, not, cond, ℕ, zero, suc, ◌+◌, ◌*◌, ◌^◌, ◌≤◌, ◌<◌, T, ltb, Float, ℤ, pos, negsuc, neg_ℤ, nat_abs, ◌*ℤ◌}
use Rattle.std.proofs.Math.Path.{refl}
use Rattle.std.proofs.Common.{ap, ◌∙◌, true≢false, mul-pos, mul-le-mul, arith, lit<}
use Rattle.std.proofs.Math.Bool.{true, false}
use Rattle.std.proofs.Math.Dec.{eqb-suc-zero}
use Rattle.std.specs.Float.{nan, inf, fin, Format}
use Rattle.std.specs.Float.Ieee.{binary64, prec, emax, low, unlike, up, down, odd, units, round, neg, div, eq, of_int, is_nan}
use Rattle.std.specs.Float.Ieee.Fits.{up_pos, down_pos, round_is}
use Rattle.std.specs.Float.Ieee.Exact.{HasValue}
use Rattle.std.specs.Float.Ieee.Back.{round_whole}
use Rattle.std.specs.Float.Ieee.Order.{round_mono}
use Rattle.std.specs.Float.Ieee.Scale.{round_same}
use Rattle.std.specs.Float.Ieee.Positive.{positive, positive_of_value, between}
use Rattle.std.specs.Int.Signed.{quot_z}
use Rattle.signed.specs.Sides.{mul_neg, quot_neg}
use Rattle.sines.specs.Sine.{short_unit}
use Rattle.globe.specs.Leg.{degree, degree_length}
use Rattle.pen.proofs.FloatLaws.{eq_self}
use Rattle.pen.specs.Position.{millimetres, across, float, scaled}

-- ---- millimetres

-- south mirrors north, since dropping is toward zero
pub millimetres_mirror : (z : ℤ) → millimetres (neg_ℤ z) ≡ neg_ℤ (millimetres z)
millimetres_mirror z = rw mul_neg (quot_neg (z *ℤ pos degree_length) degree)

-- and west mirrors east
pub across_mirror : (x : ℤ) → across (neg_ℤ x) ≡ neg_ℤ (across x)
across_mirror x = rw quot_neg (millimetres_mirror (quot_z x (pos short_unit)))

-- ---- floats

-- negation goes through the rounding
odd_neg : (p : ℕ) (s : Bool) (q k l : ℕ) → odd p (not s) q k l ≡ neg (odd p s q k l)
unfolding odd neg
odd_neg p s zero k l = refl
odd_neg p s (suc q) k l = refl

units_neg : (f : Format) (s : Bool) (q k : ℕ) → units f (not s) q k ≡ neg (units f s q k)
unfolding units neg
units_neg f s q k = go (ltb (q * 2 ^ k) (2 ^ (low f + suc (emax f))))
  where
    go : (b : Bool) → cond b (odd (suc (prec f)) (not s) q k (low f)) (inf (not s)) ≡ neg (cond b (odd (suc (prec f)) s q k (low f)) (inf s))
    go true = odd_neg (suc (prec f)) s q k (low f)
    go false = refl

round_neg : (f : Format) (s : Bool) (n d : ℕ) → round f (not s) n d ≡ neg (round f s n d)
round_neg f s n d = rw (round_is f (not s) n d, round_is f s n d) (units_neg f s _ _)

-- the quotient of two whole numbers that the format holds is rounded once
quotient : (x y : Float) (s : Bool) (n d : ℕ) → 0 < d → HasValue x s n 1 → HasValue y false d 1 → div binary64 x y ≡ round binary64 s n d
unfolding div
quotient nan y s n d h v w = elim v [ ]
quotient (inf t) y s n d h v w = elim v [ ]
quotient (fin t m e) nan s n d h v w = elim w [ ]
quotient (fin t m e) (inf k) s n d h v w = elim w [ ]
quotient (fin t m e) (fin true k g) s n d h v w = absurd (true≢false w.0)
quotient (fin t m e) (fin false zero g) s n d h v w = absurd (positive_of_value (fin false zero g) d 1 w h)
quotient (fin t m e) (fin false (suc k) g) s n d h v w =
    let a = ap (λ (x : ℕ). x * (down g * d)) v.1 in
    let b = ap (λ (x : ℕ). x * (n * down e)) w.1 in
    rw (eqb-suc-zero, like, v.0)
    (round_same binary64 s (m * up e * down g) (suc k * up g * down e) n d (mul-pos (mul-pos (omega arith) (up_pos g)) (down_pos e)) h (omega arith))
  where
    like : (t : Bool) → unlike t false ≡ t
    like true = refl
    like false = refl

-- whether a whole number has a minus
abbrev pub is_negative : ℤ → Bool
is_negative (pos n) = false
is_negative (negsuc n) = true

-- the double nearest to z / d
abbrev pub nearest : ℕ → ℤ → Float
nearest d z = round binary64 (is_negative z) (nat_abs z) d

float_value : (z : ℤ) → nat_abs z ≤ 2 ^ 53 → HasValue (float z) (is_negative z) (nat_abs z) 1
unfolding of_int
float_value (pos n) h = round_whole binary64 false n h
float_value (negsuc n) h = round_whole binary64 true (suc n) h

pub float_number : (z : ℤ) → nat_abs z ≤ 2 ^ 53 → is_nan (float z) ≡ false
float_number z h = go (float z) (float_value z h)
  where
    go : (x : Float) → HasValue x (is_negative z) (nat_abs z) 1 → is_nan x ≡ false
    go nan v = elim v [ ]
    go (inf s) v = elim v [ ]
    go (fin s m e) v = unfold is_nan in refl

-- a finite number that is not minus zero
abbrev pub is_plain : Float → Bool
is_plain nan = false
is_plain (inf s) = false
is_plain (fin false m e) = true
is_plain (fin true m e) = ltb 0 m

positive_plain : (x : Float) → T (positive x) → T (is_plain x) × T (is_plain (neg x))
unfolding neg
positive_plain nan h = elim h [ ]
positive_plain (inf s) h = elim h [ ]
positive_plain (fin true m e) h = elim h [ ]
positive_plain (fin false m e) h = (tt, h)

module _ (d : ℕ) (least : 1 ≤ d) (most : d ≤ 2 ^ 53) where
  -- n / d lies between 2 ^ -53 and n
  round_plain : (n : ℕ) → 1 ≤ n → n ≤ 2 ^ 53 → T (is_plain (round binary64 false n d)) × T (is_plain (neg (round binary64 false n d)))
  round_plain n p h =
      let f = binary64 in
      positive_plain (round f false n d)
      (between (round f false 1 (2 ^ 53)) (round f false n d) (round f false n 1) smallest (positive_of_value (round f false n 1) n 1 (round_whole f false n h) p)
      (round_mono f 1 (2 ^ 53) n d (lit< tt) least (omega (arith, mul-le-mul p most)))
      (round_mono f n d n 1 least (lit< tt) (mul-le-mul (omega arith) least)))
    where
      smallest : T (positive (round binary64 false 1 (2 ^ 53)))
      smallest = unfold round in tt

  -- the double nearest to the exact quotient
  pub position_nearest : (z : ℤ) → nat_abs z ≤ 2 ^ 53 → scaled d (float z) ≡ nearest d z
  position_nearest z h = quotient (float z) (float (pos d)) (is_negative z) (nat_abs z) d least (float_value z h) (float_value (pos d) most)

  zero_is : nearest d (pos 0) ≡ fin false 0 (pos 0)
  zero_is = round_same binary64 false 0 d 0 1 least (lit< tt) (omega arith) ∙ (unfold round in refl)

  nearest_plain : (z : ℤ) → nat_abs z ≤ 2 ^ 53 → T (is_plain (nearest d z))
  nearest_plain (pos zero) h = rw zero_is tt
  nearest_plain (pos (suc n)) h = (round_plain (suc n) (omega arith) h).0
  nearest_plain (negsuc n) h = rw (round_neg binary64 false (suc n) d) (round_plain (suc n) (omega arith) h).1

  pub plain : (z : ℤ) → nat_abs z ≤ 2 ^ 53 → T (is_plain (scaled d (float z)))
  plain z h = rw (position_nearest z h) (nearest_plain z h)

  number : (z : ℤ) → nat_abs z ≤ 2 ^ 53 → is_nan (nearest d z) ≡ false
  number z h = go (nearest d z) (nearest_plain z h)
    where
      go : (x : Float) → T (is_plain x) → is_nan x ≡ false
      go nan p = elim p [ ]
      go (inf s) p = elim p [ ]
      go (fin s m e) p = unfold is_nan in refl

  -- it mirrors that of the opposite place
  pub nearest_mirror : (z : ℤ) → nat_abs z ≤ 2 ^ 53 → eq (nearest d (neg_ℤ z)) (neg (nearest d z)) ≡ true
  nearest_mirror (pos zero) h = rw (zero_is) (unfold eq neg in refl)
  nearest_mirror (pos (suc n)) h = rw (← round_neg binary64 false (suc n) d) (eq_self (nearest d (negsuc n)) (number (negsuc n) h))
  nearest_mirror (negsuc n) h = rw (← round_neg binary64 true (suc n) d) (eq_self (nearest d (pos (suc n))) (number (pos (suc n)) h))
