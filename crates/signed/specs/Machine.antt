-- Signed numbers of the machine: which fit a width, and that what was stored is read back.
-- Assumes nothing.
use Rattle.std.specs.Prelude.{◌≡◌, ℕ, ◌+◌, ◌*◌, ◌^◌, ◌≤◌, ◌<◌, T, eqb, ℤ, pos, negsuc, neg_ℤ, nat_abs, ◌-ℤ◌, ◌*ℤ◌}
use Rattle.std.proofs.Common.{sym, ap, ◌∙◌, div-le_self, div-mul-le_self, arith, rules, eqb-true, eq-eqb, ne_eqb, to_z-of_z}
use Rattle.std.specs.Int.Signed.{mag, non_neg, quot_z}
use Rattle.std.specs.Int.{Width, w32, w64}
use mir.Val.{SFits, Fits, bits, hbits, to_z, of_z}
use Rattle.refusals.specs.Tests.{by_test, clash}
use Rattle.signed.specs.Sides.{above, below, one_side, size_sides, sub_sides, neg_above, neg_below, mul_above, mul_below, quot_above, quot_below}
use Rattle.signed.specs.Tests.{eq_z, eq_eq_z, ne_eq_z}

-- ---- what fits

pub fits_above : (w : Width) (z : ℤ) → SFits w z → above z < 2 ^ hbits w
fits_above w (pos n) f = f.sfits
fits_above w (negsuc n) f = omega (arith, f.sfits)

pub fits_below : (w : Width) (z : ℤ) → SFits w z → below z ≤ 2 ^ hbits w
fits_below w (pos n) f = omega arith
fits_below w (negsuc n) f = f.sfits

pub fits_of : (w : Width) (z : ℤ) → above z < 2 ^ hbits w → below z ≤ 2 ^ hbits w → SFits w z
fits_of w (pos n) h k = record { sfits = h }
fits_of w (negsuc n) h k = record { sfits = k }

pub neg_fits : (w : Width) (z : ℤ) → above z ≤ 2 ^ hbits w → below z < 2 ^ hbits w → SFits w (neg_ℤ z)
neg_fits w z h k = fits_of w (neg_ℤ z) (omega (arith, neg_above z)) (omega (arith, neg_below z))

pub wider : {z : ℤ} → SFits w32 z → SFits w64 z
wider {z} f = fits_of w64 z (omega (arith, fits_above w32 z f)) (omega (arith, fits_below w32 z f))

-- the difference of two numbers of 32 bits fits 64
pub sub_fits : {a b : ℤ} → SFits w32 a → SFits w32 b → SFits w64 (a -ℤ b)
sub_fits {a} {b} f g =
    let m = sub_sides a b in
    let o = one_side (a -ℤ b) in
    let p = one_side a in
    let q = one_side b in
    fits_of w64 (a -ℤ b) (omega (arith, fits_above w32 a f, fits_below w32 b g)) (omega (arith, fits_below w32 a f, fits_above w32 b g))

pub quot_fits : (w : Width) {x : ℤ} (k : ℕ) → SFits w x → SFits w (quot_z x (pos k))
quot_fits w {x} k f =
    fits_of w (quot_z x (pos k))
    (omega (arith, quot_above x k, div-le_self (above x) k, fits_above w x f))
    (omega (arith, quot_below x k, div-le_self (below x) k, fits_below w x f))

-- quotient × divisor lies between 0 and the number
pub exact_fits : (w : Width) {x : ℤ} (k : ℕ) → SFits w x → SFits w (quot_z x (pos k) *ℤ pos k)
exact_fits w {x} k f =
    let q = quot_z x (pos k) in
    let u = ap (λ (n : ℕ). n * k) (quot_above x k) in
    let d = ap (λ (n : ℕ). n * k) (quot_below x k) in
    fits_of w (q *ℤ pos k)
    (omega (arith, mul_above q k, u, div-mul-le_self (above x) k, fits_above w x f))
    (omega (arith, mul_below q k, d, div-mul-le_self (below x) k, fits_below w x f))

pub small_fits : (w : Width) (z : ℤ) → nat_abs z < 2 ^ hbits w → SFits w z
small_fits w z h = let s = size_sides z in fits_of w z (omega arith) (omega arith)

-- ---- casts to an unsigned type, and to another width

pub nonneg : (z : ℤ) → below z ≡ 0 → T (non_neg z)
nonneg (pos n) e = tt
nonneg (negsuc n) e = absurd (omega arith)

pub size_fits : (w : Width) (z : ℤ) → above z + below z < 2 ^ bits w → Fits w (nat_abs z)
size_fits w z h = record { fits = omega (arith, size_sides z) }

-- for the casts of an `i32` to an `i64`: `search signed`
pub ruleset signed = (rules, wider)

-- ---- what was stored is read back

-- a call's result: its `.ok` is the bound
pub kept : (w : Width) (z : ℤ) → mag z < 2 ^ hbits w → to_z w (of_z w z) ≡ z
kept w z k = to_z-of_z (record { sfits = k })

-- a number of 32 bits that was cast to 64, and one of 64 that was cast to 32 and fits
pub at64 : {z : ℤ} → SFits w32 z → to_z w64 (of_z w64 (to_z w32 (of_z w32 z))) ≡ z
at64 {z} f = simp (to_z-of_z, f, wider f)

pub at32 : {z : ℤ} → SFits w64 z → SFits w32 z → to_z w32 (of_z w32 (to_z w64 (of_z w64 z))) ≡ z
at32 {z} f g = simp (to_z-of_z, f, g)

-- numbers with the same bits are equal
pub same_bits : (w : Width) {a b : ℤ} → SFits w a → SFits w b → of_z w a ≡ of_z w b → a ≡ b
same_bits w f g e = sym (to_z-of_z f) ∙ ap (to_z w) e ∙ to_z-of_z g

-- the machine compares by bits
pub bits_test : (z : ℤ) (n : ℕ) → mag z < 2 ^ hbits w32 → n < 2 ^ hbits w32 → eqb (of_z w32 z) n ≡ eq_z z (pos n)
bits_test (pos m) n f h = by_test (eqb m n) (λ e. e ∙ sym (eq_eq_z (pos m) (pos n) (ap pos (eqb-true m n e)))) (λ e. e ∙ sym (ne_eq_z (pos m) (pos n) (λ p. clash (eq-eqb m n (ap above p)) e)))
bits_test (negsuc m) n f h = ne_eqb _ n (λ e. omega arith)

-- ---- what a callee says of numbers that were stored and read back, it says of the numbers

pub of_one : {A : Type 0} {w : Width} (f : ℤ → A) {a : ℤ} → SFits w a → f (to_z w (of_z w a)) ≡ f a
of_one f p = ap f (to_z-of_z p)

pub of_three : {A : Type 0} {u v w : Width} (f : ℤ → ℤ → ℤ → A) {a b c : ℤ} → SFits u a → SFits v b → SFits w c
    → f (to_z u (of_z u a)) (to_z v (of_z v b)) (to_z w (of_z w c)) ≡ f a b c
of_three f p q r = rw (to_z-of_z p, to_z-of_z q, to_z-of_z r)

pub of_four : {A : Type 0} {t u v w : Width} (f : ℤ → ℤ → ℤ → ℤ → A) {a b c d : ℤ} → SFits t a → SFits u b → SFits v c → SFits w d
    → f (to_z t (of_z t a)) (to_z u (of_z u b)) (to_z v (of_z v c)) (to_z w (of_z w d)) ≡ f a b c d
of_four f p q r s = rw (to_z-of_z p, to_z-of_z q, to_z-of_z r, to_z-of_z s)
