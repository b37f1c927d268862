-- Laws of digits that are written: what they make when read, how many there are, and what they hold.
-- Assumes nothing.
use Rattle.std.specs.Prelude.{◌≡◌, refl, Bool, true, false, ◌&&◌, ℕ, zero, suc, ◌+◌, ◌-◌, ◌*◌, ◌/◌, ◌%◌, ◌^◌, ◌≤◌, ◌<◌, leb, eqb, length}
use Rattle.std.proofs.Common.{sym, ap, ◌∙◌, pow-suc, mod-lt, div-add-mod', div-lt_iff_lt-mul, arith, leb-true, leb-false, le-leb, eqb-true, lit<, pow-add}
use Rattle.std.proofs.Math.Nat.{pow-le-pow_right, one-le-pow}
use Rattle.std.proofs.lemmas.Bool.{eqb-false}
use Rattle.refusals.specs.Tests.{and_true, by_test}
use Rattle.numbers.specs.Number.{all_digits, value_of}
use Rattle.numerals.specs.Numeral.{digits, width}

-- ---- the digits of n

first_below : (k n : ℕ) → n < 10 ^ suc k → n / 10 ^ k < 10
first_below k n h =
    let b : n < 10 * 10 ^ k = omega (arith, rw pow-suc at h) in
    (div-lt_iff_lt-mul (one-le-pow k 10 (lit< tt))).1 b

pub rest_below : (k n : ℕ) → n % 10 ^ k < 10 ^ k
rest_below k n = mod-lt n (one-le-pow k 10 (lit< tt))

pub digits_all : (short : Bool) (k n : ℕ) → n < 10 ^ k → all_digits (digits short k n) ≡ true
digits_all short zero n h = refl
digits_all short (suc k) n h =
    by_test (short && eqb n 0)
    (λ t. rw t)
    (λ t.
    let d = first_below k n h in
    rw (t, le-leb 48 (48 + n / 10 ^ k) (omega arith), le-leb (48 + n / 10 ^ k) 57 (omega arith))
    (digits_all short k (n % 10 ^ k) (rest_below k n)))

pub digits_most : (short : Bool) (k n : ℕ) → length (digits short k n) ≤ k
digits_most short zero n = omega arith
digits_most short (suc k) n =
    by_test (short && eqb n 0)
    (λ t. rw t (omega arith))
    (λ t. rw t (omega (arith, digits_most short k (n % 10 ^ k))))

pub digits_full : (k n : ℕ) → length (digits false k n) ≡ k
digits_full zero n = refl
digits_full (suc k) n = ap suc (digits_full k (n % 10 ^ k))

-- some are written of what is not 0
pub digits_some : (k n : ℕ) → n < 10 ^ k → eqb n 0 ≡ false → 1 ≤ length (digits true k n)
digits_some zero n h e = absurd (eqb-false n 0 e (omega arith))
digits_some (suc k) n h e = rw e (omega arith)

-- with 0 in the places that are left, they make n
pub digits_value : (short : Bool) (k n : ℕ) → n < 10 ^ k → value_of (digits short k n) * 10 ^ (k - length (digits short k n)) ≡ n
digits_value short zero n h = omega arith
digits_value short (suc k) n h =
    by_test (short && eqb n 0)
    (λ t. rw t (omega (arith, eqb-true n 0 (and_true short (eqb n 0) t).1)))
    (λ t.
    let d = n / 10 ^ k in
    let s = digits short k (n % 10 ^ k) in
    let i = length s in
    let few = digits_most short k (n % 10 ^ k) in
    let less : suc k - suc i ≡ k - i = omega arith in
    let digit : 48 + d - 48 ≡ d = omega arith in
    let both : i + (k - i) ≡ k = omega arith in
    let units : 10 ^ i * 10 ^ (k - i) ≡ 10 ^ k = sym (pow-add 10 i (k - i)) ∙ ap (λ (x : ℕ). 10 ^ x) both in
    let next = digits_value short k (n % 10 ^ k) (rest_below k n) in
    rw (t, less, digit) (omega (arith, ap (λ (x : ℕ). d * x) units, next, div-add-mod' n (10 ^ k))))

-- ---- how many there are

pub width_some : (most n : ℕ) → 1 ≤ width most n
width_some zero n = omega arith
width_some (suc k) n =
    by_test (leb (10 ^ k) n)
    (λ t. rw t (omega arith))
    (λ t. rw t (width_some k n))

-- more than one only where the first is not 0
pub width_first : (most n : ℕ) → 1 < width most n → 10 ^ (width most n - 1) ≤ n
width_first zero n h = absurd (omega arith)
width_first (suc k) n h =
    by_test (leb (10 ^ k) n)
    (λ t. let e : suc k - 1 ≡ k = omega arith in rw (t, e) (leb-true (10 ^ k) n t))
    (λ t. rw t (width_first k n (rw t at h)))

pub width_least : (most n j : ℕ) → 1 ≤ j → n < 10 ^ j → width most n ≤ j
width_least zero n j h l = h
width_least (suc k) n j h l =
    by_test (leb (10 ^ k) n)
    (λ t. rw t (less_of (leb-true (10 ^ k) n t)))
    (λ t. rw t (width_least k n j h l))
  where
    less_of : 10 ^ k ≤ n → suc k ≤ j
    less_of p =
        by_test (leb (suc k) j)
        (λ u. leb-true (suc k) j u)
        (λ u. let q = leb-false (suc k) j u in absurd (omega (arith, pow-le-pow_right {n = 10} (lit< tt) {i = j} {j = k} (omega arith))))

pub width_holds : (most n : ℕ) → n < 10 ^ most → n < 10 ^ width most n
width_holds zero n h = omega arith
width_holds (suc k) n h =
    by_test (leb (10 ^ k) n)
    (λ t. rw t h)
    (λ t. rw t (width_holds k n (leb-false (10 ^ k) n t)))
