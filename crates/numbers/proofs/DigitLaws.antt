-- Laws of digits: those that stand first in a text, how they are walked from the left, and how large a number they make.
-- Assumes nothing.
use Rattle.std.specs.Prelude.{◌≡◌, refl, true, false, ◌&&◌, List, [], ◌∷◌, ◌++◌, ℕ, zero, suc, min, ◌+◌, ◌-◌, ◌*◌, ◌^◌, ◌≤◌, ◌<◌, T, eqb, ltb, leb, length, take, drop, get_or, if◌then◌else◌}
use Rattle.std.proofs.Common.{sym, ap, subst, ◌∙◌, lt_of_lt_of_le, mul-le-mul_right, pow-suc, add-one, arith, ltb-true, ltb-false, leb-true, le-leb, ne_eqb, lit<, length-append, drop_of_length-le, pow-add, drop-cons}
use Rattle.std.proofs.Math.Nat.{one-le-pow, pow-le-pow_right}
use Rattle.std.proofs.Math.Seq.{take-length}
use Rattle.refusals.specs.Tests.{by_test, and_true}
use Rattle.numbers.specs.Pieces.{index_of, holds}
use Rattle.numbers.specs.Number.{all_digits, are_digits, value_of}
use Rattle.numbers.specs.DigitLaws.{is_digit, value_from, leading}

leading_none : (most : ℕ) → leading most [] ≡ []
leading_none zero = refl
leading_none (suc most) = refl

-- ---- digits, walked from the left

pub digit_range : (b : ℕ) → is_digit b ≡ true → (48 ≤ b) × (b ≤ 57)
digit_range b e =
    let t = and_true (leb 48 b) (leb b 57) e in
    (leb-true 48 b t.0, leb-true b 57 t.1)

-- what is left after i bytes, of which most - i may still be read
module _ (most : ℕ) (s : List ℕ) (i : ℕ) where
  -- nothing more may be read, or nothing is left
  pub leading_past : min most (length s) ≤ i → leading (most - i) (drop i s) ≡ []
  leading_past h =
      by_test (ltb i most)
      (λ t. let k : length s ≤ i = omega (arith, ltb-true i most t) in rw (drop_of_length-le s k) (leading_none (most - i)))
      (λ t. let z : most - i ≡ 0 = omega (arith, ltb-false i most t) in rw z)

  pub leading_done : (ltb i most && ltb i (length s)) ≡ false → leading (most - i) (drop i s) ≡ []
  leading_done e =
      by_test (ltb i most)
      (λ t. let k : ltb i (length s) ≡ false = rw t at e in leading_past (omega (arith, ltb-false _ _ k)))
      (λ t. leading_past (omega (arith, ltb-false i most t)))

  module _ (h : i < most) (k : i < length s) where
    leading_at : leading (most - i) (drop i s) ≡ (if is_digit (get_or s i 0) then get_or s i 0 ∷ leading (most - (i + 1)) (drop (i + 1) s) else [])
    leading_at =
        let z : most - i ≡ suc (most - (i + 1)) = omega arith in
        rw (z, drop-cons s i 0 k, add-one)

    pub leading_next : is_digit (get_or s i 0) ≡ true → leading (most - i) (drop i s) ≡ get_or s i 0 ∷ leading (most - (i + 1)) (drop (i + 1) s)
    leading_next t = leading_at ∙ rw t

    pub leading_stop : is_digit (get_or s i 0) ≡ false → leading (most - i) (drop i s) ≡ []
    leading_stop t = leading_at ∙ rw t

-- ---- the digits that stand first

pub leading_take : (most : ℕ) (s : List ℕ) → leading most s ≡ take (length (leading most s)) s
leading_take zero s = refl
leading_take (suc most) [] = refl
leading_take (suc most) (b ∷ s) =
    by_test (is_digit b)
    (λ t. rw t (ap (λ (l : List ℕ). b ∷ l) (leading_take most s)))
    (λ t. rw t)

pub leading_all : (most : ℕ) (s : List ℕ) → all_digits (leading most s) ≡ true
leading_all zero s = refl
leading_all (suc most) [] = refl
leading_all (suc most) (b ∷ s) =
    by_test (is_digit b)
    (λ t. simp t (leading_all most s))
    (λ t. rw t)

pub leading_most : (most : ℕ) (s : List ℕ) → length (leading most s) ≤ most
leading_most zero s = omega arith
leading_most (suc most) [] = omega arith
leading_most (suc most) (b ∷ s) =
    by_test (is_digit b)
    (λ t. rw t (omega (arith, leading_most most s)))
    (λ t. rw t (omega arith))

pub leading_within : (most : ℕ) (s : List ℕ) → length (leading most s) ≤ length s
leading_within zero s = omega arith
leading_within (suc most) [] = omega arith
leading_within (suc most) (b ∷ s) =
    by_test (is_digit b)
    (λ t. rw t (omega (arith, leading_within most s)))
    (λ t. rw t (omega arith))

-- they end before the first b that is no digit
pub leading_index : (b most : ℕ) (s : List ℕ) → is_digit b ≡ false → length (leading most s) ≤ index_of b s
leading_index b zero s n = omega arith
leading_index b (suc most) [] n = omega arith
leading_index b (suc most) (x ∷ s) n =
    by_test (is_digit x)
    (λ t.
    let q : eqb x b ≡ false = ne_eqb x b (λ e. subst T (sym t ∙ ap is_digit e ∙ n) tt) in
    rw (t, q) (omega (arith, leading_index b most s n)))
    (λ t. rw t (omega arith))

-- no more digits can stand first
pub leading_longest : (most i : ℕ) (s : List ℕ) → i ≤ length s → i ≤ most → all_digits (take i s) ≡ true → i ≤ length (leading most s)
leading_longest most zero s h k e = omega arith
leading_longest zero (suc i) s h k e = absurd (omega arith)
leading_longest (suc most) (suc i) [] h k e = absurd (omega arith)
leading_longest (suc most) (suc i) (x ∷ s) h k e =
    let t = and_true (is_digit x) (all_digits (take i s)) e in
    rw t.0 (omega (arith, leading_longest most i s (omega arith) (omega arith) t.1))

-- ---- digits, and nothing else

pub are_digits_lem : (most : ℕ) (s : List ℕ) → are_digits most s ≡ true → (1 ≤ length s) × (length s ≤ most) × (all_digits s ≡ true)
are_digits_lem most s e =
    let o = and_true (leb 1 (length s) && leb (length s) most) (all_digits s) e in
    let t = and_true (leb 1 (length s)) (leb (length s) most) o.0 in
    (leb-true _ _ t.0, leb-true _ _ t.1, o.1)

pub digits_are : (most : ℕ) (s : List ℕ) → 1 ≤ length s → length s ≤ most → all_digits s ≡ true → are_digits most s ≡ true
digits_are most s h k e = rw (le-leb 1 (length s) h, le-leb (length s) most k) e

pub leading_are : (most : ℕ) (s : List ℕ) → 1 ≤ length (leading most s) → are_digits most (leading most s) ≡ true
leading_are most s h = digits_are most (leading most s) h (leading_most most s) (leading_all most s)

-- all of it, where as many digits stand first
pub leading_whole : (most : ℕ) (s : List ℕ) → length (leading most s) ≡ length s → leading most s ≡ s
leading_whole most s e = leading_take most s ∙ rw e (take-length s)

-- ---- how large

-- m with w digits, and n with the p digits after them
pub join_below : (w p m n : ℕ) → m < 10 ^ w → n < 10 ^ p → m * 10 ^ p + n < 10 ^ (w + p)
join_below w p m n h k = rw (pow-add 10 w p) (omega (arith, mul-le-mul_right (10 ^ p) h))

pub value_below : (s : List ℕ) → all_digits s ≡ true → value_of s < 10 ^ length s
value_below [] e = lit< tt
value_below (b ∷ s) e =
    let t = and_true (is_digit b) (all_digits s) e in
    let r = digit_range b t.0 in
    let k : b - 48 ≤ 9 = omega arith in
    rw pow-suc (omega (arith, value_below s t.1, mul-le-mul_right (10 ^ length s) k))

-- digits read on from v: v in front of what they make alone
pub value_from_lem : (s : List ℕ) (v : ℕ) → value_from v s ≡ v * 10 ^ length s + value_of s
value_from_lem [] v = omega arith
value_from_lem (b ∷ s) v = rw pow-suc (omega (arith, value_from_lem s (v * 10 + (b - 48))))

pub value_first : (s : List ℕ) → value_from 0 s ≡ value_of s
value_first s = omega (arith, value_from_lem s 0)

-- two runs of digits, one after the other
pub value_append : (s t : List ℕ) → value_of (s ++ t) ≡ value_of s * 10 ^ length t + value_of t
value_append [] t = omega arith
value_append (b ∷ s) t = rw (length-append s t, pow-add 10 (length s) (length t)) (omega (arith, value_append s t))

module _ (most : ℕ) (s : List ℕ) (e : are_digits most s ≡ true) where
  few : length s ≤ most
  few = (are_digits_lem most s e).1

  own_below : value_of s < 10 ^ length s
  own_below = value_below s (are_digits_lem most s e).2

  pub wholes_below : value_of s < 10 ^ most
  wholes_below = lt_of_lt_of_le own_below (pow-le-pow_right (lit< tt) few)

  -- with 0 in the places that are left
  pub places_below : value_of s * 10 ^ (most - length s) < 10 ^ most
  places_below =
      let q : length s + (most - length s) ≡ most = omega (arith, few) in
      omega (arith, rw q at (join_below (length s) (most - length s) (value_of s) 0 own_below (one-le-pow _ 10 (lit< tt))))

-- ---- among them

-- digits hold no byte that is no digit
pub digits_free : (o : ℕ) (s : List ℕ) → is_digit o ≡ false → all_digits s ≡ true → holds o s ≡ false
digits_free o [] h e = refl
digits_free o (x ∷ s) h e =
    let t = and_true (is_digit x) (all_digits s) e in
    let n : eqb x o ≡ false = ne_eqb x o (λ q. subst T (sym t.0 ∙ ap is_digit q ∙ h) tt) in
    rw n (digits_free o s h t.1)
