-- Laws of numbers: how large a number of its kind is, what a number is for each way out of its reading, and what one that was read tells.
-- Assumes nothing.
use Rattle.std.specs.Prelude.{◌≡◌, refl, Bool, not, ◌||◌, ◌⊎◌, ℤ, pos, negsuc, nat_abs, take, get_or, if◌then◌else◌, Ok, Err, Some, None}
use Rattle.std.proofs.Math.Path.{sym}
use Rattle.std.proofs.Common.{ap, ◌∙◌, inl, inr, ⊎_elim, lt_of_lt_of_le, mul-le-mul_right, add-one, lit<, pow-add, take_all, length-take-le}
use Rattle.std.proofs.Math.Bool.{true, false}
use mathlib.Core.List.{List, [], ◌∷◌, ◌++◌, append-nil}
use Prim.Native.Nat.{ℕ, suc, ◌+◌, ◌-◌, ◌*◌, ◌^◌, ◌≤◌, ◌<◌}
use Rattle.std.proofs.Math.Nat.{one-le-pow, pow-le-pow_right}
use native.Mathlib.Omega.{arith}
use borrow.Author.Tests.{lt-ltb, ne_eqb}
use Rattle.std.proofs.Math.Dec.{eqb}
use Rattle.std.proofs.Math.ListN.{length, drop_of_length-le}
use Rattle.std.proofs.Math.Seq.{take-length}
use Rattle.refusals.specs.declared.Refusal.{Refusal}
use Rattle.refusals.specs.declared.Refusal.TheVariants as R
use Rattle.refusals.specs.Refusal.{of_line}
use Rattle.refusals.specs.Choice.{unless, fine, answered}
use Rattle.refusals.specs.Tests.{by_test, clash, and_true, and_no}
use Rattle.signed.specs.SignLaws.{as_size}
use Rattle.ticks.specs.Ticks.{is_latitude, is_longitude}
use Rattle.numbers.specs.declared.Mark.{Mark}
use Rattle.numbers.specs.declared.Mark.TheVariants as M
use Rattle.numbers.specs.declared.Kind.{Kind}
use Rattle.numbers.specs.declared.Kind.TheVariants as K
use Rattle.numbers.specs.Pieces.{TAB, index_of, holds, is_byte}
use Rattle.numbers.specs.PieceLaws.{onward}
use Rattle.numbers.proofs.PieceLaws.{onward_drop, holds_index, index_within, index_at, index_least, holds_none, held_within, none_held, holds_append, first_cut, first_is}
use Rattle.numbers.specs.Number.{MINUS, named_byte, other_byte, places, takes_minus, ranged, all_digits, are_digits, value_of, plain_of, number_of}
use Rattle.numbers.specs.DigitLaws.{most_digits, is_digit, value_from, leading}
use Rattle.numbers.proofs.DigitLaws.{leading_take, leading_all, leading_most, leading_within, leading_index, leading_longest, are_digits_lem, leading_are, leading_whole, join_below, value_below, value_from_lem, value_append, wholes_below, places_below, digits_free}
use Rattle.numbers.specs.NumberLaws.{wholes, range_refusal, before, behind, is_plain, size_of, has_minus, past, signed, made_of, amount_of, fault_of, Read, NumberSays, refused, value}

pub ranged_cases : {P : Type 0} (kind : Kind) (v : ℤ) → (ranged kind v ≡ Ok v → P)
    → ((r : Refusal) → ranged kind v ≡ Err r → of_line r ≡ true → P) → P
ranged_cases K.Latitude v f g = by_test (is_latitude v) (λ t. f (rw t)) (λ t. g R.Latitude (rw t) refl)
ranged_cases K.Longitude v f g = by_test (is_longitude v) (λ t. f (rw t)) (λ t. g R.Longitude (rw t) refl)
ranged_cases K.Target v f g = f refl

pub none_behind : (b : ℕ) (s : List ℕ) → holds b s ≡ false → behind b s ≡ []
none_behind b s t = drop_of_length-le s {i = suc (index_of b s)} (omega (arith, none_held b s t))

unmarked : (kind : Kind) (mark : Mark) (s : List ℕ) → holds (other_byte mark) s ≡ false
    → number_of kind mark s ≡ plain_of kind (signed (has_minus kind s)) (named_byte mark) (past kind s)
unfolding number_of
unmarked kind mark s t = by_test (has_minus kind s) (λ u. rw (t, u)) (λ u. rw (t, u))

-- what is answered, by the first of its faults
pub number_cases : {P : Type 0} (kind : Kind) (mark : Mark) (s : List ℕ)
    → (holds (other_byte mark) s ≡ true → number_of kind mark s ≡ Err R.Mark → P)
    → (holds (other_byte mark) s ≡ false → is_plain kind (named_byte mark) (past kind s) ≡ false → number_of kind mark s ≡ Err R.Number → P)
    → (is_plain kind (named_byte mark) (past kind s) ≡ true → number_of kind mark s ≡ ranged kind (made_of kind mark s) → P) → P
unfolding number_of
number_cases kind mark s five four read =
    by_test (holds (other_byte mark) s)
    (λ t. five t (rw t))
    (λ t.
    by_test (is_plain kind (named_byte mark) (past kind s))
    (λ u. read u (unmarked kind mark s t ∙ rw u))
    (λ u. four t u (unmarked kind mark s t ∙ rw u)))

-- an amount, and what its test says
amount_value : (t : Bool) (n m : ℕ) → unless t None (Some n) ≡ Some m → (t ≡ true) × (n ≡ m)
amount_value true n m e = (refl, cc)
amount_value false n m e = grind arith

amount_not : (t : Bool) (n : ℕ) → unless t None (Some n) ≡ None → t ≡ false
amount_not true n e = grind arith
amount_not false n e = refl

-- there is room for the digits before the mark, and after them for those behind it
few_digits : (kind : Kind) → wholes + places kind ≤ most_digits
few_digits K.Latitude = omega arith
few_digits K.Longitude = omega arith
few_digits K.Target = omega arith

module _ (kind : Kind) where
  pub wholes_room : (0 + 1) * 10 ^ wholes ≤ 10 ^ most_digits
  wholes_room =
      let k : wholes ≤ most_digits = omega (arith, few_digits kind) in
      omega (arith, pow-le-pow_right {n = 10} (lit< tt) k)

  pub places_room : (s : List ℕ) → (value_of (leading wholes s) + 1) * 10 ^ places kind ≤ 10 ^ most_digits
  places_room s =
      let w = leading wholes s in
      let own = value_below w (leading_all wholes s) in
      let below : value_of w + 1 ≤ 10 ^ wholes = omega (arith, pow-le-pow_right {n = 10} (lit< tt) (leading_most wholes s)) in
      omega (arith, mul-le-mul_right (10 ^ places kind) below, rw (pow-add 10 wholes (places kind)) at (pow-le-pow_right {n = 10} (lit< tt) (few_digits kind)))

-- digits behind the mark are worth what stands in their places
pub size_is : (p : ℕ) (w d : List ℕ) → length d ≤ p → value_of (w ++ d) * 10 ^ (p - length d) ≡ value_of w * 10 ^ p + value_of d * 10 ^ (p - length d)
size_is p w d h =
    let z : length d + (p - length d) ≡ p = omega arith in
    let power : 10 ^ p ≡ 10 ^ length d * 10 ^ (p - length d) = rw z at (pow-add 10 (length d) (p - length d)) in
    omega (arith, ap (λ (x : ℕ). x * 10 ^ (p - length d)) (value_append w d), ap (λ (x : ℕ). value_of w * x) power)

-- s is a number without a minus
module _ (kind : Kind) (b : ℕ) (s : List ℕ) (e : is_plain kind b s ≡ true) where
  pub plain_wholes : are_digits wholes (before b s) ≡ true
  plain_wholes = (and_true (are_digits wholes (before b s)) (not (holds b s) || are_digits (places kind) (behind b s)) e).0

  -- digits stand behind the mark
  pub plain_decimals : holds b s ≡ true → are_digits (places kind) (behind b s) ≡ true
  plain_decimals t = rw t at (and_true (are_digits wholes (before b s)) (not (holds b s) || are_digits (places kind) (behind b s)) e).1

  -- if there is one
  plain_places : (behind b s ≡ []) ⊎ (are_digits (places kind) (behind b s) ≡ true)
  plain_places = by_test (holds b s) (λ t. inr (plain_decimals t)) (λ t. inl (none_behind b s t))

  pub plain_few : length (behind b s) ≤ places kind
  plain_few = ⊎_elim (λ q. rw q (omega arith)) (λ q. (are_digits_lem (places kind) (behind b s) q).1) plain_places

  places_left : value_of (behind b s) * 10 ^ (places kind - length (behind b s)) < 10 ^ places kind
  places_left = ⊎_elim (λ q. rw q (omega (arith, one-le-pow (places kind) 10 (lit< tt)))) (λ q. places_below (places kind) (behind b s) q) plain_places

  size_below : size_of kind b s < 10 ^ (wholes + places kind)
  size_below =
      rw (size_is (places kind) (before b s) (behind b s) plain_few)
      (join_below wholes (places kind) (value_of (before b s)) _ (wholes_below wholes (before b s) plain_wholes) places_left)

plain_below : (kind : Kind) (b : ℕ) (s : List ℕ) (n : ℕ) → amount_of kind b s ≡ Some n → n < 10 ^ (wholes + places kind)
unfolding amount_of
plain_below kind b s n e =
    let t = amount_value (is_plain kind b s) (size_of kind b s) n e in
    rw t.1 at (size_below kind b s t.0)

-- so few digits fit 64 bits with their sign
pub plain_small : (kind : Kind) (b : ℕ) (s : List ℕ) (n : ℕ) → amount_of kind b s ≡ Some n → n < 10 ^ most_digits
plain_small kind b s n e = lt_of_lt_of_le (plain_below kind b s n e) (pow-le-pow_right (lit< tt) (few_digits kind))

-- ---- without a minus: one law for each way out

-- the mark b is no digit, and the digits that stand first end before it
module _ (kind : Kind) (b : ℕ) (n : is_digit b ≡ false) (s : List ℕ) where
  -- digits before the first mark, or before the end, are all those that stand first
  wholes_first : are_digits wholes (take (index_of b s) s) ≡ true → (1 ≤ index_of b s) × (index_of b s ≡ length (leading wholes s))
  wholes_first e =
      let i = index_of b s in
      let d = are_digits_lem wholes (take i s) e in
      let l = length-take-le i s (index_within b s) in
      let up = leading_longest wholes i s (index_within b s) (omega arith) d.2 in
      (omega arith, omega (arith, leading_index b wholes s n))

  no_wholes : (1 ≤ index_of b s → index_of b s ≡ length (leading wholes s) → ⊥) → amount_of kind b s ≡ None
  unfolding amount_of
  no_wholes h =
      let i = index_of b s in
      by_test (are_digits wholes (take i s))
      (λ t. let w = wholes_first t in absurd (h w.0 w.1))
      (λ t. rw t)

  pub plain_none : length (leading wholes s) ≡ 0 → amount_of kind b s ≡ None
  plain_none h = no_wholes (λ p q. omega arith)

  pub plain_other : length (leading wholes s) < length s → (get_or s (length (leading wholes s)) 0 ≡ b → ⊥) → amount_of kind b s ≡ None
  plain_other h k = no_wholes (λ p q. k (rw q at (index_at b s (omega arith))))

  module _ (h : 1 ≤ length (leading wholes s)) where
    pub plain_whole : length (leading wholes s) ≡ length s → amount_of kind b s ≡ Some (value_of (leading wholes s) * 10 ^ places kind)
    unfolding amount_of
    plain_whole e =
        let q = leading_whole wholes s e in
        let d : are_digits wholes s ≡ true = rw q at (leading_are wholes s h) in
        let i : length s ≤ index_of b s = omega (arith, leading_index b wholes s n) in
        let l = drop_of_length-le s {i = suc (index_of b s)} (omega arith) in
        let none : places kind - 0 ≡ places kind = omega arith in
        rw (take_all (index_of b s) s i, holds_none b s i, l, d, append-nil s, none, q)

    -- t stands after the mark
    module _ (k : length (leading wholes s) < length s) (g : get_or s (length (leading wholes s)) 0 ≡ b)
        (t : List ℕ) (p : t ≡ onward s (length (leading wholes s) + 1)) where
      at : length (leading wholes s) ≡ index_of b s
      at = omega (arith, leading_index b wholes s n, index_least b s (length (leading wholes s)) k g)

      first : before b s ≡ leading wholes s
      first = rw (← at) (sym (leading_take wholes s))

      second : behind b s ≡ t
      second = rw (p, onward_drop s (length (leading wholes s) + 1), at, add-one)

      held : holds b s ≡ true
      held = holds_index b s ∙ lt-ltb (index_of b s) (length s) (omega (arith, at))

      -- digits up to the end are all that stand first
      no_decimals : (1 ≤ length (leading (places kind) t) → length (leading (places kind) t) ≡ length t → ⊥) → amount_of kind b s ≡ None
      unfolding amount_of
      no_decimals h =
          by_test (are_digits (places kind) t)
          (λ a.
          let d = are_digits_lem (places kind) t a in
          let all : all_digits (take (length t) t) ≡ true = rw (take-length t) d.2 in
          let up = leading_longest (places kind) (length t) t (omega arith) d.1 all in
          absurd (h (omega arith) (omega (arith, leading_within (places kind) t))))
          (λ a. rw (held, first, second, a, and_no (are_digits wholes (leading wholes s)) false refl))

      pub plain_bare : length (leading (places kind) t) ≡ 0 → amount_of kind b s ≡ None
      plain_bare e = no_decimals (λ o q. omega arith)

      pub plain_bad : (length (leading (places kind) t) ≡ length t → ⊥) → amount_of kind b s ≡ None
      plain_bad f = no_decimals (λ o q. f q)

      pub plain_both : 1 ≤ length (leading (places kind) t) → length (leading (places kind) t) ≡ length t
          → amount_of kind b s ≡ Some (value_from (value_of (leading wholes s)) (leading (places kind) t) * 10 ^ (places kind - length (leading (places kind) t)))
      unfolding amount_of
      plain_both o e =
          let w = leading wholes s in
          let q = leading_whole (places kind) t e in
          let d : are_digits (places kind) t ≡ true = rw q at (leading_are (places kind) t o) in
          let both : value_from (value_of w) t ≡ value_of (w ++ t) = value_from_lem t (value_of w) ∙ sym (value_append w t) in
          rw (held, first, second, leading_are wholes s h, d, q, both)

-- ---- the other mark

marks_differ : (mark : Mark) → named_byte mark ≡ other_byte mark → ⊥
marks_differ M.Point e = omega arith
marks_differ M.Comma e = omega arith

other_no_digit : (mark : Mark) → is_digit (other_byte mark) ≡ false
other_no_digit M.Point = refl
other_no_digit M.Comma = refl

-- o, which is no digit and not the mark b
plain_none_of : (kind : Kind) (b o : ℕ) (s : List ℕ) → is_digit o ≡ false → (b ≡ o → ⊥) → is_plain kind b s ≡ true → holds o s ≡ false
plain_none_of kind b o s n d e =
    let w = digits_free o (before b s) n (are_digits_lem wholes (before b s) (plain_wholes kind b s e)).2 in
    let m : eqb b o ≡ false = ne_eqb b o d in
    by_test (holds b s)
    (λ t.
    let v : holds o (behind b s) ≡ false = ⊎_elim
    (λ q. rw q)
    (λ q. digits_free o (behind b s) n (are_digits_lem (places kind) (behind b s) q).2)
    (plain_places kind b s e) in
    ap (holds o) (first_cut b (index_of b s) s refl (held_within b s t)) ∙ holds_append o (before b s) (b ∷ behind b s) ∙ rw (w, m, v))
    (λ t. rw (take_all (index_of b s) s (none_held b s t)) at w)

-- a number holds no byte but a minus, digits and the named mark
plain_free : (kind : Kind) (mark : Mark) (s : List ℕ) (o : ℕ) → is_digit o ≡ false → (named_byte mark ≡ o → ⊥) → (MINUS ≡ o → ⊥)
    → is_plain kind (named_byte mark) (past kind s) ≡ true → holds o s ≡ false
plain_free kind mark s o n d m e =
    let none = plain_none_of kind (named_byte mark) o (past kind s) n d e in
    let q : eqb MINUS o ≡ false = ne_eqb MINUS o m in
    by_test (has_minus kind s)
    (λ t. ap (holds o) (first_is MINUS s (and_true (takes_minus kind) (is_byte MINUS (take 1 s)) t).1) ∙ rw q (rw t at none))
    (λ t. rw t at none)

minus_differs : (mark : Mark) → MINUS ≡ other_byte mark → ⊥
minus_differs M.Point e = omega arith
minus_differs M.Comma e = omega arith

pub plain_unmarked : (kind : Kind) (mark : Mark) (s : List ℕ) → is_plain kind (named_byte mark) (past kind s) ≡ true → holds (other_byte mark) s ≡ false
plain_unmarked kind mark s e = plain_free kind mark s (other_byte mark) (other_no_digit mark) (marks_differ mark) (minus_differs mark) e

-- ---- the number: one law for each way out, and its size

pub no_digit : (mark : Mark) → is_digit (named_byte mark) ≡ false
no_digit M.Point = refl
no_digit M.Comma = refl

past_most : (kind : Kind) (s : List ℕ) → (if has_minus kind s then 1 else 0) ≤ length s
past_most kind s =
    by_test (has_minus kind s)
    (λ t. rw (t, first_is MINUS s (and_true (takes_minus kind) (is_byte MINUS (take 1 s)) t).1) (omega arith))
    (λ t. rw t (omega arith))

-- i is the place past the minus
module _ (kind : Kind) (s : List ℕ) (i : ℕ) (e : i ≡ (if has_minus kind s then 1 else 0)) where
  pub past_within : i ≤ length s
  past_within = rw e (past_most kind s)

  module _ (mark : Mark) where
    pub number_value : (n : ℕ) → amount_of kind (named_byte mark) (onward s i) ≡ Some n
        → number_of kind mark s ≡ ranged kind (signed (has_minus kind s) (pos n))
    unfolding amount_of
    number_value n h =
        let b = named_byte mark in
        let p = past kind s in
        let k : unless (is_plain kind b p) None (Some (size_of kind b p)) ≡ Some n = rw (onward_drop s i, e) at h in
        let t = amount_value (is_plain kind b p) (size_of kind b p) n k in
        number_cases kind mark s
        (λ f q. clash f (plain_unmarked kind mark s t.0))
        (λ f u q. clash t.0 u)
        (λ u q. q ∙ rw t.1)

    pub number_fault : amount_of kind (named_byte mark) (onward s i) ≡ None → number_of kind mark s ≡ Err (fault_of mark s)
    unfolding amount_of
    number_fault h =
        let b = named_byte mark in
        let p = past kind s in
        let k : unless (is_plain kind b p) None (Some (size_of kind b p)) ≡ None = rw (onward_drop s i, e) at h in
        number_cases kind mark s
        (λ f q. q ∙ rw f)
        (λ f u q. q ∙ rw f)
        (λ u q. clash u (amount_not (is_plain kind b p) (size_of kind b p) k))

-- the value, but for what refuses it
pub ranged_is : (kind : Kind) (v : ℤ) → ranged kind v ≡ answered (range_refusal kind v) v
ranged_is K.Latitude v = by_test (is_latitude v) (λ t. rw t) (λ t. rw t)
ranged_is K.Longitude v = by_test (is_longitude v) (λ t. rw t) (λ t. rw t)
ranged_is K.Target v = refl

-- a refusal is what is answered
pub answered_refused : (r : Refusal) (v : ℤ) → Err r ≡ answered (Err r) v
answered_refused r v = refl

-- ---- what a number that was read tells

signed_size : (minus : Bool) (n : ℕ) → nat_abs (signed minus (pos n)) ≡ n
signed_size true n = as_size (negsuc 0) n
signed_size false n = refl

mark_no_tab : (mark : Mark) → named_byte mark ≡ TAB → ⊥
mark_no_tab M.Point e = omega arith
mark_no_tab M.Comma e = omega arith

pub refused_value : {P : Type 0} {r : Refusal} {v : ℤ} → Err r ≡ Ok v → P
refused_value e = let z : ⊥ = grind arith in absurd z

module _ (kind : Kind) (mark : Mark) (s : List ℕ) (v : ℤ) where
  number_read : number_of kind mark s ≡ Ok v → Read kind mark s v
  number_read e =
      let made = made_of kind mark s in
      number_cases kind mark s
      (λ f q. refused_value (sym q ∙ e))
      (λ f u q. refused_value (sym q ∙ e))
      (λ u q.
      ranged_cases kind made
      (λ r.
      let same : Ok made ≡ Ok v = sym r ∙ sym q ∙ e in
      let m : v ≡ made = cc in
      record { plain = u; made = m; within = rw (m, r) })
      (λ n r l. refused_value (sym r ∙ sym q ∙ e)))

  module _ (e : number_of kind mark s ≡ Ok v) where
    pub number_in : range_refusal kind v ≡ fine
    number_in = (number_read e).within

    pub number_size : nat_abs v < 10 ^ (wholes + places kind)
    number_size =
        let r = number_read e in
        rw (r.made, signed_size (has_minus kind s) (size_of kind (named_byte mark) (past kind s))) (size_below kind (named_byte mark) (past kind s) r.plain)

    pub number_untabbed : length s ≤ index_of TAB s
    number_untabbed = none_held TAB s (plain_free kind mark s TAB refl (mark_no_tab mark) (λ y. omega arith) (number_read e).plain)

pub latitude_in : (v : ℤ) → range_refusal K.Latitude v ≡ fine → is_latitude v ≡ true
latitude_in v e = by_test (is_latitude v) (λ t. t) (λ t. let z = rw t at e in grind arith)

pub longitude_in : (v : ℤ) → range_refusal K.Longitude v ≡ fine → is_longitude v ≡ true
longitude_in v e = by_test (is_longitude v) (λ t. t) (λ t. let z = rw t at e in grind arith)

ranged_says : (kind : Kind) (v : ℤ) → NumberSays kind (ranged kind v)
ranged_says kind v = ranged_cases kind v (λ r. rw r (value {v = v} (rw r))) (λ n r l. rw r (refused l))

module _ (kind : Kind) (mark : Mark) (s : List ℕ) where
  pub number_says : NumberSays kind (number_of kind mark s)
  number_says =
      number_cases kind mark s
      (λ f q. rw q (refused refl))
      (λ f u q. rw q (refused refl))
      (λ u q. rw q (ranged_says kind (made_of kind mark s)))
