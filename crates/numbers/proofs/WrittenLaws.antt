-- Laws of a number as it is written: it is read, and what is read is so written.
-- Assumes nothing.
use Rattle.std.specs.Prelude.{◌≡◌, refl, Bool, true, false, List, [], ◌∷◌, ◌++◌, ℕ, suc, ◌+◌, ◌-◌, ◌*◌, ◌^◌, ◌≤◌, eqb, ℤ, pos, neg_ℤ, length, take, drop, if◌then◌else◌, Result, Ok, Err}
use Rattle.std.proofs.Common.{sym, ap, ap₂, ◌∙◌, append-nil, arith, le-leb, eq-eqb, ne_eqb, take_all, take_at}
use Rattle.refusals.specs.declared.Refusal.{Refusal}
use Rattle.refusals.specs.declared.Refusal.TheVariants as R
use Rattle.refusals.specs.Refusal.{number}
use Rattle.refusals.specs.Tests.{by_test, clash, and_true, and_no}
use Rattle.numbers.specs.declared.Mark.{Mark}
use Rattle.numbers.specs.declared.Kind.{Kind}
use Rattle.numbers.specs.declared.Kind.TheVariants as K
use Rattle.numbers.specs.Pieces.{index_of, holds, is_byte}
use Rattle.numbers.proofs.PieceLaws.{held_within, none_held, holds_append, first_cut, first_is}
use Rattle.numbers.specs.Number.{named_byte, places, takes_minus, ranged, all_digits, are_digits, value_of, number_of}
use Rattle.numbers.specs.DigitLaws.{is_digit}
use Rattle.numbers.proofs.DigitLaws.{digit_range, digits_are, digits_free, are_digits_lem}
use Rattle.numbers.specs.NumberLaws.{wholes, before, behind, is_plain, size_of, has_minus, past, signed, made_of}
use Rattle.numbers.proofs.NumberLaws.{no_digit, size_is, none_behind, plain_wholes, plain_decimals, plain_few, plain_unmarked, number_cases}
use Rattle.numbers.specs.Written.{Makes, none, digit, Decimals, nothing, marked, sign, Written, IsNumber, is_in, out_of}

-- ---- digits

pub makes_digits : {s : List ℕ} {n : ℕ} → Makes s n → (all_digits s ≡ true) × (value_of s ≡ n)
makes_digits none = (refl, refl)
makes_digits (digit {b} {n} {s} h k m) =
    let t = makes_digits m in
    (rw (le-leb 48 b h, le-leb b 57 k) t.0, rw t.1)

pub digits_make : (s : List ℕ) → all_digits s ≡ true → Makes s (value_of s)
digits_make [] e = none
digits_make (b ∷ s) e =
    let t = and_true (is_digit b) (all_digits s) e in
    let r = digit_range b t.0 in
    digit r.0 r.1 (digits_make s t.1)

-- ---- what is written is read

-- no digit is the mark b
module _ (b : ℕ) (nb : is_digit b ≡ false) where
  index_past : (w rest : List ℕ) → all_digits w ≡ true → index_of b (w ++ b ∷ rest) ≡ length w
  index_past [] rest e = rw (eq-eqb b b refl)
  index_past (x ∷ w) rest e =
      let t = and_true (is_digit x) (all_digits w) e in
      let q : eqb x b ≡ false = ne_eqb x b (λ y. clash t.0 (ap is_digit y ∙ nb)) in
      rw q (ap suc (index_past w rest t.1))

  drop_past : (w d : List ℕ) → drop (suc (length w)) (w ++ b ∷ d) ≡ d
  drop_past [] d = refl
  drop_past (x ∷ w) d = drop_past w d

  module _ (kind : Kind) (w : List ℕ) (some : 1 ≤ length w) (few : length w ≤ 3) (all : all_digits w ≡ true) where
    is_wholes : are_digits wholes w ≡ true
    is_wholes = digits_are wholes w some (omega arith) all

    abbrev Plain : List ℕ → ℕ → Type 0
    Plain s n = (is_plain kind b s ≡ true) × (size_of kind b s ≡ n)

    plain_alone : Plain w (value_of w * 10 ^ places kind + 0)
    plain_alone =
        let free = digits_free b w nb all in
        let t = take_all (index_of b w) w (none_held b w free) in
        let zeros : places kind - 0 ≡ places kind = omega arith in
        (rw (free, t, is_wholes), rw (none_behind b w free, t, append-nil w, zeros) (omega arith))

    plain_marked : (d : List ℕ) → are_digits (places kind) d ≡ true → Plain (w ++ b ∷ d) (value_of w * 10 ^ places kind + value_of d * 10 ^ (places kind - length d))
    plain_marked d e =
        let s = w ++ b ∷ d in
        let at = index_past w d all in
        let held : holds b s ≡ true = holds_append b w (b ∷ d) ∙ rw (digits_free b w nb all, eq-eqb b b refl) in
        let f : before b s ≡ w = take_at w (b ∷ d) (index_of b s) (sym at) in
        let g : behind b s ≡ d = rw at (drop_past w d) in
        (rw (held, f, g, is_wholes, e), rw (f, g) (size_is (places kind) w d (are_digits_lem (places kind) d e).1))

    plain_written : {rest : List ℕ} {k : ℕ} → Decimals (places kind) b rest k → Plain (w ++ rest) (value_of w * 10 ^ places kind + k)
    plain_written nothing = rw (append-nil w) plain_alone
    plain_written (marked {d} h l m) =
        let t = makes_digits m in
        rw (← t.1) (plain_marked d (digits_are (places kind) d h l t.0))

signed_is : (minus : Bool) (n : ℕ) → signed minus (pos n) ≡ (if minus then neg_ℤ (pos n) else pos n)
signed_is true n = refl
signed_is false n = refl

-- the sign is told by the first byte, since a digit is no minus
module _ (kind : Kind) (rest : List ℕ) where
  sign_told : (minus : Bool) (w : List ℕ) → (minus ≡ true → takes_minus kind ≡ true) → 1 ≤ length w → all_digits w ≡ true
      → let s = sign minus ++ (w ++ rest) in (has_minus kind s ≡ minus) × (past kind s ≡ w ++ rest)
  sign_told true w a h e = (rw (a refl), rw (a refl))
  sign_told false [] a h e = absurd (omega arith)
  sign_told false (x ∷ w) a h e =
      let r = digit_range x (and_true (is_digit x) (all_digits w) e).0 in
      let q : eqb x 45 ≡ false = ne_eqb x 45 (λ y. omega arith) in
      let m : has_minus kind (x ∷ (w ++ rest)) ≡ false = rw q (and_no (takes_minus kind) false refl) in
      (m, rw m)

-- in the definition's words
pub ours : (kind : Kind) (mark : Mark) (s : List ℕ) (v : ℤ) → IsNumber kind mark s v → Written (takes_minus kind) (places kind) (named_byte mark) s v
ours K.Latitude mark s v r = r
ours K.Longitude mark s v r = r
ours K.Target mark s v r = r

pub theirs : (kind : Kind) (mark : Mark) (s : List ℕ) (v : ℤ) → Written (takes_minus kind) (places kind) (named_byte mark) s v → IsNumber kind mark s v
theirs K.Latitude mark s v r = r
theirs K.Longitude mark s v r = r
theirs K.Target mark s v r = r

pub ranged_in : (kind : Kind) (v : ℤ) → is_in kind v ≡ true → ranged kind v ≡ Ok v
ranged_in K.Latitude v e = rw e
ranged_in K.Longitude v e = rw e
ranged_in K.Target v e = refl

pub ranged_out : (kind : Kind) (v : ℤ) → is_in kind v ≡ false → (r : Refusal) × (ranged kind v ≡ Err r) × (number r ≡ out_of kind)
ranged_out K.Latitude v e = (R.Latitude, rw e, refl)
ranged_out K.Longitude v e = (R.Longitude, rw e, refl)
ranged_out K.Target v e = clash refl e

module _ (kind : Kind) (mark : Mark) (s : List ℕ) where
  abbrev b : ℕ
  b = named_byte mark

  sign_past : s ≡ sign (has_minus kind s) ++ past kind s
  sign_past =
      by_test (has_minus kind s)
      (λ t. rw t (first_is 45 s (and_true (takes_minus kind) (is_byte 45 (take 1 s)) t).1))
      (λ t. rw t)

  -- a field of the form is read
  pub written_read : {v : ℤ} → Written (takes_minus kind) (places kind) (named_byte mark) s v → number_of kind mark s ≡ ranged kind v
  written_read {v} r =
      let t = makes_digits r.makes in
      let told = sign_told kind r.rest r.minus r.w r.allowed r.some t.0 in
      let at : past kind s ≡ r.w ++ r.rest = ap (past kind) r.text ∙ told.1 in
      let m : has_minus kind s ≡ r.minus = ap (has_minus kind) r.text ∙ told.0 in
      let plain = plain_written (named_byte mark) (no_digit mark) kind r.w r.some r.few t.0 r.decimals in
      let ok : is_plain kind (named_byte mark) (past kind s) ≡ true = rw at plain.0 in
      let made : made_of kind mark s ≡ v =
      ap₂ (λ (t : Bool) (n : ℕ). signed t (pos n)) m (ap (size_of kind (named_byte mark)) at ∙ plain.1 ∙ ap (λ (x : ℕ). x * 10 ^ places kind + r.k) t.1) ∙ signed_is r.minus _ ∙ sym r.value in
      number_cases kind mark s
      (λ h q. clash h (plain_unmarked kind mark s ok))
      (λ h u q. clash ok u)
      (λ u q. q ∙ ap (ranged kind) made)

  -- and what is read is of the form
  pub read_written : is_plain kind (named_byte mark) (past kind s) ≡ true
      → Written (takes_minus kind) (places kind) (named_byte mark) s (made_of kind mark s)
  read_written e =
      let p = past kind s in
      let w = are_digits_lem wholes (before b p) (plain_wholes kind b p e) in
      let d = behind b p in
      let size = size_is (places kind) (before b p) d (plain_few kind b p e) in
      by_test (holds b p)
      (λ t.
      let a = are_digits_lem (places kind) d (plain_decimals kind b p e t) in
      record {
        minus = has_minus kind s;
        w = before b p;
        rest = b ∷ d;
        n = value_of (before b p);
        k = value_of d * 10 ^ (places kind - length d);
        text = sign_past ∙ ap (λ (x : List ℕ). sign (has_minus kind s) ++ x) (first_cut b (index_of b p) p refl (held_within b p t));
        allowed = λ u. (and_true (takes_minus kind) (is_byte 45 (take 1 s)) u).0;
        some = w.0;
        few = w.1;
        makes = digits_make (before b p) w.2;
        decimals = marked a.0 a.1 (digits_make d a.2);
        value = ap (λ (n : ℕ). signed (has_minus kind s) (pos n)) size ∙ signed_is (has_minus kind s) _;
      })
      (λ t.
      let all : p ≡ before b p ++ [] = sym (append-nil (before b p) ∙ take_all (index_of b p) p (none_held b p t)) in
      let zeros : value_of d * 10 ^ (places kind - length d) ≡ 0 = rw (none_behind b p t) (omega arith) in
      record {
        minus = has_minus kind s;
        w = before b p;
        rest = [];
        n = value_of (before b p);
        k = 0;
        text = sign_past ∙ ap (λ (x : List ℕ). sign (has_minus kind s) ++ x) all;
        allowed = λ u. (and_true (takes_minus kind) (is_byte 45 (take 1 s)) u).0;
        some = w.0;
        few = w.1;
        makes = digits_make (before b p) w.2;
        decimals = nothing;
        value = ap (λ (n : ℕ). signed (has_minus kind s) (pos n)) (size ∙ ap (λ (x : ℕ). value_of (before b p) * 10 ^ places kind + x) zeros) ∙ signed_is (has_minus kind s) _;
      })

pub value_one : {v u : ℤ} → ◌≡◌ {A = Result ℤ Refusal} (Ok v) (Ok u) → v ≡ u
value_one e = cc

pub refused_one : {r q : Refusal} → ◌≡◌ {A = Result ℤ Refusal} (Err r) (Err q) → r ≡ q
refused_one e = cc

-- 0 is the number of no refusal
pub number_some : (r : Refusal) → number r ≡ 0 → ⊥
number_some R.Text e = omega arith
number_some R.Header e = omega arith
number_some R.Line e = omega arith
number_some R.Number e = omega arith
number_some R.Mark e = omega arith
number_some R.Latitude e = omega arith
number_some R.Longitude e = omega arith
number_some R.Order e = omega arith
number_some R.Points e = omega arith
number_some R.Room e = omega arith
number_some R.Place e = omega arith
number_some R.Window e = omega arith
number_some R.Divisor e = omega arith
number_some R.Meridian e = omega arith
number_some R.Output e = omega arith
number_some R.Target e = omega arith
number_some R.Buffer e = omega arith
number_some R.Course e = omega arith

-- 4 and 5 are no refusals of a range
pub not_4 : (kind : Kind) → out_of kind ≡ 4 → ⊥
not_4 K.Latitude e = omega arith
not_4 K.Longitude e = omega arith
not_4 K.Target e = omega arith

pub not_5 : (kind : Kind) → out_of kind ≡ 5 → ⊥
not_5 K.Latitude e = omega arith
not_5 K.Longitude e = omega arith
not_5 K.Target e = omega arith
