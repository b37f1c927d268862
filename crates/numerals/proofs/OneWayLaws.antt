-- Laws of a number that is written: it is read back as it was, how long it is, which bytes it does not hold, and that it alone keeps the rules.
-- Assumes nothing.
use Rattle.std.specs.Prelude.{◌≡◌, refl, Bool, leb, eqb, ℤ, pos, negsuc, neg_ℤ, nat_abs, length, if◌then◌else◌, Ok}
use Rattle.std.proofs.Common.{sym, ap, ◌∙◌, zero-mul, mul-le-mul, mul-le-mul_right, mod-eq_of_lt, div-add-mod', le-div_iff_mul-le, div-lt_iff_lt-mul, lt_of_lt_of_le, arith, lit<, length-append, pow-add, leb-true, leb-false, le-leb, eqb-true, ne_eqb}
use Rattle.std.proofs.Math.Bool.{true, false}
use mathlib.Core.List.{List, [], ◌∷◌, ◌++◌, append_assoc, nil≢cons, head-eq_of_cons-eq, tail-eq_of_cons-eq}
use Prim.Native.Nat.{ℕ, zero, suc, ◌+◌, ◌-◌, ◌*◌, ◌/◌, ◌%◌, ◌^◌, ◌≤◌, ◌<◌}
use Rattle.std.proofs.Math.Nat.{mul-add-div_right, div-eq_of_lt, mul-add-mod_self_right, one-le-pow, pow-le-pow_right}
use Rattle.std.proofs.lemmas.Bool.{eqb-false}
use Rattle.refusals.specs.Tests.{by_test, clash, and_true, true_and, or_false}
use Rattle.signed.specs.Sides.{below, size_sides, one_side}
use Rattle.ticks.proofs.TickLaws.{latitude_size, longitude}
use Rattle.numbers.specs.declared.Mark.{Mark}
use Rattle.numbers.specs.declared.Mark.TheVariants as M
use Rattle.numbers.specs.declared.Kind.{Kind}
use Rattle.numbers.specs.declared.Kind.TheVariants as K
use Rattle.numbers.specs.Pieces.{holds}
use Rattle.numbers.proofs.PieceLaws.{holds_append, holds_there}
use Rattle.numbers.specs.Number.{MINUS, named_byte, places, takes_minus, all_digits, value_of, number_of}
use Rattle.numbers.specs.DigitLaws.{is_digit}
use Rattle.numbers.proofs.DigitLaws.{digit_range, digits_are, value_below, places_below, digits_free}
use Rattle.numbers.specs.NumberLaws.{wholes}
use Rattle.numbers.proofs.NumberLaws.{no_digit}
use Rattle.numerals.specs.Numeral.{digits, width, whole_of, decimals_of, minus_of, numeral_of}
use Rattle.numerals.proofs.NumeralLaws.{rest_below, digits_all, digits_most, digits_full, digits_some, digits_value, width_some, width_first, width_least, width_holds}
use Rattle.numbers.specs.Written.{Makes, Decimals, nothing, marked, sign, Written, IsNumber, is_in}
use Rattle.numbers.proofs.WrittenLaws.{makes_digits, digits_make, theirs, ours, written_read, ranged_in}
use Rattle.numerals.specs.OneWay.{fits, Neat}

-- ---- the digits before the mark

module _ (n : ℕ) (h : n < 1_000) where
  whole_holds : n < 10 ^ width 10 n
  whole_holds = width_holds 10 n (omega arith)

  whole_all : all_digits (whole_of n) ≡ true
  whole_all = digits_all false (width 10 n) n whole_holds

  whole_makes : Makes (whole_of n) n
  whole_makes =
      let k = width 10 n in
      let none : k - length (digits false k n) ≡ 0 = omega (arith, digits_full k n) in
      let v : value_of (whole_of n) * 10 ^ 0 ≡ n = rw none at (digits_value false k n whole_holds) in
      let e : value_of (whole_of n) ≡ n = omega (arith, v) in
      rw e at (digits_make (whole_of n) whole_all)

-- ---- and those after it

decimals_make : (p m n : ℕ) → n < 10 ^ p → Decimals p m (decimals_of p m n) n
decimals_make p m n h =
    by_test (eqb n 0)
    (λ t. rw (t, eqb-true n 0 t) nothing)
    (λ t.
    let d = digits true p n in
    let r : Decimals p m (m ∷ d) (value_of d * 10 ^ (p - length d)) =
    marked (digits_some p n h t) (digits_most true p n) (digits_make d (digits_all true p n h)) in
    rw t (rw (digits_value true p n h) at r))

-- ---- the rules, of these digits

-- a first 0 stands alone
whole_leads : (n x : ℕ) (t z : List ℕ) → whole_of n ++ t ≡ x ∷ z → (48 ≤ x) × (x ≡ 48 → t ≡ z)
whole_leads n x t z = go (width 10 n) (width_some 10 n) (width_first 10 n)
  where
    go : (k : ℕ) → 1 ≤ k → (1 < k → 10 ^ (k - 1) ≤ n) → digits false k n ++ t ≡ x ∷ z → (48 ≤ x) × (x ≡ 48 → t ≡ z)
    go zero h f e = absurd (omega arith)
    go (suc zero) h f e = let q = head-eq_of_cons-eq e in (omega arith, λ u. tail-eq_of_cons-eq e)
    go (suc (suc k)) h f e =
        let q = head-eq_of_cons-eq e in
        let less : suc (suc k) - 1 ≡ suc k = omega arith in
        let most : 10 ^ suc k ≤ n = rw less at (f (omega arith)) in
        let d : 1 ≤ n / 10 ^ suc k = (le-div_iff_mul-le (one-le-pow (suc k) 10 (lit< tt))).1 (omega arith) in
        (omega arith, λ u. absurd (omega arith))

no_end : (b : ℕ) (a z : List ℕ) → [] ≡ a ++ b ∷ z → ⊥
no_end b [] z e = nil≢cons e
no_end b (x ∷ a) z e = nil≢cons e

-- the last that is written is not 0
digits_end : (k n : ℕ) (z : List ℕ) → n < 10 ^ k → digits true k n ≡ z ++ 48 ∷ [] → ⊥
digits_end zero n z h e = no_end 48 z [] e
digits_end (suc k) n [] h e =
    by_test (eqb n 0)
    (λ t. nil≢cons (rw t at e))
    (λ t.
    let r = n % 10 ^ k in
    let one : (48 + n / 10 ^ k) ∷ digits true k r ≡ 48 ∷ [] = rw t at e in
    let d = head-eq_of_cons-eq one in
    let q : n / 10 ^ k ≡ 0 = omega arith in
    by_test (eqb r 0)
    (λ u. eqb-false n 0 t (omega (arith, eqb-true r 0 u, div-add-mod' n (10 ^ k), ap (λ (x : ℕ). x * 10 ^ k) q)))
    (λ u. omega (arith, digits_some k r (rest_below k n) u, ap length (tail-eq_of_cons-eq one))))
digits_end (suc k) n (x ∷ z) h e =
    by_test (eqb n 0)
    (λ t. nil≢cons (rw t at e))
    (λ t. digits_end k (n % 10 ^ k) z (rest_below k n) (tail-eq_of_cons-eq (rw t at e)))

-- b stands after s only
past_it : (b : ℕ) (s : List ℕ) {t : List ℕ} (a z : List ℕ) → holds b s ≡ false → s ++ t ≡ a ++ b ∷ z → (c : List ℕ) × (t ≡ c ++ b ∷ z)
past_it b [] a z h e = (a, e)
past_it b (x ∷ s) [] z h e = absurd (eqb-false x b (or_false (eqb x b) (holds b s) h).0 (head-eq_of_cons-eq e))
past_it b (x ∷ s) (y ∷ a) z h e = past_it b s a z (or_false (eqb x b) (holds b s) h).1 (tail-eq_of_cons-eq e)

-- what stands after the mark
decimals_cut : (p m n : ℕ) (c z : List ℕ) → is_digit m ≡ false → n < 10 ^ p → decimals_of p m n ≡ c ++ m ∷ z → (eqb n 0 ≡ false) × (digits true p n ≡ z)
decimals_cut p m n c z i h e =
    by_test (eqb n 0)
    (λ t. absurd (no_end m c z (rw t at e)))
    (λ t. (t, go (digits true p n) c (digits_free m (digits true p n) i (digits_all true p n h)) (rw t at e)))
  where
    go : (d c : List ℕ) → holds m d ≡ false → m ∷ d ≡ c ++ m ∷ z → d ≡ z
    go d [] f e = tail-eq_of_cons-eq e
    go d (y ∷ c) f e = clash (holds_there m c z) (sym (ap (holds m) (tail-eq_of_cons-eq e)) ∙ f)

mark_low : (mark : Mark) → (named_byte mark < 48) × (45 ≡ named_byte mark → ⊥)
mark_low M.Point = omega arith
mark_low M.Comma = omega arith

sign_free : (mark : Mark) (minus : Bool) → holds (named_byte mark) (sign minus) ≡ false
sign_free mark true = rw (ne_eqb 45 (named_byte mark) (mark_low mark).1)
sign_free mark false = refl

-- ---- digits that keep the rules are those that are written of what they make

-- n times u, and k beyond it
apart : (u n k : ℕ) → k < u → ((n * u + k) / u ≡ n) × ((n * u + k) % u ≡ k)
apart u n k h = (mul-add-div_right (omega arith) n k ∙ rw (div-eq_of_lt h) (omega arith), mul-add-mod_self_right n u k ∙ mod-eq_of_lt h)

-- with all their places
all_back : (s : List ℕ) → all_digits s ≡ true → digits false (length s) (value_of s) ≡ s
all_back [] e = refl
all_back (b ∷ s) e =
    let t = and_true (is_digit b) (all_digits s) e in
    let c = apart (10 ^ length s) (b - 48) (value_of s) (value_below s t.1) in
    let digit : 48 + (b - 48) ≡ b = omega (arith, digit_range b t.0) in
    rw (c.0, c.1, digit) (ap (λ (x : List ℕ). b ∷ x) (all_back s t.1))

width_is : (most n j : ℕ) → 1 ≤ j → j ≤ most → n < 10 ^ j → (1 < j → 10 ^ (j - 1) ≤ n) → width most n ≡ j
width_is most n j one few h f =
    let w = width most n in
    let least = width_least most n j one h in
    by_test (leb j w)
    (λ t. omega (arith, leb-true j w t))
    (λ t.
    let l = leb-false j w t in
    let holds : n < 10 ^ w = width_holds most n (lt_of_lt_of_le h (pow-le-pow_right {n = 10} (lit< tt) few)) in
    absurd (omega (arith, f (omega (arith, width_some most n)), pow-le-pow_right {n = 10} (lit< tt) {i = w} {j = j - 1} (omega arith))))

whole_back : (w : List ℕ) → all_digits w ≡ true → 1 ≤ length w → length w ≤ 10 → ((b : ℕ) (z : List ℕ) → is_digit b ≡ true → w ≡ 48 ∷ b ∷ z → ⊥) → whole_of (value_of w) ≡ w
whole_back w e one few f =
    rw (width_is 10 (value_of w) (length w) one few (value_below w e) (go w e f)) (all_back w e)
  where
    go : (w : List ℕ) → all_digits w ≡ true → ((b : ℕ) (z : List ℕ) → is_digit b ≡ true → w ≡ 48 ∷ b ∷ z → ⊥) → 1 < length w → 10 ^ (length w - 1) ≤ value_of w
    go [] e f h = absurd (omega arith)
    go (x ∷ []) e f h = absurd (omega arith)
    go (x ∷ (b ∷ s)) e f h =
        let t = and_true (is_digit x) (all_digits (b ∷ s)) e in
        let i = (and_true (is_digit b) (all_digits s) t.1).0 in
        let r = digit_range x t.0 in
        let d : 1 ≤ x - 48 = by_test (leb x 48) (λ u. absurd (f b s i (ap (λ (y : ℕ). y ∷ (b ∷ s)) (omega (arith, leb-true x 48 u))))) (λ u. omega (arith, leb-false x 48 u)) in
        let less : suc (suc (length s)) - 1 ≡ suc (length s) = omega arith in
        rw less (omega (arith, mul-le-mul_right (10 ^ suc (length s)) d))

-- the last is not 0
abbrev Ended : List ℕ → Type 0
Ended s = (z : List ℕ) → s ≡ z ++ 48 ∷ [] → ⊥

ended_next : {b : ℕ} {s : List ℕ} → Ended (b ∷ s) → Ended s
ended_next {b} f z e = f (b ∷ z) (ap (λ (x : List ℕ). b ∷ x) e)

value_some : (s : List ℕ) → all_digits s ≡ true → 1 ≤ length s → Ended s → 1 ≤ value_of s
value_some [] e h f = absurd (omega arith)
value_some (b ∷ []) e h f =
    let r = digit_range b (and_true (is_digit b) true e).0 in
    by_test (leb b 48)
    (λ u. absurd (f [] (ap (λ (x : ℕ). x ∷ []) (omega (arith, leb-true b 48 u)))))
    (λ u. omega (arith, leb-false b 48 u))
value_some (b ∷ (c ∷ s)) e h f = omega (arith, value_some (c ∷ s) (and_true (is_digit b) (all_digits (c ∷ s)) e).1 (omega arith) (ended_next f))

not_zero : (s : List ℕ) (j : ℕ) → all_digits s ≡ true → 1 ≤ length s → Ended s → eqb (value_of s * 10 ^ j) 0 ≡ false
not_zero s j e h f = let q = mul-le-mul (value_some s e h f) (one-le-pow j 10 (lit< tt)) in ne_eqb (value_of s * 10 ^ j) 0 (λ z. omega arith)

short_none : (k : ℕ) → digits true k 0 ≡ []
short_none zero = refl
short_none (suc k) = refl

-- up to the last that is not 0
short_back : (k : ℕ) (s : List ℕ) → all_digits s ≡ true → length s ≤ k → Ended s → digits true k (value_of s * 10 ^ (k - length s)) ≡ s
short_back k [] e h f = rw zero-mul (short_none k)
short_back zero (b ∷ s) e h f = absurd (omega arith)
short_back (suc k) (b ∷ s) e h f =
    let t = and_true (is_digit b) (all_digits s) e in
    let i = length s in
    let u = 10 ^ (k - i) in
    let r = value_of s * u in
    let less : suc k - suc i ≡ k - i = omega arith in
    let both : i + (k - i) ≡ k = omega arith in
    let units : 10 ^ i * u ≡ 10 ^ k = sym (pow-add 10 i (k - i)) ∙ ap (λ (x : ℕ). 10 ^ x) both in
    let sum : value_of (b ∷ s) * 10 ^ (suc k - suc i) ≡ (b - 48) * 10 ^ k + r = rw (less, ← units) (omega arith) in
    let below : r < 10 ^ k = rw (← units) (omega (arith, mul-le-mul_right u (value_below s t.1), one-le-pow (k - i) 10 (lit< tt))) in
    let c = apart (10 ^ k) (b - 48) r below in
    let digit : 48 + (b - 48) ≡ b = omega (arith, digit_range b t.0) in
    let not : eqb ((b - 48) * 10 ^ k + r) 0 ≡ false = rw (← sum) (not_zero (b ∷ s) (suc k - suc i) e (omega arith) f) in
    rw (sum, not, c.0, c.1, digit) (ap (λ (x : List ℕ). b ∷ x) (short_back k s t.1 (omega arith) (ended_next f)))

decimals_back : (p m : ℕ) {rest : List ℕ} {k : ℕ} → Decimals p m rest k → ((z : List ℕ) → rest ≡ m ∷ (z ++ 48 ∷ []) → ⊥) → (decimals_of p m k ≡ rest) × (k < 10 ^ p)
decimals_back p m nothing f = (refl, one-le-pow p 10 (lit< tt))
decimals_back p m (marked {d} {n} h l r) f =
    let t = makes_digits r in
    let ended : Ended d = λ z e. f z (ap (λ (x : List ℕ). m ∷ x) e) in
    rw (← t.1) (rw (not_zero d (p - length d) t.0 h ended, short_back p d t.0 l ended), places_below p d (digits_are p d h l t.0))

-- ---- a number without its sign

-- of a value that fits: how many digits stand before the mark at the most
abbrev pub wholes_of : Kind → ℕ
wholes_of K.Latitude = 2
wholes_of K.Longitude = 3
wholes_of K.Target = 3

wholes_some : (kind : Kind) → (1 ≤ wholes_of kind) × (wholes_of kind ≤ 3)
wholes_some K.Latitude = omega arith
wholes_some K.Longitude = omega arith
wholes_some K.Target = omega arith

module _ (kind : Kind) (mark : Mark) (n : ℕ) (h : n < 10 ^ (wholes_of kind + places kind)) where
  abbrev p : ℕ
  p = places kind

  abbrev m : ℕ
  m = named_byte mark

  abbrev whole : ℕ
  whole = n / 10 ^ p

  abbrev part : ℕ
  part = n % 10 ^ p

  abbrev unsigned : List ℕ
  unsigned = whole_of whole ++ decimals_of p m part

  whole_below : whole < 10 ^ wholes_of kind
  whole_below = (div-lt_iff_lt-mul (one-le-pow p 10 (lit< tt))).1 (rw (pow-add 10 (wholes_of kind) p) at h)

  thousand : whole < 1_000
  thousand = lt_of_lt_of_le whole_below (pow-le-pow_right {n = 10} (lit< tt) (wholes_some kind).1)

  whole_most : length (whole_of whole) ≤ wholes_of kind
  whole_most = rw (digits_full (width 10 whole) whole) (width_least 10 whole (wholes_of kind) (wholes_some kind).0 whole_below)

  unsigned_written : (minus : Bool) → (minus ≡ true → takes_minus kind ≡ true)
      → Written (takes_minus kind) p m (sign minus ++ unsigned) (if minus then neg_ℤ (pos n) else pos n)
  unsigned_written minus a =
      record {
        minus = minus;
        w = whole_of whole;
        rest = decimals_of p m part;
        n = whole;
        k = part;
        text = refl;
        allowed = a;
        some = rw (digits_full (width 10 whole) whole) (width_some 10 whole);
        few = omega (arith, whole_most, wholes_some kind);
        makes = whole_makes whole thousand;
        decimals = decimals_make p m part (rest_below p n);
        value = ap (λ (x : ℕ). if minus then neg_ℤ (pos x) else pos x) (sym (div-add-mod' n (10 ^ p)));
      }

  unsigned_free : (o : ℕ) → is_digit o ≡ false → eqb m o ≡ false → holds o unsigned ≡ false
  unsigned_free o i e =
      rw (holds_append o (whole_of whole) (decimals_of p m part), digits_free o (whole_of whole) i (whole_all whole thousand))
      (by_test (eqb part 0)
      (λ t. rw t)
      (λ t. rw (t, e) (digits_free o (digits true p part) i (digits_all true p part (rest_below p n)))))

  unsigned_most : length unsigned ≤ wholes_of kind + 1 + p
  unsigned_most =
      rw (length-append (whole_of whole) (decimals_of p m part))
      (by_test (eqb part 0)
      (λ t. rw t (omega (arith, whole_most)))
      (λ t. rw t (omega (arith, whole_most, digits_most true p part))))

  after_mark : (a z : List ℕ) → unsigned ≡ a ++ m ∷ z → (eqb part 0 ≡ false) × (digits true p part ≡ z)
  after_mark a z e =
      let c = past_it m (whole_of whole) a z (digits_free m (whole_of whole) (no_digit mark) (whole_all whole thousand)) e in
      decimals_cut p m part c.0 z (no_digit mark) (rest_below p n) c.1

  unsigned_plus : (z : List ℕ) → unsigned ≡ 45 ∷ z → ⊥
  unsigned_plus z e = omega (arith, (whole_leads whole 45 (decimals_of p m part) z e).0)

  unsigned_leads : (b : ℕ) (z : List ℕ) → is_digit b ≡ true → unsigned ≡ 48 ∷ b ∷ z → ⊥
  unsigned_leads b z i e =
      let r = (whole_leads whole 48 (decimals_of p m part) (b ∷ z) e).1 refl in
      by_test (eqb part 0)
      (λ t. nil≢cons (rw t at r))
      (λ t. clash i (sym (ap is_digit (head-eq_of_cons-eq (rw t at r))) ∙ no_digit mark))

  sign_off : (minus other : Bool) (x : ℕ) (z : List ℕ) → (45 ≡ x → ⊥) → sign minus ++ unsigned ≡ sign other ++ x ∷ z → unsigned ≡ x ∷ z
  sign_off true true x z f e = tail-eq_of_cons-eq e
  sign_off true false x z f e = absurd (f (head-eq_of_cons-eq e))
  sign_off false true x z f e = absurd (unsigned_plus (x ∷ z) e)
  sign_off false false x z f e = e

  pub unsigned_neat : (minus : Bool) (v : ℤ) → (v ≡ pos 0 → minus ≡ false) → Neat mark (sign minus ++ unsigned) v
  unsigned_neat minus v f =
      let after : (a z : List ℕ) → sign minus ++ unsigned ≡ a ++ m ∷ z → (eqb part 0 ≡ false) × (digits true p part ≡ z) =
      λ a z e. let c = past_it m (sign minus) a z (sign_free mark minus) e in after_mark c.0 z c.1 in
      record {
        no_leading_zero = λ other b z i e. unsigned_leads b z i (sign_off minus other 48 (b ∷ z) (λ q. omega arith) e);
        no_ending_zero = λ a z e. digits_end p part z (rest_below p n) (after a (z ++ 48 ∷ []) e).1;
        no_bare_mark = λ a e. let r = after a [] e in omega (arith, digits_some p part (rest_below p n) r.0, ap length r.1);
        no_first_mark = λ other z e. omega (arith, (mark_low mark).0, (whole_leads whole m (decimals_of p m part) z (sign_off minus other m z (mark_low mark).1 e)).0);
        no_minus_zero = λ e z q. unsigned_plus z (rw (f e) at q);
      }

-- ---- a value that fits

pub fits_size : (kind : Kind) (v : ℤ) → fits kind v ≡ true → nat_abs v < 10 ^ (wholes_of kind + places kind)
fits_size K.Latitude v e = omega (arith, latitude_size v e)
fits_size K.Longitude v e = omega (arith, longitude v e, size_sides v, one_side v)
fits_size K.Target (pos n) e = omega (arith, leb-true n 999_999 (and_true (leb 0 n) (leb n 999_999) e).1)
fits_size K.Target (negsuc n) e = clash e refl

fits_in : (kind : Kind) (v : ℤ) → fits kind v ≡ true → is_in kind v ≡ true
fits_in K.Latitude v e = e
fits_in K.Longitude v e = e
fits_in K.Target v e = refl

fits_minus : (kind : Kind) (n : ℕ) → fits kind (negsuc n) ≡ true → takes_minus kind ≡ true
fits_minus K.Latitude n e = refl
fits_minus K.Longitude n e = refl
fits_minus K.Target n e = clash e refl

-- and what is read fits
pub number_fits : (kind : Kind) (mark : Mark) (s : List ℕ) (v : ℤ) → IsNumber kind mark s v → is_in kind v ≡ true → nat_abs v < 10 ^ (wholes + places kind) → fits kind v ≡ true
number_fits K.Latitude mark s v r e h = e
number_fits K.Longitude mark s v r e h = e
number_fits K.Target mark s (pos n) r e h = true_and (le-leb 0 n (omega arith)) (le-leb n 999_999 (omega arith))
number_fits K.Target mark s (negsuc n) r e h =
    by_test r.minus
    (λ t. clash (r.allowed t) refl)
    (λ t. absurd (omega (arith, ap below (rw t at r.value))))

-- how many bytes it takes at the most
abbrev pub most_of : Kind → ℕ
most_of kind = (if takes_minus kind then 1 else 0) + (wholes_of kind + 1 + places kind)

module _ (kind : Kind) (mark : Mark) where
  pub numeral_written : (v : ℤ) → fits kind v ≡ true → IsNumber kind mark (numeral_of kind mark v) v
  unfolding numeral_of
  numeral_written (pos n) e = theirs kind mark _ _ (unsigned_written kind mark n (fits_size kind (pos n) e) false (λ u. clash u refl))
  numeral_written (negsuc n) e = theirs kind mark _ _ (unsigned_written kind mark (suc n) (fits_size kind (negsuc n) e) true (λ u. fits_minus kind n e))

  -- what was written is read
  pub numeral_back : (v : ℤ) → fits kind v ≡ true → number_of kind mark (numeral_of kind mark v) ≡ Ok v
  numeral_back v e =
      let s = numeral_of kind mark v in
      written_read kind mark s (ours kind mark s v (numeral_written v e)) ∙ ranged_in kind v (fits_in kind v e)

  -- it holds digits, the named mark and a minus only
  pub numeral_free : (v : ℤ) → fits kind v ≡ true → (o : ℕ) → is_digit o ≡ false → eqb (named_byte mark) o ≡ false → eqb MINUS o ≡ false
      → holds o (numeral_of kind mark v) ≡ false
  unfolding numeral_of
  numeral_free (pos n) e o i b s = unsigned_free kind mark n (fits_size kind (pos n) e) o i b
  numeral_free (negsuc n) e o i b s = rw s (unsigned_free kind mark (suc n) (fits_size kind (negsuc n) e) o i b)

  pub numeral_most : (v : ℤ) → fits kind v ≡ true → length (numeral_of kind mark v) ≤ most_of kind
  unfolding numeral_of
  numeral_most (pos n) e = omega (arith, unsigned_most kind mark n (fits_size kind (pos n) e))
  numeral_most (negsuc n) e = rw (fits_minus kind n e) (omega (arith, unsigned_most kind mark (suc n) (fits_size kind (negsuc n) e)))

-- as long under either mark
pub numeral_either : (kind : Kind) (a b : Mark) (v : ℤ) → length (numeral_of kind a v) ≡ length (numeral_of kind b v)
unfolding numeral_of
numeral_either kind a b v =
    let p = places kind in
    let s = minus_of v in
    let w = whole_of (nat_abs v / 10 ^ p) in
    let r = nat_abs v % 10 ^ p in
    let d = digits true p r in
    by_test (eqb r 0)
    (λ t. rw t)
    (λ t.
    rw (t, length-append s (w ++ named_byte a ∷ d), length-append w (named_byte a ∷ d), length-append s (w ++ named_byte b ∷ d), length-append w (named_byte b ∷ d)))

-- ---- a number that keeps the rules is the one that is written of its value

module _ (kind : Kind) (mark : Mark) where
  signed_one : (minus : Bool) (n : ℕ) (v : ℤ) (s t : List ℕ) → v ≡ (if minus then neg_ℤ (pos n) else pos n) → s ≡ sign minus ++ t
      → t ≡ whole_of (n / 10 ^ places kind) ++ decimals_of (places kind) (named_byte mark) (n % 10 ^ places kind)
      → (v ≡ pos 0 → (z : List ℕ) → s ≡ 45 ∷ z → ⊥) → s ≡ numeral_of kind mark v
  unfolding numeral_of
  signed_one false n v s t e f g h = rw (e, f, g)
  signed_one true zero v s t e f g h = absurd (h e t f)
  signed_one true (suc n) v s t e f g h = rw (e, f, g)

  pub one_written : {s : List ℕ} {v : ℤ} → Written (takes_minus kind) (places kind) (named_byte mark) s v → Neat mark s v → s ≡ numeral_of kind mark v
  one_written {s} {v} r c =
      let p = places kind in
      let m = named_byte mark in
      let t = makes_digits r.makes in
      let d = decimals_back p m r.decimals (λ z e. c.no_ending_zero (sign r.minus ++ r.w) z (r.text ∙ rw e (sym (append_assoc (sign r.minus) r.w _)))) in
      let w : whole_of r.n ≡ r.w = rw (← t.1) (whole_back r.w t.0 r.some (omega (arith, r.few)) (λ b z i e. c.no_leading_zero r.minus b (z ++ r.rest) i (r.text ∙ rw e))) in
      let a = apart (10 ^ p) r.n r.k d.1 in
      signed_one r.minus (r.n * 10 ^ p + r.k) v s (r.w ++ r.rest) r.value r.text (rw (a.0, a.1, w, d.0)) c.no_minus_zero
