-- Digits as code works them out: as the first ones of seven, the next one first, and how many of them are written.
-- Assumes nothing.
use Rattle.std.specs.Prelude.{◌≡◌, refl, Bool, true, false, ◌&&◌, List, [], ◌∷◌, ◌++◌, ℕ, zero, suc, ◌+◌, ◌-◌, ◌*◌, ◌/◌, ◌%◌, ◌^◌, ◌≤◌, ◌<◌, leb, ltb, eqb, ℤ, pos, negsuc, nat_abs, length, set, if◌then◌else◌}
use Rattle.std.proofs.Common.{sym, ap, ap₂, ◌∙◌, zero-add, add-zero, add-suc, div-lt_iff_lt-mul, pow-suc, mod-lt, mul-lt-mul_of_pos_right, mul-le-mul_right, mul-div_cancel, div-add-mod', arith, eqb-true, ne_eqb, leb-true, leb-false, le-ltb, ltb-false, lit<, lit≤, length-append, pow-add}
use Rattle.std.proofs.Math.Nat.{pow-le-pow_right, one-le-pow, mod-mod_of_dvd, dvd-mul_left, mul-div-mul_right}
use Rattle.std.proofs.lemmas.Bool.{eqb-false, lt-leb}
use Rattle.std.proofs.lemmas.List.Edits.{sets}
use Rattle.std.proofs.Math.Seq.{length-sets}
use Rattle.std.specs.Int.Signed.{lt_z}
use Rattle.refusals.specs.Tests.{by_test, clash}
use Rattle.numbers.specs.declared.Mark.{Mark}
use Rattle.numbers.specs.declared.Kind.{Kind}
use Rattle.numbers.specs.declared.Kind.TheVariants as K
use Rattle.numerals.specs.declared.digits.Digits.{Digits}
use Rattle.numerals.specs.declared.digits.Parts.{Parts}
use Rattle.numbers.specs.Number.{named_byte, places}
use Rattle.numerals.specs.Numeral.{digits, width, whole_of, decimals_of, minus_of, numeral_of}
use Rattle.numerals.proofs.Stands.{sets_append}
use Rattle.numerals.proofs.NumeralLaws.{digits_full, digits_some, width_some, width_least, width_holds}
use Rattle.numerals.specs.NumeralSteps.{most, topmost, Lifted, Shorn, sign_text}
use Rattle.numerals.specs.PartsText.{marked_text, parts_text}

-- ---- a number lifted

-- by a factor c, as what it is cut by is
module _ (n d c : ℕ) (h : 0 < c) where
  lift_div : n * c / (d * c) ≡ n / d
  lift_div = mul-div-mul_right n d h

  lift_mod : n * c % (d * c) ≡ n % d * c
  lift_mod =
      let e : n / d * (d * c) + n * c % (d * c) ≡ n * c = rw lift_div at (div-add-mod' (n * c) (d * c)) in
      omega (arith, ap (λ (x : ℕ). x * c) (div-add-mod' n d))

-- digits are the first ones of seven
pub digits_topmost : (short : Bool) (k n : ℕ) → k ≤ most → n < 10 ^ k → digits short k n ≡ topmost (length (digits short k n)) (n * 10 ^ (most - k))
digits_topmost short zero n h l = refl
digits_topmost short (suc k) n h l =
    by_test (short && eqb n 0)
    (λ t. rw t)
    (λ t.
    let c = 10 ^ (most - suc k) in
    let r = n % 10 ^ k in
    let some : 0 < c = one-le-pow (most - suc k) 10 (lit< tt) in
    let up : k + (most - suc k) ≡ 6 = omega arith in
    let unit : 10 ^ k * c ≡ 1_000_000 = sym (pow-add 10 k (most - suc k)) ∙ ap (λ (x : ℕ). 10 ^ x) up in
    let less : most - k ≡ suc (most - suc k) = omega arith in
    let digit : n * c / 1_000_000 ≡ n / 10 ^ k = rw unit at (lift_div n (10 ^ k) c some) in
    let rest : n * c % 1_000_000 ≡ r * c = rw unit at (lift_mod n (10 ^ k) c some) in
    let lifted : r * c * 10 ≡ r * 10 ^ (most - k) = rw (less, pow-suc) (omega arith) in
    rw (t, digit, rest, lifted, ← digits_topmost short k r (omega arith) (mod-lt n (one-le-pow k 10 (lit< tt)))))

digits_stop : (k n : ℕ) → eqb n 0 ≡ true → digits true k n ≡ []
digits_stop zero n t = refl
digits_stop (suc k) n t = rw t

-- ---- how many are written

width_is : (n c : ℕ) → 1 ≤ c → n < 10 ^ most → n < 10 ^ c → (1 < c → 10 ^ (c - 1) ≤ n) → c ≡ width most n
width_is n c h b f g =
    let w = width_least most n c h f in
    by_test (leb c (width most n))
    (λ t. omega (arith, leb-true c (width most n) t))
    (λ t.
    let s = leb-false c (width most n) t in
    let p = pow-le-pow_right {n = 10} (lit< tt) {i = width most n} {j = c - 1} (omega arith) in
    absurd (omega (arith, g (omega (arith, width_some most n)), width_holds most n b)))

-- seven are enough where ten may stand
width_most : (n : ℕ) → n < 10 ^ most → width 10 n ≡ width most n
width_most n h = rw (lt-leb (10 ^ 9) n (omega arith), lt-leb (10 ^ 8) n (omega arith), lt-leb (10 ^ 7) n (omega arith))

module _ {n x c : ℕ} (h : Lifted n x c) where
  units : 10 ^ c * 10 ^ (most - c) ≡ 10_000_000
  units = let up : c + (most - c) ≡ most = omega (arith, h.few) in sym (pow-add 10 c (most - c)) ∙ ap (λ (y : ℕ). 10 ^ y) up

  unit_some : 0 < 10 ^ (most - c)
  unit_some = one-le-pow (most - c) 10 (lit< tt)

  lifted_more : 10_000_000 ≤ x → 10 ^ c ≤ n
  lifted_more l =
      by_test (leb (10 ^ c) n)
      (λ t. leb-true (10 ^ c) n t)
      (λ t. absurd (omega (arith, l, units, h.value, mul-lt-mul_of_pos_right (leb-false (10 ^ c) n t) unit_some)))

  pub lifted_less : 10_000_000 ≤ x → c < most
  lifted_less l =
      by_test (leb most c)
      (λ t. let e : c ≡ most = omega (arith, leb-true most c t, h.few) in let m : 10 ^ most ≤ n = rw e at (lifted_more l) in absurd (omega (arith, h.small)))
      (λ t. leb-false most c t)

  pub lifted_on : 10_000_000 ≤ x → Lifted n (x / 10) (c + 1)
  lifted_on l =
      let less : most - c ≡ suc (most - (c + 1)) = omega (arith, lifted_less l) in
      let e : x ≡ n * 10 ^ (most - (c + 1)) * 10 = h.value ∙ rw (less, pow-suc) (omega arith) in
      let back : c + 1 - 1 ≡ c = omega arith in
      record {
        some = omega arith;
        few = omega (arith, lifted_less l);
        value = rw e (mul-div_cancel (n * 10 ^ (most - (c + 1))) (lit< tt));
        needed = λ _. rw back (lifted_more l);
        small = h.small;
      }

  pub lifted_off : x < 10_000_000 → c ≡ width most n
  lifted_off l =
      width_is n c h.some h.small
      (by_test (leb (10 ^ c) n)
      (λ t. absurd (omega (arith, l, units, h.value, mul-le-mul_right (10 ^ (most - c)) (leb-true (10 ^ c) n t))))
      (λ t. leb-false (10 ^ c) n t))
      h.needed

pub lifted_once : (n : ℕ) → n < 10 ^ most → Lifted n (n * 1_000_000) 1
lifted_once n h = record { some = omega arith; few = omega arith; value = refl; needed = λ l. absurd (omega arith); small = h }

-- a zero at the end is left out
shorn_zero : (k q : ℕ) → q < 10 ^ k → digits true (suc k) (q * 10) ≡ digits true k q
shorn_zero zero q h = let z : q ≡ 0 = omega arith in rw z
shorn_zero (suc k) q h =
    by_test (eqb q 0)
    (λ t. let z = eqb-true q 0 t in rw z)
    (λ t.
    let some : eqb (q * 10) 0 ≡ false = ne_eqb (q * 10) 0 (λ e. eqb-false q 0 t (omega arith)) in
    let digit : q * 10 / 10 ^ suc k ≡ q / 10 ^ k = rw (pow-suc 10 k) (lift_div q (10 ^ k) 10 (lit< tt)) in
    let rest : q * 10 % 10 ^ suc k ≡ q % 10 ^ k * 10 = rw (pow-suc 10 k) (lift_mod q (10 ^ k) 10 (lit< tt)) in
    rw (t, some, digit, rest, shorn_zero k (q % 10 ^ k) (mod-lt q (one-le-pow k 10 (lit< tt)))))

shorn_zeros : (k j q : ℕ) → q < 10 ^ k → digits true (k + j) (q * 10 ^ j) ≡ digits true k q
shorn_zeros k zero q h = let e : q * 10 ^ 0 ≡ q = omega arith in rw (add-zero, e)
shorn_zeros k (suc j) q h =
    let e : q * 10 ^ suc j ≡ q * 10 ^ j * 10 = rw pow-suc (omega arith) in
    let below : q * 10 ^ j < 10 ^ (k + j) = rw (pow-add 10 k j) (mul-lt-mul_of_pos_right h (one-le-pow j 10 (lit< tt))) in
    rw (add-suc, e) (shorn_zero (k + j) (q * 10 ^ j) below ∙ shorn_zeros k j q h)

-- and nothing else is
shorn_full : (k n : ℕ) → (n % 10 ≡ 0 → ⊥) → length (digits true k n) ≡ k
shorn_full zero n h = refl
shorn_full (suc zero) n h = rw (ne_eqb n 0 (λ e. h (rw e)))
shorn_full (suc (suc k)) n h =
    let ten = dvd-mul_left 10 (10 ^ k) in
    let last : n % 10 ^ suc k % 10 ≡ n % 10 = mod-mod_of_dvd 10 n (rw (pow-suc 10 k) ten) in
    rw (ne_eqb n 0 (λ e. h (rw e))) (ap suc (shorn_full (suc k) (n % 10 ^ suc k) (λ e. h (sym last ∙ e))))

module _ {p m k n : ℕ} (h : Shorn p m k n) where
  pub shorn_on : 0 < k → n % 10 ≡ 0 → Shorn p m (k - 1) (n / 10)
  shorn_on l e = go k refl h.below h.same
    where
      go : (j : ℕ) → k ≡ j → n < 10 ^ j → length (digits true j n) ≡ length (digits true p m) → Shorn p m (k - 1) (n / 10)
      go zero z b s = absurd (omega arith)
      go (suc j) z b s =
          let back : k - 1 ≡ j = omega arith in
          let ten : n ≡ n / 10 * 10 = omega (arith, e) in
          let less : n / 10 < 10 ^ j = (div-lt_iff_lt-mul (lit< tt)).1 (rw pow-suc at b) in
          rw back (record { few = omega (arith, h.few); below = less; same = sym (ap length (ap (digits true (suc j)) ten ∙ shorn_zero j (n / 10) less)) ∙ s })

  pub shorn_off : (ltb 0 k && eqb (n % 10) 0) ≡ false → k ≡ length (digits true p m)
  shorn_off t =
      by_test (eqb (n % 10) 0)
      (λ u.
      let none : ltb 0 k ≡ false = by_test (ltb 0 k) (λ v. clash (rw (v, u)) t) (λ v. v) in
      let z : k ≡ 0 = omega (arith, ltb-false 0 k none) in
      z ∙ (rw z at h.same))
      (λ u. sym (shorn_full k n (eqb-false (n % 10) 0 u)) ∙ h.same)

pub topmost_length : (k n : ℕ) → length (topmost k n) ≡ k
topmost_length zero n = refl
topmost_length (suc k) n = ap suc (topmost_length k (n % 1_000_000 * 10))

pub parts_length : (p : Parts) (m : ℕ) → length (parts_text p m) ≡ length (sign_text p.minus) + p.whole.count + length (marked_text p.decimals m)
parts_length p m =
    let w = topmost p.whole.count p.whole.value in
    let d = marked_text p.decimals m in
    omega (arith, topmost_length p.whole.count p.whole.value, length-append (sign_text p.minus) (w ++ d), length-append w d)

-- one mark is as long as another
pub any_mark : (p : Parts) (m n : ℕ) → length (parts_text p m) ≡ length (parts_text p n)
any_mark p m n =
    let marked : length (marked_text p.decimals m) ≡ length (marked_text p.decimals n) =
    by_test (eqb p.decimals.count 0) (λ t. rw t) (λ t. rw t) in
    omega (arith, marked, parts_length p m, parts_length p n)

-- as code adds them up: the sign's byte s, and the k bytes of mark and decimals
pub parts_added : (p : Parts) (m s k : ℕ) → s ≡ (if p.minus then 1 else 0) → k ≡ (if eqb p.decimals.count 0 then 0 else 1 + p.decimals.count)
    → s + p.whole.count + k ≡ length (parts_text p m)
parts_added p m s k e f =
    let signed : s ≡ length (sign_text p.minus) = by_test p.minus (λ t. e ∙ rw t) (λ t. e ∙ rw t) in
    let marked : k ≡ length (marked_text p.decimals m) =
    by_test (eqb p.decimals.count 0) (λ t. f ∙ rw t) (λ t. f ∙ rw (t, topmost_length p.decimals.count p.decimals.value) (omega arith)) in
    omega (arith, signed, marked, parts_length p m)

-- a mark and its decimals have one byte more than these
pub marked_length : (d : Digits) (m : ℕ) → (d.count ≡ 0 → ⊥) → length (marked_text d m) ≡ suc d.count
marked_length d m h = rw (ne_eqb d.count 0 h, topmost_length d.count d.value)

pub marked_sets : (d : Digits) (m at : ℕ) (out : List ℕ) → (d.count ≡ 0 → ⊥) → sets (set out at m) (at + 1) (topmost d.count d.value) ≡ sets out at (marked_text d m)
marked_sets d m at out h = let e : at + 1 ≡ suc at = omega arith in rw (ne_eqb d.count 0 h, e)

-- one part after the other: they leave a, then b, then c
module _ (p : Parts) (m at : ℕ) (out a b c : List ℕ) (far : at ≡ length (sign_text p.minus)) (first : a ≡ sets out 0 (sign_text p.minus)) where
  pub after_sign : length a ≡ length out
  after_sign = ap length first ∙ length-sets out 0 (sign_text p.minus)

  module _ (second : b ≡ sets a at (topmost p.whole.count p.whole.value)) where
    pub after_whole : length b ≡ length out
    after_whole = ap length second ∙ length-sets a at (topmost p.whole.count p.whole.value) ∙ after_sign

    pub after_all : c ≡ sets b (at + p.whole.count) (marked_text p.decimals m) → c ≡ sets out 0 (parts_text p m)
    after_all third =
        let w = topmost p.whole.count p.whole.value in
        let d = marked_text p.decimals m in
        let count : p.whole.count ≡ length w = sym (topmost_length p.whole.count p.whole.value) in
        let joined : sets (sets a at w) (at + length w) d ≡ sets a at (w ++ d) = sym (sets_append w d a at) in
        let started : sets (sets out 0 (sign_text p.minus)) at (w ++ d) ≡ sets out 0 (parts_text p m) =
        rw far (sym (sets_append (sign_text p.minus) (w ++ d) out 0 ∙ rw zero-add)) in
        third ∙ ap₂ (λ (l : List ℕ) (i : ℕ). sets l (at + i) d) second count ∙ joined ∙ ap (λ (l : List ℕ). sets l at (w ++ d)) first ∙ started

-- n lifted by what is left of the seven digits is still one of seven
pub lifted_below : (k n : ℕ) → k ≤ most → n < 10 ^ k → n * 10 ^ (most - k) < 10 ^ most
lifted_below k n h l =
    let up : k + (most - k) ≡ most = omega arith in
    let units : 10 ^ k * 10 ^ (most - k) ≡ 10 ^ most = sym (pow-add 10 k (most - k)) ∙ ap (λ (x : ℕ). 10 ^ x) up in
    omega (arith, units, mul-lt-mul_of_pos_right l (one-le-pow (most - k) 10 (lit< tt)))

minus_text : (v : ℤ) (b : Bool) → b ≡ lt_z v (pos 0) → sign_text b ≡ minus_of v
minus_text (pos n) b e = rw (e, le-ltb n 0 (omega arith))
minus_text (negsuc n) b e = rw e

module _ (n c x : ℕ) (h : n < 10 ^ most) (e : c ≡ width most n) (f : x ≡ n * 10 ^ (most - c)) where
  whole_few : c ≤ most
  whole_few = omega (arith, e, width_least most n most (lit≤ tt) h)

  whole_text : topmost c x ≡ whole_of n
  whole_text = rw (f, e, width_most n h) (sym (digits_topmost false (width most n) n (rw e at whole_few) (width_holds most n h) ∙ rw (digits_full (width most n) n)))

module _ (p n c x : ℕ) (few : p ≤ most) (h : n < 10 ^ p) (e : c ≡ length (digits true p n)) (f : x ≡ n * 10 ^ (most - p)) where
  decimals_text : (m : ℕ) → (if eqb c 0 then [] else m ∷ topmost c x) ≡ decimals_of p m n
  decimals_text m =
      by_test (eqb n 0)
      (λ t. let none : c ≡ 0 = e ∙ ap length (digits_stop p n t) in rw (t, none))
      (λ t.
      let some : eqb c 0 ≡ false = ne_eqb c 0 (λ z. omega (arith, e, digits_some p n h t)) in
      rw (t, some) (ap (λ (l : List ℕ). m ∷ l) (rw (f, e) (sym (digits_topmost true p n few h)))))

pub places_few : (kind : Kind) → places kind ≤ most
places_few K.Latitude = omega arith
places_few K.Longitude = omega arith
places_few K.Target = omega arith

-- three decimals at the least leave no more than seven digits before the mark
left_below : (kind : Kind) (n : ℕ) → n < 2 ^ 32 → n / 10 ^ places kind < 10 ^ most
left_below K.Latitude n h = omega arith
left_below K.Longitude n h = omega arith
left_below K.Target n h = omega arith

-- from what code works out: n is the size of v, q what stands before the mark, and r what stands after it, lifted
module _ (kind : Kind) (n q r : ℕ) where
  pub left_small : n < 2 ^ 32 → q ≡ n / 10 ^ places kind → q < 10 ^ most
  left_small fits left = rw left (left_below kind n fits)

  abbrev rest : ℕ
  rest = n % 10 ^ places kind

  rest_small : rest < 10 ^ places kind
  rest_small = mod-lt n (one-le-pow (places kind) 10 (lit< tt))

  pub right_small : r ≡ rest * 10 ^ (most - places kind) → r < 10 ^ most
  right_small right = rw right (lifted_below (places kind) rest (places_few kind) rest_small)

  -- as many decimals are left of either
  shown_few : r ≡ rest * 10 ^ (most - places kind) → length (digits true most r) ≡ length (digits true (places kind) rest)
  shown_few right =
      let up : places kind + (most - places kind) ≡ most = omega (arith, places_few kind) in
      rw right (ap length (rw up at (shorn_zeros (places kind) (most - places kind) rest rest_small)))

  pub parted : (v : ℤ) (p : Parts) → nat_abs v ≡ n → n < 2 ^ 32 → q ≡ n / 10 ^ places kind → r ≡ rest * 10 ^ (most - places kind)
      → p.minus ≡ lt_z v (pos 0)
      → (p.whole.count ≡ width most q) × (p.whole.value ≡ q * 10 ^ (most - p.whole.count))
      → (p.decimals.count ≡ length (digits true most r)) × (p.decimals.value ≡ r)
      → (mark : Mark) → parts_text p (named_byte mark) ≡ numeral_of kind mark v
  unfolding numeral_of
  parted v p size fits left right minus w d mark =
      let h = left_small fits left in
      let count = d.0 ∙ shown_few right in
      let value = d.1 ∙ right in
      let decimals = decimals_text (places kind) rest _ _ (places_few kind) rest_small count value (named_byte mark) in
      rw (size, ← left, minus_text v _ minus, whole_text q _ _ h w.0 w.1, decimals)
