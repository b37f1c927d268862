-- Laws of the pieces of a text: how a search walks it, and how its pieces follow from the place of the first byte that parts them.
-- Assumes nothing.
use Rattle.std.specs.Prelude.{◌≡◌, refl, true, false, ◌&&◌, ◌||◌, List, [], ◌∷◌, ◌++◌, ℕ, zero, suc, ◌+◌, ◌-◌, ◌*◌, ◌≤◌, ◌<◌, T, eqb, ltb, length, take, drop, get_or, nat_eq, Bool, ◌⊎◌, Option, Some, None, unwrap_or, cond, not}
use Rattle.std.specs.List.{list_any, position_or_len}
use Rattle.std.specs.Simd.{first_chunks}
use lib.Pointwise.{pointwise}
use Rattle.std.proofs.Common.{inl, inr, sym, ap, subst, ◌∙◌, zero-add, add-zero, le_of_eq, add-one, arith, lt-ltb, le-ltb, ltb-true, ltb-false, eq-eqb, eqb-true, ne_eqb, length-drop, drop_of_length-le, drop-cons, take_all, drop-drop, mul-le-mul_right}
use Rattle.std.proofs.lemmas.List.Sums.{prefix_len-le-length}
use Rattle.std.proofs.Math.Dec.{leb-suc-suc}
use Rattle.std.proofs.Math.Seq.{split_at, take-suc}
use Rattle.refusals.specs.Tests.{by_test, clash, and_true, and_yes, and_no, or_yes, or_false}
use Rattle.numbers.specs.Pieces.{onto, split, index_of, holds, is_byte, same}
use Rattle.numbers.specs.PieceLaws.{onward, NoneBefore}

pub onward_drop : (s : List ℕ) (a : ℕ) → onward s a ≡ drop a s
onward_drop s a = take_all (length s - a) (drop a s) (le_of_eq (length-drop a s))

length_onward : (s : List ℕ) (a : ℕ) → length (onward s a) ≡ length s - a
length_onward s a = rw (onward_drop s a) (length-drop a s)

-- what stands after a byte of s is shorter
pub onward_less : (s : List ℕ) (i : ℕ) → i < length s → length (onward s (i + 1)) < length s
onward_less s i h = rw (length_onward s (i + 1)) (omega arith)

pub none_yet : (b : ℕ) (s : List ℕ) → NoneBefore b s 0
none_yet b s = record { inside = omega arith; onwards = zero-add _ }

module _ (b : ℕ) (s : List ℕ) (i : ℕ) (n : NoneBefore b s i) where
  pub index_end : length s ≤ i → i ≡ index_of b s
  index_end h =
      let q : i + index_of b (drop i s) ≡ i = rw (drop_of_length-le s h) (add-zero i) in
      sym q ∙ n.onwards

  module _ (h : i < length s) where
    pub index_hit : get_or s i 0 ≡ b → i ≡ index_of b s
    index_hit t =
        let q : i + index_of b (drop i s) ≡ i = rw (drop-cons s i 0 h) (simp (eq-eqb _ _ t) (add-zero i)) in
        sym q ∙ n.onwards

    pub index_miss : (get_or s i 0 ≡ b → ⊥) → NoneBefore b s (i + 1)
    index_miss t =
        let q : index_of b (drop i s) ≡ suc (index_of b (drop (suc i) s)) = rw (drop-cons s i 0 h) (simp (ne_eqb _ _ t)) in
        record { inside = omega arith; onwards = rw add-one (omega (arith, n.onwards)) }

pub index_within : (b : ℕ) (s : List ℕ) → index_of b s ≤ length s
index_within b [] = omega arith
index_within b (x ∷ s) =
    by_test (eqb x b)
    (λ t. rw t (omega arith))
    (λ t. rw t (omega (arith, index_within b s)))

-- b stands there
pub index_at : (b : ℕ) (s : List ℕ) → index_of b s < length s → get_or s (index_of b s) 0 ≡ b
index_at b [] h = absurd (omega arith)
index_at b (x ∷ s) h =
    by_test (eqb x b)
    (λ t. rw t (eqb-true x b t))
    (λ t.
    let k : suc (index_of b s) < suc (length s) = rw t at h in
    rw t (index_at b s (omega arith)))

-- and nowhere before
pub index_least : (b : ℕ) (s : List ℕ) (i : ℕ) → i < length s → get_or s i 0 ≡ b → index_of b s ≤ i
index_least b [] i h e = absurd (omega arith)
index_least b (x ∷ s) zero h e = rw (eq-eqb x b e) (omega arith)
index_least b (x ∷ s) (suc i) h e =
    by_test (eqb x b)
    (λ t. rw t (omega arith))
    (λ t. rw t (omega (arith, index_least b s i (omega arith) e)))

-- as std tells it
position_index : (b : ℕ) (s : List ℕ) → position_or_len (λ x. eqb x b) s ≡ index_of b s
position_index b [] = refl
position_index b (x ∷ s) = by_test (eqb x b) (λ t. rw t) (λ t. rw t (omega (arith, position_index b s)))

-- ---- whether it stands anywhere

-- it does where the place of the first is a place of the text
pub holds_index : (b : ℕ) (s : List ℕ) → holds b s ≡ ltb (index_of b s) (length s)
holds_index b [] = refl
holds_index b (x ∷ s) =
    by_test (eqb x b)
    (λ t. rw t (sym (lt-ltb 0 (suc (length s)) (omega arith))))
    (λ t. rw t (holds_index b s ∙ sym (leb-suc-suc (suc (index_of b s)) (length s))))

-- as std tells it
pub holds_any : (b : ℕ) (s : List ℕ) → list_any (λ y. nat_eq y b) s ≡ holds b s
holds_any b [] = refl
holds_any b (x ∷ s) = rw (holds_any b s)

pub holds_none : (b : ℕ) (s : List ℕ) → length s ≤ index_of b s → holds b s ≡ false
holds_none b s h = holds_index b s ∙ le-ltb _ _ h

pub held_within : (b : ℕ) (s : List ℕ) → holds b s ≡ true → index_of b s < length s
held_within b s e = ltb-true _ _ (sym (holds_index b s) ∙ e)

pub none_held : (b : ℕ) (s : List ℕ) → holds b s ≡ false → length s ≤ index_of b s
none_held b s e = ltb-false _ _ (sym (holds_index b s) ∙ e)

pub holds_append : (b : ℕ) (s t : List ℕ) → holds b (s ++ t) ≡ holds b s || holds b t
holds_append b [] t = refl
holds_append b (x ∷ s) t =
    by_test (eqb x b)
    (λ e. rw e)
    (λ e. rw e (holds_append b s t))

or_not : (t : Bool) → t || false ≡ t
or_not true = refl
or_not false = refl

-- one byte more, as a loop goes on
pub holds_more : (b : ℕ) (s : List ℕ) (i : ℕ) → i < length s → holds b (take (i + 1) s) ≡ holds b (take i s) || eqb (get_or s i 0) b
holds_more b s i h =
    rw (add-one, take-suc s i 0 h, holds_append b (take i s) (get_or s i 0 ∷ []))
    (ap (λ (t : Bool). holds b (take i s) || t) (or_not (eqb (get_or s i 0) b)))

-- a text that has b, cut at its first
pub first_cut : (b i : ℕ) (s : List ℕ) → i ≡ index_of b s → i < length s → s ≡ take i s ++ b ∷ drop (suc i) s
first_cut b i s e h = split_at s i 0 h ∙ ap (λ (x : ℕ). take i s ++ x ∷ drop (suc i) s) (rw e (index_at b s (rw e at h)))

-- wherever it stands
pub holds_there : (b : ℕ) (a z : List ℕ) → holds b (a ++ b ∷ z) ≡ true
holds_there b a z = holds_append b a (b ∷ z) ∙ rw (eq-eqb b b refl) (or_yes (holds b a))

-- and only if it does
pub holds_cut : (b : ℕ) (s : List ℕ) → holds b s ≡ true → (a : List ℕ) × (z : List ℕ) × (s ≡ a ++ b ∷ z)
holds_cut b s e =
    let i = index_of b s in
    (take i s, drop (suc i) s, first_cut b i s refl (held_within b s e))

-- none among the next k
index_skip : (b k : ℕ) (s : List ℕ) → k ≤ length s → holds b (take k s) ≡ false → index_of b s ≡ k + index_of b (drop k s)
index_skip b zero s h e = sym (zero-add _)
index_skip b (suc k) [] h e = absurd (omega arith)
index_skip b (suc k) (x ∷ s) h e =
    let p = or_false (eqb x b) (holds b (take k s)) e in
    rw p.0 (omega (arith, index_skip b k s (omega arith) p.1))

-- as many strides as stand before the first that has b
module _ (b n : ℕ) where
  none_of : 0 * n ≡ 0
  none_of = omega arith

  strides_skip : (k : ℕ) (s : List ℕ) → k * n ≤ length s
      → let p = position_or_len (holds b) (first_chunks n k s) in (p ≤ k) × (index_of b s ≡ p * n + index_of b (drop (p * n) s))
  strides_skip zero s h = (omega arith, rw none_of (sym (zero-add _)))
  strides_skip (suc k) s h =
      by_test (holds b (take n s))
      (λ t. rw (t, none_of) (omega arith, sym (zero-add _)))
      (λ t.
      let s' = drop n s in
      let r = strides_skip k s' (omega (arith, h, length-drop n s)) in
      let p = position_or_len (holds b) (first_chunks n k s') in
      let z : (1 + p) * n ≡ n + p * n = omega arith in
      rw t (omega (arith, r.0), rw (z, ← drop-drop (p * n) n s) (omega (arith, r.1, index_skip b n s (omega (arith, h)) t))))

  pub skipped : (k : ℕ) (s : List ℕ) → k * n ≤ length s → NoneBefore b s (position_or_len (holds b) (first_chunks n k s) * n)
  skipped k s h =
      let r = strides_skip k s h in
      record { inside = omega (arith, mul-le-mul_right n r.0, h); onwards = sym r.1 }

-- what std's search answers, with the length where it finds none
pub position_or : {X : Type 0} (test : X → Bool) (s : List X) (o : Option ℕ)
    → o ≡ cond (ltb (position_or_len test s) (length s)) (Some (position_or_len test s)) None → unwrap_or o (length s) ≡ position_or_len test s
position_or test s o e =
    by_test (ltb (position_or_len test s) (length s))
    (λ t. rw (e, t))
    (λ t. rw (e, t) (omega (arith, ltb-false _ _ t, prefix_len-le-length (λ x. not (test x)) s)))

-- the first b behind a place that none stands before
pub found_from : (b : ℕ) (s : List ℕ) (from : ℕ) → NoneBefore b s from → from + position_or_len (λ x. eqb x b) (onward s from) ≡ index_of b s
found_from b s from n = rw (position_index b (onward s from), onward_drop s from) n.onwards

-- ---- the pieces

split_first : (b : ℕ) (s : List ℕ) → index_of b s < length s → split b s ≡ take (index_of b s) s ∷ split b (drop (suc (index_of b s)) s)
split_first b [] h = absurd (omega arith)
split_first b (x ∷ s) h =
    by_test (eqb x b)
    (λ t. simp t)
    (λ t.
    let k : suc (index_of b s) < suc (length s) = rw t at h in
    simp t (ap (onto x) (split_first b s (omega arith))))

-- a text that has b: the piece before its first, then the pieces of what stands after it
pub split_cut : (b i : ℕ) (s : List ℕ) → i ≡ index_of b s → i < length s → split b s ≡ take i s ∷ split b (onward s (i + 1))
split_cut b i s e h = rw (onward_drop s (i + 1), e, add-one) (split_first b s (omega arith))

-- a text without b is its one piece
pub split_last : (b : ℕ) (s : List ℕ) → length s ≤ index_of b s → split b s ≡ s ∷ []
split_last b [] h = refl
split_last b (x ∷ s) h =
    by_test (eqb x b)
    (λ t. let k : suc (length s) ≤ 0 = rw t at h in absurd (omega arith))
    (λ t.
    let k : suc (length s) ≤ suc (index_of b s) = rw t at h in
    simp t (ap (onto x) (split_last b s (omega arith))))

onto_some : (x : ℕ) (ps : List (List ℕ)) → 0 < length (onto x ps)
onto_some x [] = omega arith
onto_some x (p ∷ ps) = omega arith

pub split_some : (b : ℕ) (s : List ℕ) → 0 < length (split b s)
split_some b [] = omega arith
split_some b (x ∷ s) =
    by_test (eqb x b)
    (λ t. rw t (omega arith))
    (λ t. rw t (onto_some x (split b s)))

-- ---- tests of a piece

pub byte_one : (b : ℕ) (s : List ℕ) → length s ≡ 1 → is_byte b s ≡ eqb (get_or s 0 0) b
byte_one b [] h = absurd (omega arith)
byte_one b (x ∷ []) h = and_yes (eqb x b)
byte_one b (x ∷ (y ∷ s)) h = absurd (omega arith)

pub byte_other : (b : ℕ) (s : List ℕ) → (length s ≡ 1 → ⊥) → is_byte b s ≡ false
byte_other b [] h = refl
byte_other b (x ∷ []) h = absurd (h refl)
byte_other b (x ∷ (y ∷ s)) h = and_no (eqb x b) false refl

-- the first byte of a text
pub first_none : (b : ℕ) (s : List ℕ) → length s ≡ 0 → is_byte b (take 1 s) ≡ false
first_none b [] h = refl
first_none b (x ∷ s) h = absurd (omega arith)

pub first_byte : (b : ℕ) (s : List ℕ) → (length s ≡ 0 → ⊥) → is_byte b (take 1 s) ≡ eqb (get_or s 0 0) b
first_byte b [] h = absurd (h refl)
first_byte b (x ∷ s) h = and_yes (eqb x b)

-- a text that b stands first in
pub first_is : (b : ℕ) (s : List ℕ) → is_byte b (take 1 s) ≡ true → s ≡ b ∷ drop 1 s
first_is b [] e = absurd (subst T (sym e) tt)
first_is b (x ∷ s) e = ap (λ (y : ℕ). y ∷ s) (eqb-true x b (sym (and_yes (eqb x b)) ∙ e))

-- ---- two texts

pub same_self : (s : List ℕ) → same s s ≡ true
same_self [] = refl
same_self (x ∷ s) = rw (eq-eqb x x refl) (same_self s)

pub same_is : (s t : List ℕ) → same s t ≡ true → s ≡ t
same_is [] [] e = refl
same_is [] (y ∷ t) e = clash e refl
same_is (x ∷ s) [] e = clash e refl
same_is (x ∷ s) (y ∷ t) e =
    let p = and_true (eqb x y) (same s t) e in
    let a = eqb-true x y p.0 in
    let b = same_is s t p.1 in
    cc

module _ (a b : List ℕ) (i : ℕ) (ha : i < length a) (hb : i < length b) where
  same_at : same (drop i a) (drop i b) ≡ (eqb (get_or a i 0) (get_or b i 0) && same (drop (suc i) a) (drop (suc i) b))
  same_at = rw (drop-cons a i 0 ha, drop-cons b i 0 hb)

  pub same_next : get_or a i 0 ≡ get_or b i 0 → same (drop (i + 1) a) (drop (i + 1) b) ≡ same (drop i a) (drop i b)
  same_next e = rw add-one (sym (same_at ∙ rw (eq-eqb _ _ e)))

  pub same_stop : (get_or a i 0 ≡ get_or b i 0 → ⊥) → same (drop i a) (drop i b) ≡ false
  same_stop e = same_at ∙ rw (ne_eqb _ _ e)

pub same_pointwise : (a b : List ℕ) → pointwise nat_eq a b ≡ same a b
same_pointwise [] [] = refl
same_pointwise [] (y ∷ t) = refl
same_pointwise (x ∷ s) [] = refl
same_pointwise (x ∷ s) (y ∷ t) = rw (same_pointwise s t)

-- texts of one length differ at some place
differ : (a b : List ℕ) → length a ≡ length b → same a b ≡ false → (i : ℕ) × (i < length a) × (get_or a i 0 ≡ get_or b i 0 → ⊥)
differ [] [] h e = clash refl e
differ [] (y ∷ t) h e = absurd (omega arith)
differ (x ∷ s) [] h e = absurd (omega arith)
differ (x ∷ s) (y ∷ t) h e =
    by_test (eqb x y)
    (λ q. let r = differ s t (omega arith) (rw q at e) in (suc r.0, omega (arith, r.1), r.2))
    (λ q. (0, omega arith, λ p. clash (eq-eqb x y p) q))

-- or are one text
pub same_or_differ : (a b : List ℕ) → length a ≡ length b
    → ((same a b ≡ true) × (a ≡ b)) ⊎ ((same a b ≡ false) × (i : ℕ) × (i < length a) × (get_or a i 0 ≡ get_or b i 0 → ⊥))
same_or_differ a b h =
    by_test (same a b)
    (λ t. inl (t, same_is a b t))
    (λ t. let r = differ a b h t in inr (t, r.0, r.1, r.2))

pub same_end : (a b : List ℕ) (i : ℕ) → length a ≤ i → length b ≤ i → same (drop i a) (drop i b) ≡ true
same_end a b i p q = rw (drop_of_length-le a p, drop_of_length-le b q)

pub same_long : (a b : List ℕ) → (length a ≡ length b → ⊥) → same a b ≡ false
same_long [] [] h = absurd (h refl)
same_long [] (y ∷ t) h = refl
same_long (x ∷ s) [] h = refl
same_long (x ∷ s) (y ∷ t) h = and_no (eqb x y) (same s t) (same_long s t (λ e. h (ap suc e)))
