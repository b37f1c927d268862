-- Laws of writing forwards into a lent output: bytes one after the other, and those that are written into a part of it.
-- Assumes nothing.
use Rattle.std.specs.Prelude.{◌≡◌, refl, List, [], ◌∷◌, ◌++◌, ℕ, suc, ◌+◌, ◌-◌, ◌≤◌, length, take, drop, set}
use Rattle.std.proofs.Common.{sym, ap, ◌∙◌, append-nil, append_assoc, zero-add, add-zero, add-suc, suc-add, le_of_eq, arith, length-append, length-drop, length-take-le, drop_of_length-le, take_all, drop-drop}
use Rattle.std.proofs.lemmas.List.Edits.{sets, sets-eq}
use Rattle.std.proofs.Math.Seq.{length-sets}

-- ---- stores

pub sets_append : (vs ws b : List ℕ) (i : ℕ) → sets b i (vs ++ ws) ≡ sets (sets b i vs) (i + length vs) ws
sets_append [] ws b i = rw add-zero
sets_append (v ∷ vs) ws b i = rw (add-suc, ← suc-add) (sets_append vs ws (set b i v) (suc i))

-- what a part from a on leaves in the whole, once it is back
abbrev pub put_back : ℕ → List ℕ → List ℕ → List ℕ
put_back a l part = take a l ++ (part ++ drop (length l - a) (drop a l))

-- what `&mut l[a..]` lends
abbrev pub lent : ℕ → List ℕ → List ℕ
lent a l = take (length l - a) (drop a l)

lent_drop : (a : ℕ) (l : List ℕ) → lent a l ≡ drop a l
lent_drop a l = take_all (length l - a) (drop a l) (le_of_eq (length-drop a l))

pub lent_length : (a : ℕ) (l : List ℕ) → length (lent a l) ≡ length l - a
lent_length a l = rw (lent_drop a l) (length-drop a l)

-- stores into the lent part are stores into the whole
pub sets_lent : (a : ℕ) (l vs : List ℕ) → a + length vs ≤ length l → put_back a l (sets (lent a l) 0 vs) ≡ sets l a vs
sets_lent a l vs h =
    let d = drop a l in
    let none : drop (length l - a) d ≡ [] = drop_of_length-le d (le_of_eq (length-drop a l)) in
    let part : sets d 0 vs ≡ vs ++ drop (length vs) d = sets-eq vs d 0 (omega (arith, length-drop a l)) ∙ rw zero-add in
    rw (lent_drop a l, none, append-nil (sets d 0 vs), part, drop-drop (length vs) a l)
    (sym (append_assoc (take a l) vs (drop (a + length vs) l)) ∙ sym (sets-eq vs l a h))

-- stores into all of the lent part `&mut l[a..a + n]` are stores into the whole
pub sets_part : (a n : ℕ) (l vs part : List ℕ) → a + n ≤ length l → length vs ≡ n → part ≡ sets (take n (drop a l)) 0 vs
    → take a l ++ (part ++ drop n (drop a l)) ≡ sets l a vs
sets_part a n l vs part h e f =
    let middle = take n (drop a l) in
    let long : length middle ≡ n = length-take-le n (drop a l) (omega (arith, length-drop a l)) in
    let none : drop (0 + length vs) middle ≡ [] = drop_of_length-le middle (omega (arith, long)) in
    let all : part ≡ vs = f ∙ sets-eq vs middle 0 (omega (arith, long)) ∙ rw none (append-nil vs) in
    rw (all, drop-drop n a l)
    (sym (append_assoc (take a l) vs (drop (a + n) l)) ∙ ap (λ (x : ℕ). take a l ++ vs ++ drop (a + x) l) (sym e) ∙
    sym (sets-eq vs l a (omega arith)))

-- ---- writing forwards

-- the bytes ws stand in the output from a place on, and nothing else in it changed; `at` is the next place
pub record Stands (out : List ℕ) (from : ℕ) (ws : List ℕ) (at : ℕ) (now : List ℕ) : Type 0 where
  pub now_is : now ≡ sets out from ws
  pub at_is : at ≡ from + length ws

pub stands_none : (out : List ℕ) (from : ℕ) → Stands out from [] from out
stands_none out from = record { now_is = refl; at_is = sym (add-zero from) }

module _ {out ws : List ℕ} {from at : ℕ} {now : List ℕ} (w : Stands out from ws at now) where
  pub stands_length : length now ≡ length out
  stands_length = ap length w.now_is ∙ length-sets out from ws

  -- one byte more
  pub stands_byte : (b : ℕ) → Stands out from (ws ++ b ∷ []) (at + 1) (set now at b)
  stands_byte b =
      record {
        now_is = rw (w.now_is, w.at_is) (sym (sets_append ws (b ∷ []) out from));
        at_is = rw (length-append ws (b ∷ [])) (omega (arith, w.at_is));
      }

  -- the bytes that a callee wrote from there on
  pub stands_more : (ds : List ℕ) {part : List ℕ} {n : ℕ} → (n ≡ at + length ds) × (part ≡ sets now at ds) → Stands out from (ws ++ ds) n part
  stands_more ds e =
      record {
        now_is = e.1 ∙ rw (w.now_is, w.at_is) (sym (sets_append ws ds out from));
        at_is = rw (length-append ws ds) (omega (arith, e.0, w.at_is));
      }

  pub stands_as : (vs : List ℕ) → ws ≡ vs → Stands out from vs at now
  stands_as vs e = record { now_is = rw (← e) w.now_is; at_is = rw (← e) w.at_is }

  pub stands_all : (at ≡ from + length ws) × (now ≡ sets out from ws)
  stands_all = (w.at_is, w.now_is)
