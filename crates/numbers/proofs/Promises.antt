-- What the reading of a number promises of every field, in the paper's numbers; docs/PROMISES.md names these theorems.
-- Assumes nothing.
use Rattle.std.specs.Prelude.{◌≡◌, refl, true, false, ◌⊎◌, List, ◌∷◌, ◌++◌, ℕ, ℤ, pos, Result, Ok, Err}
use Rattle.std.proofs.Common.{sym, ap, ◌∙◌, inl, inr, arith}
use Rattle.refusals.specs.declared.Refusal.{Refusal}
use Rattle.refusals.specs.Refusal.{number}
use Rattle.refusals.specs.Tests.{by_test, clash}
use Rattle.numbers.specs.declared.Mark.{Mark}
use Rattle.numbers.specs.declared.Kind.{Kind}
use Rattle.numbers.proofs.PieceLaws.{holds_there, holds_cut}
use Rattle.numbers.specs.Number.{other_byte, ranged, number_of}
use Rattle.numbers.specs.NumberLaws.{made_of}
use Rattle.numbers.proofs.NumberLaws.{plain_unmarked, number_cases, refused_value}
use Rattle.numbers.specs.Paper.{NumberPaper, number_paper}
use Rattle.numbers.specs.Written.{IsNumber, is_in, out_of}
use Rattle.numbers.proofs.WrittenLaws.{ours, theirs, ranged_in, ranged_out, written_read, read_written, value_one, number_some, not_4, not_5}

-- what the paper says of a field
abbrev pub paper : Kind → Mark → List ℕ → NumberPaper
paper kind mark s = number_paper (number_of kind mark s)

-- "A refusal gives zero in every value beside its number"
abbrev pub no : ℕ → NumberPaper
no n = record { refusal = n; value = pos 0 }

-- ---- an answer from its number

abbrev number_in : Result ℤ Refusal → ℕ
number_in x = (number_paper x).refusal

-- 0 is the number of no refusal
pub accepted : (x : Result ℤ Refusal) → (number_paper x).refusal ≡ 0 → x ≡ Ok (number_paper x).value
accepted (Ok v) e = refl
accepted (Err r) e = absurd (number_some r e)

refused : (x : Result ℤ Refusal) → ((number_paper x).refusal ≡ 0 → ⊥) → (r : Refusal) × (x ≡ Err r) × ((number_paper x).refusal ≡ number r)
refused (Ok v) f = absurd (f refl)
refused (Err r) f = (r, refl, refl)

module _ (kind : Kind) (mark : Mark) where
  abbrev at : List ℕ → Result ℤ Refusal
  at s = number_of kind mark s

  refused_as : (s : List ℕ) {n : ℕ} → (paper kind mark s).refusal ≡ n → (n ≡ 0 → ⊥) → (r : Refusal) × (at s ≡ Err r) × (number r ≡ n)
  refused_as s e f = let r = refused (at s) (λ z. f (sym e ∙ z)) in (r.0, r.1, sym r.2 ∙ e)

  -- ---- what is read

  -- every number of its kind is read, exactly
  pub number_reads : (s : List ℕ) (v : ℤ) → IsNumber kind mark s v → is_in kind v ≡ true → paper kind mark s ≡ record { refusal = 0; value = v }
  number_reads s v r e = ap number_paper (written_read kind mark s (ours kind mark s v r) ∙ ranged_in kind v e)

  -- what is out of range gives no value beside its refusal
  refused_range : (s : List ℕ) (v : ℤ) → at s ≡ ranged kind v → is_in kind v ≡ false → paper kind mark s ≡ no (out_of kind)
  refused_range s v q e = let r = ranged_out kind v e in ap number_paper (q ∙ r.1) ∙ ap no r.2

  -- or refused by its range
  pub out_of_range : (s : List ℕ) (v : ℤ) → IsNumber kind mark s v → is_in kind v ≡ false → paper kind mark s ≡ no (out_of kind)
  out_of_range s v r = refused_range s v (written_read kind mark s (ours kind mark s v r))

  -- nothing else is read, and nothing out of range
  value_tells : (s : List ℕ) (v : ℤ) → at s ≡ Ok v → IsNumber kind mark s v × (is_in kind v ≡ true)
  value_tells s v e =
      number_cases kind mark s
      (λ h q. refused_value (sym q ∙ e))
      (λ h u q. refused_value (sym q ∙ e))
      (λ u q.
      let made = made_of kind mark s in
      by_test (is_in kind made)
      (λ t.
      let z : made ≡ v = value_one (sym (ranged_in kind made t) ∙ sym q ∙ e) in
      (theirs kind mark s v (rw z at (read_written kind mark s u)), sym (ap (is_in kind) z) ∙ t))
      (λ t. refused_value (sym (ranged_out kind made t).1 ∙ sym q ∙ e)))

  pub number_only : (s : List ℕ) → (paper kind mark s).refusal ≡ 0 → IsNumber kind mark s (paper kind mark s).value
  number_only s e = (value_tells s _ (accepted (at s) e)).0

  pub value_in_range : (s : List ℕ) → (paper kind mark s).refusal ≡ 0 → is_in kind (paper kind mark s).value ≡ true
  value_in_range s e = (value_tells s _ (accepted (at s) e)).1

  -- ---- what is refused

  -- 6 and 7 come only of a number
  pub range_only : (s : List ℕ) → ((paper kind mark s).refusal ≡ 0 → ⊥) → (paper kind mark s).refusal ≡ out_of kind
      → (v : ℤ) × IsNumber kind mark s v × (is_in kind v ≡ false)
  range_only s f g =
      number_cases kind mark s
      (λ h q. absurd (not_5 kind (sym g ∙ ap number_in q)))
      (λ h u q. absurd (not_4 kind (sym g ∙ ap number_in q)))
      (λ u q.
      let made = made_of kind mark s in
      by_test (is_in kind made)
      (λ t. absurd (f (ap number_in (q ∙ ranged_in kind made t))))
      (λ t. (made, theirs kind mark s made (read_written kind mark s u), t)))

  -- "a number holds the mark that the header did not name": 5, whatever else it holds
  pub other_mark : (a z : List ℕ) → paper kind mark (a ++ other_byte mark ∷ z) ≡ no 5
  other_mark a z =
      let s = a ++ other_byte mark ∷ z in
      let held = holds_there (other_byte mark) a z in
      number_cases kind mark s
      (λ h q. ap number_paper q)
      (λ h u q. clash held h)
      (λ u q. clash held (plain_unmarked kind mark s u))

  -- and only then
  pub other_mark_only : (s : List ℕ) → (paper kind mark s).refusal ≡ 5 → (a : List ℕ) × (z : List ℕ) × (s ≡ a ++ other_byte mark ∷ z)
  other_mark_only s g =
      number_cases kind mark s
      (λ h q. holds_cut (other_byte mark) s h)
      (λ h u q. let z : 5 ≡ 4 = sym g ∙ ap number_in q in absurd (omega arith))
      (λ u q.
      let made = made_of kind mark s in
      by_test (is_in kind made)
      (λ t. let z : 5 ≡ 0 = sym g ∙ ap number_in (q ∙ ranged_in kind made t) in absurd (omega arith))
      (λ t. absurd (not_5 kind (sym (ap (λ (x : NumberPaper). x.refusal) (refused_range s made q t)) ∙ g))))

  -- "a number breaks its rule": what is no number and does not hold the other mark is 4
  pub no_number : (s : List ℕ) → ((a z : List ℕ) → s ≡ a ++ other_byte mark ∷ z → ⊥) → ((v : ℤ) → IsNumber kind mark s v → ⊥) → paper kind mark s ≡ no 4
  no_number s other unwritten =
      number_cases kind mark s
      (λ h q. let r = other_mark_only s (ap number_in q) in absurd (other r.0 r.1 r.2))
      (λ h u q. ap number_paper q)
      (λ u q. absurd (unwritten _ (theirs kind mark s _ (read_written kind mark s u))))

  -- no other number is sent back, and no value beside one
  pub refused_with : (s : List ℕ) → ((paper kind mark s).refusal ≡ 0 → ⊥)
      → (paper kind mark s ≡ no 5) ⊎ ((paper kind mark s ≡ no 4) ⊎ (paper kind mark s ≡ no (out_of kind)))
  refused_with s f =
      number_cases kind mark s
      (λ h q. inl (ap number_paper q))
      (λ h u q. inr (inl (ap number_paper q)))
      (λ u q.
      let made = made_of kind mark s in
      by_test (is_in kind made)
      (λ t. absurd (f (ap number_in (q ∙ ranged_in kind made t))))
      (λ t. inr (inr (refused_range s made q t))))
