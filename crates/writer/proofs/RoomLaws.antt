-- Laws of the length that is told without writing: what the code takes from it.
-- Assumes nothing.
use Rattle.std.specs.Prelude.{◌≡◌, refl, List, ℕ, ℤ, length, Option, Ok, Err}
use Rattle.std.proofs.Common.{arith}
use Rattle.refusals.specs.declared.Refusal.{Refusal}
use Rattle.refusals.specs.Choice.{Check, fine, answered}
use Rattle.numbers.specs.declared.Mark.{Mark}
use Rattle.numerals.specs.Output.{writing_of}
use Rattle.numerals.proofs.OutputLaws.{text_refused}
use Rattle.writer.specs.RouteText.{route_text, text_refusal}
use Rattle.writer.specs.Room.{size_of}

module _ (mark : Mark) (target : Option ℕ) (b : List ℤ) where
  abbrev text : List ℕ
  text = route_text mark target b

  pub size_refused : {r : Refusal} → text_refusal target b ≡ Err r → size_of mark target b ≡ Err r
  unfolding size_of
  size_refused e = rw e

  pub size_told : text_refusal target b ≡ fine → size_of mark target b ≡ Ok (length text)
  unfolding size_of
  size_told e = rw e

  -- what is answered beside a refusal of the text, and without one
  module _ {A : Type 0} (v : A) where
    pub refused_text : {r : Refusal} (place : ℕ) (out : List ℕ) → answered (text_refusal target b) v ≡ Err r
        → writing_of (text_refusal target b) text place out ≡ Err r
    refused_text {r} place out = go (text_refusal target b)
      where
        go : (c : Check) → answered c v ≡ Err r → writing_of c text place out ≡ Err r
        go (Ok x) e = grind arith
        go (Err q) e = let f : q ≡ r = cc in rw (text_refused q text place out, f)

    pub told_text : {w : A} → answered (text_refusal target b) v ≡ Ok w → (text_refusal target b ≡ fine) × (w ≡ v)
    told_text {w} = go (text_refusal target b)
      where
        go : (c : Check) → answered c v ≡ Ok w → (c ≡ fine) × (w ≡ v)
        go (Ok x) e = (refl, cc)
        go (Err r) e = grind arith

  -- a number of bytes is the text's, which nothing refuses
  pub told_size : {k : ℕ} → size_of mark target b ≡ Ok k → (text_refusal target b ≡ fine) × (k ≡ length text)
  unfolding size_of
  told_size e = told_text (length text) e

  -- what refuses it refuses its writing
  pub refused_size : {r : Refusal} (place : ℕ) (out : List ℕ) → size_of mark target b ≡ Err r
      → writing_of (text_refusal target b) text place out ≡ Err r
  unfolding size_of
  refused_size place out e = refused_text (length text) place out e
