-- What the writing of a number promises of every value that its field can say, in the paper's numbers; docs/PROMISES.md names these theorems.
-- Assumes nothing.
use Rattle.std.specs.Prelude.{◌≡◌, refl, List, ℕ, suc, ℤ, pos, negsuc}
use Rattle.std.proofs.Math.Path.{ap}
use Rattle.std.proofs.Math.Bool.{true, false}
use Rattle.std.proofs.Common.{arith}
use Rattle.std.proofs.Math.IntN.{nat_abs}
use Rattle.numbers.specs.declared.Mark.{Mark}
use Rattle.numbers.specs.declared.Kind.{Kind}
use Rattle.numbers.specs.Number.{number_of}
use Rattle.numbers.proofs.NumberLaws.{number_size}
use Rattle.numbers.specs.Paper.{NumberPaper, number_paper}
use Rattle.numbers.proofs.WrittenLaws.{ours}
use Rattle.numbers.proofs.Promises.{paper, accepted, number_only, value_in_range}
use Rattle.numerals.specs.Numeral.{numeral_of}
use Rattle.numerals.specs.OneWay.{fits, Neat}
use Rattle.numerals.proofs.OneWayLaws.{unsigned_neat, fits_size, number_fits, numeral_back, one_written}

module _ (kind : Kind) (mark : Mark) where
  -- the rules of "Each number is written one way" are kept
  pub numeral_neat : (v : ℤ) → fits kind v ≡ true → Neat mark (numeral_of kind mark v) v
  unfolding numeral_of
  numeral_neat (pos n) e = unsigned_neat kind mark n (fits_size kind (pos n) e) false (pos n) (λ u. refl)
  numeral_neat (negsuc n) e = unsigned_neat kind mark (suc n) (fits_size kind (negsuc n) e) true (negsuc n) (λ u. absurd (omega (arith, ap nat_abs u)))

  -- what is written of a value reads as that value
  pub numeral_reads : (v : ℤ) → fits kind v ≡ true → paper kind mark (numeral_of kind mark v) ≡ record { refusal = 0; value = v }
  numeral_reads v e = ap number_paper (numeral_back kind mark v e)

  -- no other value is read
  pub value_fits : (s : List ℕ) → (paper kind mark s).refusal ≡ 0 → fits kind (paper kind mark s).value ≡ true
  value_fits s e =
      let q = accepted (number_of kind mark s) e in
      number_fits kind mark s _ (number_only kind mark s e) (value_in_range kind mark s e) (number_size kind mark s _ q)

  -- and no other text that keeps the rules reads as that value
  pub one_way : (s : List ℕ) (v : ℤ) → paper kind mark s ≡ record { refusal = 0; value = v } → Neat mark s v → s ≡ numeral_of kind mark v
  one_way s v e c =
      let q : (paper kind mark s).value ≡ v = ap (λ (x : NumberPaper). x.value) e in
      let r = number_only kind mark s (ap (λ (x : NumberPaper). x.refusal) e) in
      one_written kind mark (ours kind mark s v (rw q at r)) c
