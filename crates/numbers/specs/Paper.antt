-- The reading of a number in the paper's own numbers: its refusal, 0 where there is none, and its value, 0 beside a refusal.
-- Assumes nothing.
use Rattle.std.specs.Prelude.{ℕ, ℤ, pos, Result, Ok, Err}
use Rattle.refusals.specs.declared.Refusal.{Refusal}
use Rattle.refusals.specs.Refusal.{number}

pub record NumberPaper : Type 0 where
  pub refusal : ℕ
  pub value : ℤ

abbrev pub number_paper : Result ℤ Refusal → NumberPaper
number_paper (Ok v) = record { refusal = 0; value = v }
number_paper (Err r) = record { refusal = number r; value = pos 0 }
