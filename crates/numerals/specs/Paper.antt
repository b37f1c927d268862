-- A writing in the paper's own numbers: its refusal, 0 where there is none, and the number of bytes, 0 beside a refusal.
-- Assumes nothing.
use Rattle.std.specs.Prelude.{ℕ, Result, Ok, Err}
use Rattle.refusals.specs.declared.Refusal.{Refusal}
use Rattle.refusals.specs.Refusal.{number}
use Rattle.numerals.specs.declared.WritingOut.{WritingOut}

abbrev pub writing_paper : Result ℕ Refusal → WritingOut
writing_paper (Ok n) = record { refusal = 0; bytes = n }
writing_paper (Err r) = record { refusal = number r; bytes = 0 }
