-- The words in which orders of refusals are said.
-- Assumes nothing.
use Rattle.std.specs.Prelude.{Bool, true, false, ℕ, Result, Ok, Err}
use Rattle.refusals.specs.declared.Refusal.{Refusal}
use Rattle.refusals.specs.Refusal.{number}

-- v where the test holds, and r where it does not
abbrev pub unless : {A : Type 0} → Bool → A → A → A
unless true r v = v
unless false r v = r

-- nothing is refused, or what is
abbrev pub Check : Type 0
Check = Result (Unit {0}) Refusal

abbrev pub fine : Check
fine = Ok tt

-- the number that is sent back, 0 being none
abbrev pub sent : Check → ℕ
sent (Ok x) = 0
sent (Err r) = number r

-- the first of two refusals
abbrev pub first_of : Check → Check → Check
first_of (Ok x) b = b
first_of (Err r) b = Err r

-- what is answered: v, but for what is refused
abbrev pub answered : {A : Type 0} → Check → A → Result A Refusal
answered (Ok x) v = Ok v
answered (Err r) v = Err r

-- and of what may be refused itself
abbrev pub unrefused : {A : Type 0} → Check → Result A Refusal → Result A Refusal
unrefused (Ok x) a = a
unrefused (Err r) a = Err r
