-- Two results that one contract allows are equal: an entry for each function of this crate that others can call.
-- Assumes nothing.
use mathlib.Core.Path.{refl}
use Rattle.refusals.specs.One.{One, answers}
use Rattle.refusals.specs.contracts as contracts
use Rattle.refusals.proofs as refusals

pub number : One contracts.Refusal.number.ended refusals.Refusal.number.Reads.Asked refusals.Refusal.number.Reads.Learnt
number = answers (λ κs a v w. refl)

pub first_of : One contracts.first_of.ended refusals.first_of.Reads.Asked refusals.first_of.Reads.Learnt
first_of = answers (λ κs a v w. refl)
