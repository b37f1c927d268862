-- Two results that one contract allows are equal: an entry for each function of this crate that others can call.
-- Assumes nothing.
use mathlib.Core.Path.{refl}
use Rattle.refusals.specs.One.{One, answers}
use Rattle.sines.specs.contracts as contracts
use Rattle.sines.proofs as sines

pub table_of_sines : One contracts.table_of_sines.ended sines.table_of_sines.Reads.Asked sines.table_of_sines.Reads.Learnt
table_of_sines = answers (λ κs a v w. refl)

pub entry : One contracts.entry.ended sines.entry.Reads.Asked sines.entry.Reads.Learnt
entry = answers (λ κs a v w. refl)
