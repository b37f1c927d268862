-- Two results that one contract allows are equal: an entry for each function of this crate that others can call.
-- Assumes nothing.
use mathlib.Core.Path.{refl}
use Rattle.refusals.specs.One.{One, answers}
use Rattle.roots.specs.contracts as contracts
use Rattle.roots.proofs as roots

pub steps : One contracts.steps.ended roots.steps.Reads.Asked roots.steps.Reads.Learnt
steps = answers (λ κs a v w. refl)

pub root : One contracts.root.ended roots.root.Reads.Asked roots.root.Reads.Learnt
root = answers (λ κs a v w. refl)
