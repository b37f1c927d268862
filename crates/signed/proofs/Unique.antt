-- Two results that one contract allows are equal: an entry for each function of this crate that others can call.
-- Assumes nothing.
use mathlib.Core.Path.{refl}
use Rattle.refusals.specs.One.{One, answers}
use Rattle.signed.specs.contracts as contracts
use Rattle.signed.proofs as signed

pub size32 : One contracts.size32.ended signed.size32.Reads.Asked signed.size32.Reads.Learnt
size32 = answers (λ κs a v w. refl)

pub size64 : One contracts.size64.ended signed.size64.Reads.Asked signed.size64.Reads.Learnt
size64 = answers (λ κs a v w. refl)

pub with_sign_of : One contracts.with_sign_of.ended signed.with_sign_of.Reads.Asked signed.with_sign_of.Reads.Learnt
with_sign_of = answers (λ κs a v w. refl)
