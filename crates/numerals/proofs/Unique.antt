-- Two results that one contract allows are equal, and so is what they leave in the lent output: an entry for each function of this crate that others can call.
-- Assumes nothing.
use mathlib.Core.Path.{refl, ap}
use mathlib.Core.List.{List}
use Prim.Native.Nat.{ℕ}
use Rattle.refusals.specs.One.{One, answers, leaves}
use Rattle.numerals.specs.contracts as contracts
use Rattle.numerals.proofs as numerals

pub size : One contracts.size.ended numerals.size.Reads.Asked numerals.size.Reads.Learnt
size = answers (λ κs a v w. refl)

pub write : One contracts.write.ended numerals.write.Reads.Asked numerals.write.Reads.Learnt
write = leaves (λ κs a v w p. ap (λ (l : List ℕ). (tt, (tt, (tt, (l, tt))))) p)

pub from : One contracts.WritingOutFromResultUsizeRefusal.from.ended
    numerals.WritingOutFromResultUsizeRefusal.from.Reads.Asked
    numerals.WritingOutFromResultUsizeRefusal.from.Reads.Learnt
from = answers (λ κs a v w. refl)
