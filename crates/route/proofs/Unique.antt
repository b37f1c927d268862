-- Two results that one contract allows are equal, and so is what they leave in the lent buffer: an entry for each function of this crate that others can call.
-- Assumes nothing.
use mathlib.Core.Path.{ap}
use mathlib.Core.List.{List}
use lib.IntN.{ℤ}
use Rattle.refusals.specs.One.{One, leaves}
use Rattle.route.specs.contracts as contracts
use Rattle.route.proofs as route

pub read : One contracts.read.ended route.read.Reads.Asked route.read.Reads.Learnt
read = leaves (λ κs a v w p. ap (λ (l : List ℤ). (tt, (l, tt))) p)
