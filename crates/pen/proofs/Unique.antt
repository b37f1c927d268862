-- Two results that one contract allows are equal: an entry for each function of this crate that others can call.
-- Assumes nothing.
use mathlib.Core.Path.{refl}
use Rattle.refusals.specs.One.{One, answers}
use Rattle.pen.specs.contracts as contracts
use Rattle.pen.proofs as pen

pub new : One contracts.Pen.new.ended pen.Pen.new.Reads.Asked pen.Pen.new.Reads.Learnt
new = answers (λ κs a v w. refl)

pub step : One contracts.Pen.step.ended pen.Pen.step.Reads.Asked pen.Pen.step.Reads.Learnt
step = answers (λ κs a v w. refl)
