-- `Digits::whole` meets its contract. The loop's invariant: `value` is `n`, lifted so that `count` of seven digits stand before what is left, and
-- one fewer would not hold it. The measure is what is left of the seven.
-- Assumes nothing.
use Prim.Native.Nat.{◌-◌}
use Rattle.numerals.specs.NumeralSteps.{most, Lifted}
use Rattle.numerals.proofs.digits.Digits.whole.Given as goal

abbrev pub invariant-loop-value : goal.invariant-loop-value
invariant-loop-value l = Lifted l.n l.value l.count

abbrev pub decreases-loop-value : goal.decreases-loop-value
decreases-loop-value l = most - l.count
