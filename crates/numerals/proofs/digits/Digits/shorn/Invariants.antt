-- `Digits::shorn` meets its contract. The loop's invariant: as many digits are left of `count` of `rest` as of all of `n`. The measure is `count`.
-- Assumes nothing.
use Rattle.numerals.specs.NumeralSteps.{most, Shorn}
use Rattle.numerals.proofs.digits.Digits.shorn.Given as goal

abbrev pub invariant-loop-count : goal.invariant-loop-count
invariant-loop-count l = Shorn most l.n l.count l.rest

abbrev pub decreases-loop-count : goal.decreases-loop-count
decreases-loop-count l = l.count
