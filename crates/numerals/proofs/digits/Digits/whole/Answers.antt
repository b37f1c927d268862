-- One digit more, or as many as `n` has.
use Rattle.numerals.proofs.NumeralSteps.{lifted_on, lifted_off}
use Rattle.numerals.proofs.digits.Digits.whole.Goals as goal

pub loop-value-preserved : goal.loop-value-preserved
loop-value-preserved c = lifted_on c.loop-value.invariant c.loop-value-test.true

pub returns-clause-many : goal.returns-clause-many
returns-clause-many c = lifted_off c.loop-value.invariant c.loop-value-test.false
