-- Behind the mark there is room for the digits.
use Rattle.std.proofs.Common.{arith}
use Rattle.std.proofs.Math.ListN.{length-set}
use Rattle.numerals.proofs.NumeralSteps.{marked_length}
use Rattle.numerals.proofs.digits.Digits.put_marked.Goals as goal

pub put-requires : goal.put-requires
put-requires c = simp length-set (omega (arith, marked_length c.args.self c.args.mark c.if-self-eq0.false))
