use Rattle.std.proofs.Common.{sym, ◌≤◌, arith}
use Rattle.numbers.specs.declared.Mark.TheVariants as M
use Rattle.writer.proofs.TextSteps.{target_short, target_read}
use Rattle.writer.proofs.sizes.target_size.Goals as goal
use Rattle.writer.proofs.sizes.target_size.Goals.{After-size}

short : (c : After-size) → c.size.result ≤ 7
short c =
    let a = c.args.target.now in
    let e = sym c.in-Some.ensures.number in
    omega (arith, rw (target_read a e c.metres.ensures.accepted) at c.size.ensures, target_short M.Point a e c.metres.ensures.accepted)

pub overflow_add-result : goal.overflow_add-result
overflow_add-result c = omega (arith, short c)

pub returns-clause-most : goal.returns-clause-most
returns-clause-most c = omega (arith, short (goal.at.returns-clause-most c).After-size)
