use Rattle.std.proofs.Common.{arith, length-take-le}
use Rattle.streams.proofs.Filling.{read_behind}
use Rattle.streams.proofs.read_at.Goals as goal

pub returns-clause-came : goal.returns-clause-came
returns-clause-came g c =
    read_behind _ _ c.read.result _ c.read.new.buf _ c.args.at (length-take-le _ c.args.bytes.now (omega (arith, c.requires))) c.read.ensures.bound c.read.ensures.bytes
