use Rattle.writer.proofs.lines.put_header.Goals as goal

pub returns-in-Comma-clause-left : goal.returns-in-Comma-clause-left
returns-in-Comma-clause-left c = rw c.in-Comma.is c.put_bytes-in-Comma.ensures.left
