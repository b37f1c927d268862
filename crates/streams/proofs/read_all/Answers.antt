use Rattle.std.proofs.Common.{rules}
use Rattle.streams.proofs.Filling.{read_more}
use Rattle.streams.proofs.read_all.Goals as goal

pub loop-done-preserved : goal.loop-done-preserved
loop-done-preserved g c =
    (search rules, read_more _ _ _ c.loop-done.bytes c.read_at.new.bytes _ _ c.in_ok-more.ensures.front c.loop-done.invariant.1 c.in_ok-more.ensures.came)
