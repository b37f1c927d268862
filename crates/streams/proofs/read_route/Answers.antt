use Rattle.std.proofs.Common.{◌≡◌, take, length, arith, length-take-le}
use Rattle.streams.proofs.Known.{known}
use Rattle.streams.proofs.read_route.Goals as goal

pub returns-clause-known : goal.returns-clause-known
returns-clause-known g c =
    let n = c.in_ok-n.n in
    let bytes = c.read_all.new.bytes in
    let long : length (take n bytes) ≡ n = length-take-le _ _ c.in_ok-n.ensures.bound in
    known _ _ (take n bytes) _ _ _ c.in_ok-n.ensures.came (λ less. c.in_ok-n.ensures.end (omega arith)) c.read.ensures.answer c.read.ensures.left
