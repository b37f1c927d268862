-- `roots::steps` meets its contract. The loop's invariant is `Sofar`. Assumes nothing.
use Rattle.roots.proofs.StepLaws.{Sofar}
use Rattle.roots.proofs.steps.Given as goal

abbrev pub invariant-loop-at : goal.invariant-loop-at
invariant-loop-at l = Sofar l.h l.steps l.count l.at l.root l.rest
