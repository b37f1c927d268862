use Rattle.std.proofs.Common.{◌≡◌, refl, true, ◌+◌, ◌/◌, ◌≤◌, arith}
use Rattle.refusals.specs.Tests.{clash}
use Rattle.globe.proofs.search.last.Goals as goal
use Rattle.globe.proofs.search.last.Goals.{then-test, else-test}

pub loop-left-init : goal.loop-left-init
loop-left-init g c = (c.requires.some, omega arith, (λ h. absurd (omega arith)), c.args.count, c.requires.some, omega arith, (λ h. absurd (omega arith)))

pub loop-left-preserved : goal.loop-left-preserved
loop-left-preserved g c =
    let at = c.loop-left in
    let i = at.invariant in
    let m = i.3 in
    elim c.if-test.branch [
      | then-test w ↦
          let holds = w.if-test.ensures in
          let early : m ≤ at.low + at.left / 2 → ⊥ = λ l. clash refl (c.requires.falls m (at.low + at.left / 2) true l (omega arith) (i.6 (omega arith)) holds) in
          rw w.low-is (omega arith, omega arith, (λ h. holds), m, omega (arith, early), omega arith, i.6)
      | else-test w ↦ rw w.low-is (omega arith, omega arith, i.2, at.low + at.left / 2, omega arith, omega arith, (λ h. w.if-test.ensures))
    ]

pub returns-clause-fails : goal.returns-clause-fails
returns-clause-fails g c = λ h.
    let i = c.loop-left.invariant in
    let next : i.3 ≡ c.loop-left.low + 1 = omega arith in
    rw next at i.6 h
