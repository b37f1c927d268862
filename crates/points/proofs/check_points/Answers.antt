-- The first point that is refused.
-- Assumes nothing.
use mathlib.Core.Path.{sym, ◌∙◌}
use native.Mathlib.Omega.{arith}
use borrow.Author.Rules.{rules}
use mir.Syntax.{w32}
use Rattle.signed.specs.Machine.{kept}
use Rattle.points.proofs.PointLaws.{refused_at}
use Rattle.points.proofs.check_points.Goals as goal

pub returns-in_err-check_point : goal.returns-in_err-check_point
returns-in_err-check_point c =
    let y = kept w32 c.latitude.result c.latitude.type_inv in
    let x = kept w32 c.longitude.result c.longitude.type_inv in
    let e = rw (y, x, c.latitude.ensures, c.longitude.ensures) at c.check_point.ensures in
    rw (refused_at c.args.points.now c.args.n c.loop-i.i (omega arith) c.loop-i.invariant (sym e ∙ c.in_err-check_point.was)) (search rules)
