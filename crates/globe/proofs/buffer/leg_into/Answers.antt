-- `leg_into` meets its contract: where the third number is not 1 there is a point before, and both are accepted.
-- Assumes nothing.
use mathlib.Core.Path.{◌≡◌, sym, ◌∙◌}
use mathlib.Core.Bool.{false}
use native.Mathlib.Omega.{arith}
use borrow.Author.Tests.{ne_eqb}
use lib.Dec.{eqb}
use lib.IntN.{pos}
use mir.Syntax.{w32}
use mir.Val.{of_z}
use Rattle.signed.specs.Tests.{eq_z}
use Rattle.signed.specs.Machine.{bits_test}
use Rattle.points.specs.Points.{third_at}
use Rattle.points.proofs.PointLaws.{point_of_lem, leg_before}
use Rattle.globe.proofs.buffer.leg_into.Goals as goal
use Rattle.globe.proofs.buffer.leg_into.Goals.{Else-third-eq1}

-- the test on the third number, as the definition has it
test : (c : Else-third-eq1) → eq_z (third_at c.args.points.now c.args.i) (pos 1) ≡ eqb (of_z w32 c.third.result) 1
test c = rw (← c.third.ensures.number) (sym (bits_test c.third.result 1 c.third.type_inv (omega arith)))

counted : (c : Else-third-eq1) → let s = c in eq_z (third_at s.args.points.now s.args.i) (pos 1) ≡ false
counted c = test c ∙ ne_eqb _ 1 c.if-third-eq1.false

pub overflow_sub-from : goal.overflow_sub-from
overflow_sub-from c =
    let to = point_of_lem c.args.points.now c.third.ensures.accepted c.args.i c.requires in
    leg_before c.args.points.now c.args.i to.third (counted c)
