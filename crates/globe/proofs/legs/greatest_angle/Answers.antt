-- `globe::legs::greatest_angle` meets its contract. Assumes nothing.
use Prim.Native.Nat.{◌+◌, ◌*◌}
use native.Mathlib.Omega.{arith}
use Rattle.sines.proofs.SineLaws.{some_halves}
use Rattle.sines.proofs.BackLaws.{last_angle_top, greatest_angle_lem}
use Rattle.globe.proofs.legs.greatest_angle.Goals as goal

pub returns-then-r-ge-LEG_UNIT : goal.returns-then-r-ge-LEG_UNIT
returns-then-r-ge-LEG_UNIT c =
    let r = c.args.r in
    greatest_angle_lem some_halves r (omega arith) (omega arith) (last_angle_top some_halves {y = r * 5_000 + 4_999} (omega arith))

pub returns : goal.returns
returns c = greatest_angle_lem some_halves c.args.r (omega arith) (omega arith) c.last_half.ensures
