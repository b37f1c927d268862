-- `leading` meets its contract. The loop's invariant: with the digits that stand first in what is left, `i` counts and `value` makes what the
-- whole does, and there is room for as many digits as may still come.
-- Assumes nothing.
use mathlib.Core.Path.{◌≡◌}
use Prim.Native.Nat.{◌+◌, ◌-◌, ◌*◌, ◌^◌, ◌≤◌}
use lib.ListN.{length, drop}
use Rattle.numbers.specs.DigitLaws.{most_digits, value_from, leading}
use Rattle.numbers.proofs.digits.leading.Given as goal

abbrev pub invariant-loop-i : goal.invariant-loop-i
invariant-loop-i l = (l.i + length (leading (l.most - l.i) (drop l.i l.s)) ≡ length (leading l.most l.s)) ×
    (value_from l.value (leading (l.most - l.i) (drop l.i l.s)) ≡ value_from l.n (leading l.most l.s)) ×
    ((l.value + 1) * 10 ^ (l.most - l.i) ≤ 10 ^ most_digits)
