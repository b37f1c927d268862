-- `walk` meets its contract. The loop's invariant: `sum` is the length of the first `i` points, and no shorter beginning reaches the target.
-- Assumes nothing.
use mathlib.Core.Path.{◌≡◌}
use mathlib.Core.Bool.{false}
use mathlib.Core.List.{List}
use Prim.Native.Nat.{ℕ, ◌-◌, ◌≤◌, ◌<◌}
use lib.IntN.{ℤ}
use Rattle.globe.specs.Measure.{length_up_to}
use Rattle.globe.specs.Met.{reaches}
use Rattle.globe.proofs.buffer.walk.Given as goal

abbrev pub Short : List ℤ → ℕ → ℕ → Type 0
Short b target k = reaches b target k ≡ false

abbrev pub invariant-loop-sum : goal.invariant-loop-sum
invariant-loop-sum l = (l.i ≤ l.n) × (l.sum ≡ length_up_to l.points l.i) × ((k : ℕ) → k < l.i → Short l.points l.target k)

abbrev pub decreases-loop-sum : goal.decreases-loop-sum
decreases-loop-sum l = l.n - l.i
