-- How much room a route's text needs: its length without writing it, and the most that so many points need.
-- Assumes nothing.
use Rattle.std.specs.Prelude.{List, ℕ, ◌+◌, ◌-◌, ◌*◌, ℤ, length, Option, Result}
use Rattle.refusals.specs.declared.Refusal.{Refusal}
use Rattle.refusals.specs.Choice.{answered}
use Rattle.numbers.specs.declared.Mark.{Mark}
use Rattle.writer.specs.RouteText.{route_text, text_refusal}

-- "the exact length without writing, with R-1's refusals but 15"
unfoldable pub size_of : Mark → Option ℕ → List ℤ → Result ℕ Refusal
size_of mark target points = answered (text_refusal target points) (length (route_text mark target points))

-- "n points need at most 22 + 29n bytes": 22 for line 1 and a target, 29 a point, less the 2 of a `g` line, which the first one never has; without points
-- there is nothing to take away, and 0 - 2 is 0
abbrev pub most_text : ℕ → ℕ
most_text n = 22 + (29 * n - 2)
