-- Laws of the walk over the lines as the code goes it: what is left of the text comes to what the whole text comes to.
-- Assumes nothing.
use Rattle.std.specs.Prelude.{List, [], ◌∷◌, ℕ, ◌-◌, ◌*◌, ◌≤◌, leb, ℤ, if◌then◌else◌, Result, Ok, Err, Option, Some, None}
use Rattle.refusals.specs.declared.Refusal.TheVariants as R
use Rattle.refusals.specs.Choice.{unless}
use Rattle.points.specs.Points.{numbers, most_points}
use Rattle.numbers.specs.declared.Mark.{Mark}
use Rattle.numbers.specs.declared.Mark.TheVariants as M
use Rattle.numbers.specs.Pieces.{same}
use Rattle.route.specs.declared.Refused.{Refused}
use Rattle.route.specs.declared.lines.Before.TheVariants as B
use Rattle.route.specs.declared.lines.State.{State}
use Rattle.route.specs.Line.{same_kind, fresh}
use Rattle.route.specs.LineLaws.{seen_in}
use Rattle.route.specs.Route.{Walk, refused, accepted, walk_from}
use Rattle.numbers.specs.Text.{bytes}

-- what the code has of a walk: the points' numbers stand in a buffer of its own
abbrev pub came : Result State Refused → List ℤ → Walk
came (Ok st) own = accepted (seen_in st own)
came (Err e) own = refused e.refusal e.line

-- and it has no more points than the most
abbrev pub few_in : Result State Refused → Type 0
few_in (Ok st) = st.points ≤ most_points
few_in (Err e) = Unit

-- ---- the end

abbrev pub end_of : ℕ → ℕ → List ℕ → State → Result State Refused
end_of room line [] st =
    if same_kind st.before B.Gap then Err (record { refusal = R.Order; line = line - 1 }) else
    (unless (leb (numbers * st.points) room) (Err (record { refusal = R.Room; line = 0 }))
    (Ok st))
end_of room line (x ∷ s) st = Err (record { refusal = R.Line; line = line })

-- ---- the whole text

-- line 1 as the code reads it
unfoldable pub header_of : List ℕ → Option Mark
header_of s =
    if same s (bytes "route\tpoint") then Some M.Point else
    (if same s (bytes "route\tcomma") then Some M.Comma else None)

abbrev pub after_header : Option Mark → ℕ → List (List ℕ) → Walk
after_header None room ss = refused R.Header 1
after_header (Some mark) room ss = walk_from mark room 2 fresh ss
