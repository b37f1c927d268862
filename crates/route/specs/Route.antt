-- The route text: what the reader answers and what it leaves in the buffer, for every text and every buffer.
-- "Reading: 1 first; then the first bad line from the top; .. after all lines a last `g`; then 10."
-- Assumes nothing.
use Rattle.std.specs.Prelude.{List, [], ◌∷◌, ◌++◌, ℕ, ◌+◌, ◌-◌, leb, ℤ, length, drop, if◌then◌else◌, Result, Ok, Err}
use Rattle.refusals.specs.declared.Refusal.{Refusal}
use Rattle.refusals.specs.declared.Refusal.TheVariants as R
use Rattle.refusals.specs.Choice.{unless}
use Rattle.points.specs.Points.{count}
use Rattle.globe.specs.Measure.{length_up_to}
use Rattle.numbers.specs.declared.Mark.{Mark}
use Rattle.numbers.specs.declared.Mark.TheVariants as M
use Rattle.numbers.specs.Pieces.{LF, split, same}
use Rattle.route.specs.declared.Route.{Route}
use Rattle.route.specs.declared.Refused.{Refused}
use Rattle.route.specs.declared.lines.Before.TheVariants as B
use Rattle.route.specs.declared.lines.Line.{Line}
use Rattle.numbers.specs.Text.{bytes}
use Rattle.route.specs.Line.{same_kind, Seen, fresh, line_of, after_of}

-- "At most 60,000 bytes"
abbrev pub most_bytes : ℕ
most_bytes = 60_000

-- ---- the walk over the lines: what all of them leave, or what is refused and its line

pub data Walk : Type 0 where
  refused : Refusal → ℕ → Walk
  accepted : Seen → Walk

-- a refused line ends the walk; after any other it goes on
abbrev pub on_line : ℕ → Result Line Refusal → (Line → Walk) → Walk
on_line k (Err r) next = refused r k
on_line k (Ok l) next = next l

-- "the first bad line from the top": the pieces of the text at LF from line k on, w being what the lines before it leave. What stands after the
-- last LF is a line only if it is not empty, and then it has no LF. "a last `g` names its own line"; "buffer shorter than 3n (line 0)".
-- Where no piece follows line 1, that has no LF.
abbrev pub walk_from : Mark → ℕ → ℕ → Seen → List (List ℕ) → Walk
walk_from mark room k w [] = refused R.Header 1
walk_from mark room k w ([] ∷ []) =
    if same_kind w.before B.Gap then refused R.Order (k - 1) else
    (unless (leb (length w.points) room) (refused R.Room 0)
    (accepted w))
walk_from mark room k w ((x ∷ s) ∷ []) = refused R.Line k
walk_from mark room k w (s ∷ (t ∷ ss)) = on_line k (line_of mark w s) (λ l. walk_from mark room (k + 1) (after_of w l) (t ∷ ss))

-- ---- the whole text

-- "Line 1 is `route`, tab, `point` or `comma`."
abbrev pub lines_of : ℕ → List (List ℕ) → Walk
lines_of room [] = refused R.Header 1
lines_of room (s ∷ ss) =
    if same s (bytes "route\tpoint") then walk_from M.Point room 2 fresh ss else
    (if same s (bytes "route\tcomma") then walk_from M.Comma room 2 fresh ss else
    refused R.Header 1)

unfoldable pub walk_of : List ℕ → ℕ → Walk
walk_of text room = unless (leb (length text) most_bytes) (refused R.Text 0) (lines_of room (split LF text))

-- ---- the answer and the buffer

-- "the number of points n, the length in millimetres, whether there is a target and its millimetres"
abbrev pub answer_of : Walk → Result Route Refused
answer_of (refused r k) = Err (record { refusal = r; line = k })
answer_of (accepted w) = Ok (record { points = count w.points; length = length_up_to w.points (count w.points); target = w.target })

unfoldable pub reading_of : List ℕ → ℕ → Result Route Refused
reading_of text room = answer_of (walk_of text room)

-- "A refusal .. writes to no lent buffer"; "The rest of the buffer is unchanged."
abbrev pub left_by : List ℤ → Walk → List ℤ
left_by buffer (refused r k) = buffer
left_by buffer (accepted w) = w.points ++ drop (length w.points) buffer

unfoldable pub buffer_of : List ℕ → List ℤ → List ℤ
buffer_of text buffer = left_by buffer (walk_of text (length buffer))
