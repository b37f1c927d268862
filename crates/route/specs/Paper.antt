-- The reader's answer in the paper's own numbers: its refusal, 0 where there is none, and its values, 0 beside a refusal.
-- Assumes nothing.
use Rattle.std.specs.Prelude.{ℕ, Result, Ok, Err, Option, Some, None}
use Rattle.refusals.specs.Refusal.{number}
use Rattle.route.specs.declared.Route.{Route}
use Rattle.route.specs.declared.Refused.{Refused}
use Rattle.route.specs.declared.ReadingOut.{ReadingOut}

-- "whether there is a target and its millimetres (0 if none)"
abbrev pub has_target : Option ℕ → ℕ
has_target None = 0
has_target (Some mm) = 1

abbrev pub millimetres : Option ℕ → ℕ
millimetres None = 0
millimetres (Some mm) = mm

-- "The reader gives the number of points n, the length in millimetres, whether there is a target and its millimetres (0 if none), and line 0."
abbrev pub reading_paper : Result Route Refused → ReadingOut
reading_paper (Ok r) =
    record { refusal = 0; line = 0; points = r.points; has_target = has_target r.target; length = r.length; target = millimetres r.target }
reading_paper (Err e) = record { refusal = number e.refusal; line = e.line; points = 0; has_target = 0; length = 0; target = 0 }
