-- A step in the paper's own numbers: its refusal, 0 where there is none; its stroke, 0 outside, 1 move, 2 line; the two floats of a
-- position; and the next pen, 0 up, 1 down. "A refusal gives zero in every value beside its number .. the pen step hands back the pen it got."
-- Assumes nothing.
use Rattle.std.specs.Prelude.{false, ℕ, zero, suc, Float, ℤ, pos, if◌then◌else◌, Result, Ok, Err}
use Rattle.std.specs.Float.{fin}
use Rattle.refusals.specs.declared.Refusal.{Refusal}
use Rattle.refusals.specs.Refusal.{number}
use Rattle.pen.specs.declared.Window.{Window}
use Rattle.pen.specs.declared.Pen.{Pen}
use Rattle.pen.specs.declared.Step.{Step}
use Rattle.pen.specs.declared.StepOut.{StepOut}
use Rattle.pen.specs.declared.Stroke.{Stroke}
use Rattle.pen.specs.declared.Stroke.TheVariants.{Outside, Move, Line}
use Rattle.pen.specs.Pen.{up, lowered, step_of}

-- 0 is a pen that is up, any other number one that is down
abbrev pub pen_of : ℕ → Pen
pen_of zero = up
pen_of (suc n) = lowered

abbrev pub pen_paper : Pen → ℕ
pen_paper p = if p.down then 1 else 0

-- plus zero
abbrev pub zero_float : Float
zero_float = fin false 0 (pos 0)

abbrev pub out : ℕ → ℕ → Float → Float → ℕ → StepOut
out n stroke x y pen = record { refusal = n; stroke = stroke; x = x; y = y; pen = pen }

abbrev pub drawn_paper : Stroke → ℕ → StepOut
drawn_paper Outside = out 0 0 zero_float zero_float
drawn_paper (Move a b) = out 0 1 a b
drawn_paper (Line a b) = out 0 2 a b

-- beside a refusal stands the very number of the pen that came in
abbrev pub answer_paper : ℕ → ℕ → Result Stroke Refusal → StepOut
answer_paper got next (Ok s) = drawn_paper s next
answer_paper got next (Err r) = out (number r) 0 zero_float zero_float got

abbrev pub step_paper : ℕ → Step → StepOut
step_paper got s = answer_paper got (pen_paper s.next) s.answer

-- what the door answers to the pen with the number `got`
abbrev pub stepped : ℕ → Window → ℕ → ℤ → ℤ → ℤ → ℤ → StepOut
stepped got w divisor meridian lat lon third = step_paper got (step_of (pen_of got) w divisor meridian lat lon third)
