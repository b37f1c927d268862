-- The pen and its window: "One step answers Outside, Move with two floats, or Line with two floats, and the next pen."
-- Assumes nothing.
use Rattle.std.specs.Prelude.{Bool, true, false, ◌&&◌, ℕ, leb, Float, ℤ, pos, if◌then◌else◌, Result, Ok, Err}
use Rattle.std.specs.Float.Ieee.{lt, le}
use Rattle.signed.specs.Tests.{eq_z}
use Rattle.globe.specs.declared.Place.{Place}
use Rattle.refusals.specs.declared.Refusal.{Refusal}
use Rattle.refusals.specs.declared.Refusal.TheVariants as R
use Rattle.refusals.specs.Choice.{unless}
use Rattle.globe.specs.Sheet.{sinusoidal_of}
use Rattle.pen.specs.declared.Window.{Window}
use Rattle.pen.specs.declared.Pen.{Pen}
use Rattle.pen.specs.declared.Step.{Step}
use Rattle.pen.specs.declared.Stroke.{Stroke}
use Rattle.pen.specs.declared.Stroke.TheVariants.{Outside, Move, Line}
use Rattle.pen.specs.Position.{millimetres, across, float, scaled}

-- refused where "an edge is NaN, left is not below right, or bottom is not below top": where a NaN stands, `lt` is false
abbrev pub is_window : Window → Bool
is_window w = lt w.left w.right && lt w.bottom w.top

-- "whole, 1 to 1,000,000 millimetres a pixel"
abbrev pub is_divisor : ℕ → Bool
is_divisor divisor = leb 1 divisor && leb divisor 1_000_000

-- "X lies from left to right and Y from bottom to top, edges counted in"
abbrev pub inside : Window → Float → Float → Bool
inside w x y = le w.left x && le x w.right && le w.bottom y && le y w.top

-- "A new pen is up."
abbrev pub up : Pen
up = record { down = false }

abbrev pub lowered : Pen
lowered = record { down = true }

abbrev pub new_pen : Pen
new_pen = up

-- ---- a step

abbrev pub step_with : Pen → Result Stroke Refusal → Step
step_with p a = record { answer = a; next = p }

-- "Outside: the pen is up next. Inside: Line if the pen was down and the point's third number is 0, otherwise Move (any other third number
-- counts as 1); the pen is down next.", "with X and Y as floats before the division"
unfoldable pub drawn : Pen → Window → ℕ → ℤ → Float → Float → Step
drawn pen w divisor third x y =
    if inside w x y then step_with lowered (Ok ((if pen.down && eq_z third (pos 0) then Line else Move) (scaled divisor x) (scaled divisor y)))
    else step_with up (Ok Outside)

-- "Pen step: 12, 13, 14, 6, 7."
unfoldable pub place_in : Window → ℕ → ℤ → ℤ → ℤ → Result Place Refusal
place_in w divisor meridian lat lon =
    unless (is_window w) (Err R.Window)
    (unless (is_divisor divisor) (Err R.Divisor)
    (sinusoidal_of lat lon meridian))

-- what is drawn at a place of the sheet, or what refuses the point: "the pen step hands back the pen it got"
abbrev pub step_at : Pen → (Float → Float → Step) → Result Place Refusal → Step
step_at pen draw (Ok p) = draw (float (across p.x)) (float (millimetres p.y))
step_at pen draw (Err r) = step_with pen (Err r)

unfoldable pub step_of : Pen → Window → ℕ → ℤ → ℤ → ℤ → ℤ → Step
step_of pen w divisor meridian lat lon third = step_at pen (drawn pen w divisor third) (place_in w divisor meridian lat lon)
