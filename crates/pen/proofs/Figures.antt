-- The document's figure of the pen, proved about the definition from the point on.
-- Assumes nothing.
use Rattle.std.specs.Prelude.{◌≡◌, refl, true, false, pos, neg_ℤ}
use Rattle.std.proofs.Common.{ap, ◌∙◌}
use Rattle.std.specs.Int.Count.{count_trailing_zeros}
use Rattle.std.specs.Float.{inf, binary64}
use Rattle.std.specs.Float.Ieee.{lt, le, eq, round, size, span, climb, units, odd, div, of_int, of_bits, of_fields}
use Rattle.globe.proofs.Figures.{sinusoidal_60_10}
use Rattle.pen.specs.declared.Window.{Window}
use Rattle.pen.specs.Position.{millimetres, across}
use Rattle.pen.specs.Pen.{new_pen, drawn, step_at, step_of}
use Rattle.pen.proofs.PenLaws.{step_placed}
use Rattle.pen.specs.Paper.{pen_paper, step_paper}

abbrev pub infinite_window : Window
infinite_window = record { left = inf true; right = inf false; bottom = inf true; top = inf false }

-- "New pen, meridian 0, point 60° N 10° E with third number 0, divisor 1000, infinite window: Move with the doubles 555974635/1000 and
-- 6671695620/1000.", by their bits
pub new_pen_lem : step_paper (pen_paper new_pen) (step_of new_pen infinite_window 1_000 (pos 0) (pos 600_000_000) (pos 100_000_000) (pos 0))
    ≡ record { refusal = 0; stroke = 1; x = of_bits binary64 0x4120f78d451eb852; y = of_bits binary64 0x41597353e7ae147b; pen = 1 }
unfolding drawn lt le eq round size span climb units odd div of_int of_bits of_fields count_trailing_zeros
new_pen_lem =
    ap (step_paper 0)
    (step_placed new_pen infinite_window 1_000 (pos 0) (pos 600_000_000) (pos 100_000_000) (pos 0) refl refl
    ∙ ap (step_at new_pen (drawn new_pen infinite_window 1_000 (pos 0))) sinusoidal_60_10)

-- X drops twice: at 60° N an offset of 1 tick is X 0, where one division would give 5
pub dropped_twice : across (pos 500_000_000) ≡ pos 0
dropped_twice = refl

-- and toward zero: 1 tick south is 11 millimetres, as 1 tick north is, where dropping downward would give 12
pub dropped_south : millimetres (neg_ℤ (pos 1)) ≡ neg_ℤ (pos 11)
dropped_south = refl
