-- Laws of the way back: the last row and the last angle whose sine is at most a number, and the greatest angle that they give.
-- Assumes nothing.
use Rattle.std.specs.Prelude.{◌≡◌, ℕ, ◌+◌, ◌-◌, ◌*◌, ◌/◌, ◌≤◌, ◌<◌}
use Rattle.std.proofs.Common.{sym, le_refl, mul-pos, le-div_iff_mul-le, div-lt_iff_lt-mul}
use Rattle.std.proofs.Math.Nat.{mul-le-mul_right, div-mul-le_self, lt-div-mul-add}
use native.Mathlib.Omega.{arith}
use Rattle.std.proofs.Math.Dec.{leb}
use borrow.Author.Tests.{le-leb, lt-leb}
use Rattle.sines.specs.Table.{unit, entry}
use Rattle.sines.specs.Rules.{rows}
use Rattle.sines.proofs.Rules.{growth}
use Rattle.sines.specs.Sine.{step, sine_by, step_halves, quarter_halves, leg_sine}
use Rattle.sines.specs.SineLaws.{between}
use Rattle.sines.proofs.SineLaws.{in_row, to_next, top, sine_by_le, some_halves, halves, long_sine_half_zero, leg_sine_lt}
use Rattle.sines.specs.Greatest.{IsGreatest}
use Rattle.sines.proofs.GreatestLaws.{greatest_is, greatest_meets}
use Rattle.sines.specs.Back.{greatest_by, greatest_angle}
use Rattle.sines.specs.BackLaws.{LastRow, LastAngle}

module _ {s : ℕ} (positive : 0 < s) where
  -- no later angle has such a sine
  pub later : {y u : ℕ} → LastAngle s y u → {v : ℕ} → u < v → v ≤ rows * s → y < sine_by s v
  later {y} {u} a {v} l h = omega (arith, a.high (omega arith), sine_by_le positive {a = u + 1} {b = v} (omega arith) h)

  pub last_angle_top : {y : ℕ} → unit ≤ y → LastAngle s y (rows * s)
  last_angle_top h = record { inside = le_refl _; low = omega (arith, top positive); high = λ l. absurd (not_lt l) }
    where
      not_lt : {n : ℕ} → n < n → ⊥
      not_lt l = omega arith

  -- the last angle from the last row: f units past it, f the greatest with f × (entry k+1 - entry k) < (y - entry k + 1) × s
  module _ {y k : ℕ} (h : k < rows) (row : LastRow y k) where
    abbrev gap : ℕ
    gap = entry (k + 1) - entry k

    abbrev room : ℕ
    room = (y - entry k + 1) * s - 1

    pub gap_some : 0 < gap
    gap_some = omega (arith, growth k h)

    fits : (y - entry k + 1) * s ≤ gap * s
    fits = mul-le-mul_right s (omega (arith, row.high h, row.low))

    room_is : room + 1 ≡ (y - entry k + 1) * s
    room_is = omega (arith, mul-pos {m = y - entry k + 1} {n = s} (omega arith) positive)

    pub units : room / gap < s
    units = (div-lt_iff_lt-mul {k = gap} {x = room} {y = s} gap_some).1 (omega (arith, fits, room_is))

    pub last_angle : LastAngle s y (k * s + room / gap)
    unfolding between
    last_angle =
        let f = room / gap in
        let low-f : f * gap / s < y - entry k + 1 = (div-lt_iff_lt-mul {k = s} {x = f * gap} {y = y - entry k + 1} positive).1 (omega (arith, div-mul-le_self room gap, room_is)) in
        let high-f : y - entry k + 1 ≤ (f + 1) * gap / s = (le-div_iff_mul-le {k = s} {x = y - entry k + 1} {y = (f + 1) * gap} positive).1 (omega (arith, lt-div-mul-add {a = room} {b = gap} gap_some, room_is)) in
        let next : k * s + f + 1 ≡ k * s + (f + 1) = omega arith in
        record {
          inside = omega (arith, units, mul-le-mul_right s h);
          low = omega (arith, in_row positive k units, row.low);
          high = λ _. rw next (omega (arith, to_next positive h {f = f + 1} (omega (arith, units)), row.low));
        }

  -- ---- the greatest angle

  pub greatest_angle_lem : {d y u : ℕ} (r : ℕ) → 0 < d → y + 1 ≡ (r + 1) * d → LastAngle s y u → u ≡ greatest_by s d r
  unfolding greatest_by
  greatest_angle_lem {d} {y} {u} r n e a =
      greatest_is (λ v. leb (sine_by s v / d) r) (record {
        inside = a.inside;
        holds = le-leb (sine_by s u / d) r (omega (arith, (div-lt_iff_lt-mul {k = d} {x = sine_by s u} {y = r + 1} n).1 (omega (arith, a.low))));
        later = λ v l h. lt-leb (sine_by s v / d) r (omega (arith, (le-div_iff_mul-le {k = d} {x = r + 1} {y = sine_by s v} n).1 (omega (arith, later a l h))));
      })

pub greatest_angle_meets : (r : ℕ) → IsGreatest (λ u. leb (leg_sine u) r) quarter_halves (greatest_angle r)
unfolding greatest_by
greatest_angle_meets r = greatest_meets (λ u. leb (leg_sine u) r) (le-leb (leg_sine 0) r (omega (arith, long_sine_half_zero)))

-- up to 55 degrees the greatest angle with an angle's short sine is that angle
pub greatest_own : {u : ℕ} → u ≤ 1_100_000_000 → greatest_angle (leg_sine u) ≡ u
greatest_own {u} h =
    let r = leg_sine u in
    let l = leg_sine_lt h in
    sym (greatest_angle_lem some_halves {y = r * 5_000 + 4_999} r (omega arith) (omega arith) (record { inside = omega arith; low = omega arith; high = λ _. omega arith }))

-- ---- ticks from half ticks

pub whole_ticks : {y u : ℕ} → LastAngle step_halves y u → LastAngle step y (u / 2)
whole_ticks {y} {u} a = record {
  inside = omega (arith, a.inside);
  low = omega (arith, halves (u / 2), sine_by_le some_halves {a = 2 * (u / 2)} {b = u} (omega arith) a.inside, a.low);
  high = λ l. let n : 2 * (u / 2 + 1) ≤ quarter_halves = omega arith in
      omega (arith, halves (u / 2 + 1), later some_halves a {v = 2 * (u / 2 + 1)} (omega arith) n);
}
