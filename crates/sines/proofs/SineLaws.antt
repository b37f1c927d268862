-- Laws of the sines: they lie within the table's range and rise, the long sine strictly.
-- A law over s holds of angles in any unit of which s make a step of the table, so that one proof serves every unit.
-- Assumes nothing.
use Rattle.std.specs.Prelude.{◌≡◌, refl, ℕ, ◌+◌, ◌-◌, ◌*◌, ◌/◌, ◌%◌, ◌≤◌, ◌<◌}
use Rattle.std.proofs.Common.{sym, ap, ◌∙◌, ⊎_elim, le_refl, le_trans, eq-or-lt_of_le, mul_assoc, mod-lt, div-add-mod', mod-eq_of_lt, le-div_iff_mul-le, div-lt_iff_lt-mul}
use Rattle.std.proofs.Math.Nat.{mul-le-mul_right, mul-lt-mul_of_pos_right, mul-add-div_right, div-eq_of_lt, mul-add-mod_self_right, mul-div_cancel_left, div-le_of_le-mul, div-mul-le_self, lt-div-mul-add, zero-div}
use native.Mathlib.Omega.{arith}
use Rattle.sines.specs.Table.{unit, sines, sines_from, rounded, sine_of_step, twice_cosine, entry}
use Rattle.sines.specs.Rules.{rows}
use Rattle.sines.proofs.Rules.{growth, growth_halves, steep, first, last, rising}
use Rattle.sines.specs.Sine.{step, quarter, sine_by, long_sine, short_unit, short_sine, step_halves, quarter_halves, long_sine_half, leg_unit, leg_sine}
use Rattle.sines.specs.SineLaws.{between, Between}

by_row : (s a : ℕ) → sine_by s a ≡ between s (a / s) (a % s)
unfolding sine_by between
by_row s a = refl

module _ {s : ℕ} (positive : 0 < s) where
  -- ---- between two entries

  pub between_start : (k : ℕ) → between s k 0 ≡ entry k
  unfolding between
  between_start k =
      let n : 0 * (entry (k + 1) - entry k) ≡ 0 = omega arith in
      rw (n, zero-div s) (omega arith)

  module _ {k : ℕ} (h : k < rows) where
    abbrev gap : ℕ
    gap = entry (k + 1) - entry k

    pub between_end : between s k s ≡ entry (k + 1)
    unfolding between
    between_end = rw (mul-div_cancel_left gap positive) (omega (arith, growth k h))

    pub between_below : {f : ℕ} → f < s → between s k f < entry (k + 1)
    unfolding between
    between_below {f} l =
        let g = growth k h in
        let m : f * gap < s * gap = mul-lt-mul_of_pos_right l (omega arith) in
        omega (arith, (div-lt_iff_lt-mul {k = s} {x = f * gap} {y = gap} positive).1 (omega arith))

    pub between_lt : {f g : ℕ} → entry k + s ≤ entry (k + 1) → f < g → between s k f < between s k g
    unfolding between
    between_lt {f} {g} grows l =
        let q = f * gap / s in
        let a = div-mul-le_self (f * gap) s in
        let b : (f + 1) * gap ≤ g * gap = mul-le-mul_right gap (omega arith) in
        omega (arith, (le-div_iff_mul-le {k = s} {x = q + 1} {y = g * gap} positive).1 (omega arith))

  pub between_le : (k : ℕ) {f g : ℕ} → f ≤ g → between s k f ≤ between s k g
  unfolding between
  between_le k {f} {g} l =
      let gap = entry (k + 1) - entry k in
      omega (arith, (le-div_iff_mul-le {k = s} {x = f * gap / s} {y = g * gap} positive).1 (le_trans (div-mul-le_self (f * gap) s) (mul-le-mul_right gap l)))

  -- ---- an angle by its row and what is left

  pub in_row : (k : ℕ) {f : ℕ} → f < s → sine_by s (k * s + f) ≡ between s k f
  in_row k {f} l =
      let q : (k * s + f) / s ≡ k = mul-add-div_right positive k f ∙ ap (λ (x : ℕ). k + x) (div-eq_of_lt l) ∙ omega arith in
      let r : (k * s + f) % s ≡ f = mul-add-mod_self_right k s f ∙ mod-eq_of_lt l in
      rw (by_row s (k * s + f), q, r)

  -- also where what is left reaches the next row
  pub to_next : {k : ℕ} → k < rows → {f : ℕ} → f ≤ s → sine_by s (k * s + f) ≡ between s k f
  to_next {k} h {f} l = ⊎_elim whole (in_row k) (eq-or-lt_of_le l)
    where
      whole : f ≡ s → sine_by s (k * s + f) ≡ between s k f
      whole e =
          let n : k * s + s ≡ (k + 1) * s + 0 = omega arith in
          rw (e, n, in_row (k + 1) positive, between_start (k + 1), between_end h)

  pub top : sine_by s (rows * s) ≡ unit
  top =
      let n : rows * s ≡ rows * s + 0 = omega arith in
      rw n (in_row rows positive ∙ between_start rows ∙ last)

  -- ---- the sines rise

  from_row : (a : ℕ) → entry (a / s) ≤ sine_by s a
  unfolding sine_by
  from_row a = omega arith

  module _ {a b : ℕ} (h : a ≤ b) (l : b ≤ rows * s) where
    row_le : a / s ≤ b / s
    row_le = (le-div_iff_mul-le {k = s} {x = a / s} {y = b} positive).1 (le_trans (div-mul-le_self a s) h)

    row_top : b / s ≤ rows
    row_top = div-le_of_le-mul s (omega arith)

    later_row : a / s < b / s → sine_by s a < sine_by s b
    later_row r =
        omega (arith, by_row s a, between_below {k = a / s} (omega (arith, row_top)) (mod-lt a positive), rising (a / s + 1) (b / s) (omega arith) row_top, from_row b)

    left : a / s ≡ b / s → a + b % s ≡ b + a % s
    left e = omega (arith, div-add-mod' a s, div-add-mod' b s, ap (λ (q : ℕ). q * s) e)

    pub sine_by_le : sine_by s a ≤ sine_by s b
    sine_by_le = ⊎_elim (λ e. rw (by_row s a, by_row s b, ← e) (between_le (a / s) (omega (arith, left e)))) (λ r. omega (arith, later_row r)) (eq-or-lt_of_le row_le)

    strictly : ((k : ℕ) → k < rows → entry k + s ≤ entry (k + 1)) → a < b → sine_by s a < sine_by s b
    strictly grows m = ⊎_elim (λ e. rw (by_row s a, by_row s b, ← e) (between_lt inside (grows (a / s) inside) (omega (arith, left e)))) later_row (eq-or-lt_of_le row_le)
      where
        inside : a / s < rows
        inside = (div-lt_iff_lt-mul {k = s} {x = a} {y = rows} positive).1 (omega arith)

  -- strictly where each entry exceeds the one before by a unit for each of the s
  pub sine_by_lt : {a b : ℕ} → ((k : ℕ) → k < rows → entry k + s ≤ entry (k + 1)) → a < b → b ≤ rows * s → sine_by s a < sine_by s b
  sine_by_lt grows h l = strictly (omega arith) l grows h

  pub sine_by_top : {a : ℕ} → a ≤ rows * s → sine_by s a ≤ unit
  sine_by_top h = omega (arith, sine_by_le h (le_refl _), top)

-- ---- the long and the short sine

pub a_step : 0 < step
a_step = omega arith

pub long_sine_lt : {a b : ℕ} → a < b → b ≤ quarter → long_sine a < long_sine b
long_sine_lt h l = sine_by_lt a_step growth h l

pub long_sine_top : {a : ℕ} → a ≤ quarter → long_sine a ≤ unit
long_sine_top h = sine_by_top a_step h

-- one angle for a long sine
pub long_sine_one : {a b : ℕ} → a ≤ quarter → b ≤ quarter → long_sine a ≡ long_sine b → a ≡ b
long_sine_one h l e = omega (arith, apart l e, apart h (sym e))
  where
    apart : {a b : ℕ} → b ≤ quarter → long_sine a ≡ long_sine b → a < b → ⊥
    apart l e m = omega (arith, long_sine_lt m l)

pub long_sine_zero : long_sine 0 ≡ 0
long_sine_zero = in_row a_step 0 a_step ∙ between_start a_step 0 ∙ first

pub long_sine_quarter : long_sine quarter ≡ unit
long_sine_quarter = top a_step

pub long_sine_tick : long_sine 1 ≡ 17_453
unfolding sine_by entry sines sines_from rounded sine_of_step twice_cosine
long_sine_tick = refl

pub short_sine_le : {a b : ℕ} → a ≤ b → b ≤ quarter → short_sine a ≤ short_sine b
short_sine_le h l = omega (arith, sine_by_le a_step h l)

pub short_sine_top : {a : ℕ} → a ≤ quarter → short_sine a ≤ short_unit
short_sine_top h = omega (arith, long_sine_top h)

-- off zero even the short sine is at least 1
pub short_sine_some : {a : ℕ} → 0 < a → a ≤ quarter → 1 ≤ short_sine a
short_sine_some h l = omega (arith, sine_by_le a_step {a = 1} h l, long_sine_tick)

-- ---- in half ticks

pub some_halves : 0 < step_halves
some_halves = omega arith

-- two half ticks are a tick
pub halves : (a : ℕ) → long_sine_half (2 * a) ≡ long_sine a
unfolding between
halves a =
    let k : 2 * a / step_halves ≡ a / step = omega arith in
    let f : 2 * a % step_halves ≡ 2 * (a % step) = omega arith in
    let g = entry (a / step + 1) - entry (a / step) in
    let e : 2 * (a % step) * g ≡ 2 * (a % step * g) = mul_assoc 2 (a % step) g in
    rw (by_row step_halves (2 * a), by_row step a, k, f, e) (omega arith)

pub long_sine_half_lt : {a b : ℕ} → a < b → b ≤ quarter_halves → long_sine_half a < long_sine_half b
long_sine_half_lt h l = sine_by_lt some_halves growth_halves h l

pub long_sine_half_zero : long_sine_half 0 ≡ 0
long_sine_half_zero = halves 0 ∙ long_sine_zero

pub long_sine_half_quarter : long_sine_half quarter_halves ≡ unit
long_sine_half_quarter = top some_halves

pub long_sine_half_1 : long_sine_half 1 ≡ 8_726
unfolding sine_by entry sines sines_from rounded sine_of_step twice_cosine
long_sine_half_1 = refl

pub leg_sine_top : {a : ℕ} → a ≤ quarter_halves → leg_sine a ≤ leg_unit
leg_sine_top h = omega (arith, sine_by_top some_halves h)

-- off zero even the short sine of the length rule is at least 1
pub leg_sine_some : {a : ℕ} → 0 < a → a ≤ quarter_halves → 1 ≤ leg_sine a
leg_sine_some h l = omega (arith, sine_by_le some_halves {a = 1} h l, long_sine_half_1)

-- up to 55 degrees it rises with every half tick
pub leg_sine_lt : {a : ℕ} → a ≤ 1_100_000_000 → leg_sine a < leg_sine (a + 1)
unfolding between
leg_sine_lt {a} h =
    let k = a / step_halves in
    let f = a % step_halves in
    let e : a ≡ k * step_halves + f = omega arith in
    let n : a + 1 ≡ k * step_halves + (f + 1) = omega arith in
    let s = steep k (omega arith) in
    rw (n, to_next some_halves {k = k} (omega arith) {f = f + 1} (omega arith)) (rw (by_row step_halves a) (omega arith))

floored : (g f : ℕ) → (f * g / 200_000 * 200_000 ≤ f * g) × (f * g < (f * g / 200_000 + 1) * 200_000)
floored g f = (div-mul-le_self (f * g) 200_000, omega (arith, lt-div-mul-add {a = f * g} {b = 200_000} (omega arith)))

pub long_sine_between : (k f : ℕ) → f < 200_000 → Between k f (long_sine (k * 200_000 + f))
unfolding between
long_sine_between k f h =
    let g = entry (k + 1) - entry k in
    let e : long_sine (k * 200_000 + f) - entry k ≡ f * g / 200_000 = omega (arith, in_row a_step k h) in
    let p = floored g f in
    record { from = omega (arith, in_row a_step k h); low = rw e p.0; high = rw e p.1 }

-- at every 200,000 ticks the sine is an entry
pub long_sine_entry : (k : ℕ) → long_sine (k * 200_000) ≡ entry k
long_sine_entry k =
    let n : k * 200_000 ≡ k * 200_000 + 0 = omega arith in
    rw n (in_row a_step k a_step ∙ between_start a_step k)

-- "long sine divided by 10,000, dropping toward zero"
pub short_sine_drops : (a : ℕ) → (short_sine a * 10_000 ≤ long_sine a) × (long_sine a < (short_sine a + 1) * 10_000)
short_sine_drops a = (omega arith, omega arith)
