-- Laws of the slope: its test falls, what it is at the ends, and how it moves with the two sizes.
-- Assumes nothing.
use Rattle.std.specs.Prelude.{◌≡◌, true, ℕ, ◌-◌, ◌*◌, ◌≤◌, ◌<◌}
use Rattle.std.proofs.Common.{le_refl, le_trans, mul-le-mul, arith, le-leb, leb-true, leb-false}
use Rattle.sines.specs.Sine.{quarter, short_sine}
use Rattle.sines.proofs.SineLaws.{long_sine_zero, long_sine_quarter, short_sine_le, short_sine_some}
use Rattle.sines.specs.Greatest.{IsGreatest}
use Rattle.sines.proofs.GreatestLaws.{greatest_meets}
use Rattle.sines.proofs.Halving.{Falls, up_to, from_up_to}
use Rattle.sines.specs.Slope.{reaches, slope_of}
use Rattle.sines.specs.SlopeLaws.{cosine}

-- it never rises
cosine_le : {a b : ℕ} → a ≤ b → cosine b ≤ cosine a
cosine_le {a} {b} h = short_sine_le {a = quarter - b} {b = quarter - a} (omega arith) (omega arith)

cosine_quarter : cosine quarter ≡ 0
cosine_quarter = rw long_sine_zero

-- ---- the test, as facts that `omega` reads

reaches_le : (d n a : ℕ) → reaches d n a ≡ true → short_sine a * d ≤ cosine a * n
unfolding reaches
reaches_le d n a t = leb-true (short_sine a * d) (cosine a * n) t

le_reaches : (d n a : ℕ) → short_sine a * d ≤ cosine a * n → reaches d n a ≡ true
unfolding reaches
le_reaches d n a h = le-leb (short_sine a * d) (cosine a * n) h

-- it moves with each size and with the angle: the short sine never falls, the short cosine never rises
reaches_more : {d n d' n' a a' : ℕ} → d' ≤ d → n ≤ n' → a' ≤ a → a ≤ quarter → reaches d n a ≡ true → reaches d' n' a' ≡ true
reaches_more {d} {n} {d'} {n'} {a} {a'} p q l h t =
    le_reaches d' n' a' (le_trans (mul-le-mul (short_sine_le l h) p) (le_trans (reaches_le d n a t) (mul-le-mul (cosine_le l) q)))

pub falls : (d n : ℕ) → Falls (reaches d n) quarter
falls d n = record { earlier = λ a b l h t. reaches_more {d = d} {n = n} (le_refl _) (le_refl _) l h t }

-- at 0 it holds always
pub at_zero : (d n : ℕ) → reaches d n 0 ≡ true
at_zero d n = le_reaches d n 0 (rw long_sine_zero (omega arith))

-- ---- the slope

slope_meets : (d n : ℕ) → IsGreatest (reaches d n) quarter (slope_of d n)
unfolding slope_of
slope_meets d n = greatest_meets (reaches d n) (at_zero d n)

pub slope_top : (d n : ℕ) → slope_of d n ≤ quarter
slope_top d n = (slope_meets d n).inside

pub slope_inside : (d n : ℕ) {a : ℕ} → a ≡ slope_of d n → a ≤ quarter
slope_inside d n e = omega (arith, slope_top d n)

-- the words, as facts
pub slope_low : (d n : ℕ) → let a = slope_of d n in short_sine a * d ≤ short_sine (quarter - a) * n
slope_low d n = reaches_le d n (slope_of d n) (slope_meets d n).holds

pub slope_high : (d n v : ℕ) → slope_of d n < v → v ≤ quarter → short_sine (quarter - v) * n < short_sine v * d
unfolding reaches
slope_high d n v l h = leb-false (short_sine v * d) (cosine v * n) ((slope_meets d n).later v l h)

-- it is at least a exactly where the test holds at a
pub at_least : (d n : ℕ) {a : ℕ} → a ≤ quarter → reaches d n a ≡ true → a ≤ slope_of d n
unfolding slope_of
at_least d n h t = up_to (falls d n) (at_zero d n) h t

from_at_least : (d n : ℕ) {a : ℕ} → a ≤ slope_of d n → reaches d n a ≡ true
unfolding slope_of
from_at_least d n l = from_up_to (falls d n) (at_zero d n) l

-- it never grows with d and never falls with n
pub slope_le : {d n d' n' : ℕ} → d' ≤ d → n ≤ n' → slope_of d n ≤ slope_of d' n'
slope_le {d} {n} {d'} {n'} p q =
    at_least d' n' (slope_top d n) (reaches_more {d = d} {n = n} p q (le_refl _) (slope_top d n) (slope_meets d n).holds)

-- 90 degrees where d is 0, and only there
pub slope_up : (n : ℕ) → slope_of 0 n ≡ quarter
slope_up n = omega (arith, slope_top 0 n, at_least 0 n {a = quarter} (le_refl _) (le_reaches 0 n quarter (omega arith)))

pub slope_below : {d : ℕ} (n : ℕ) → 0 < d → slope_of d n < quarter
slope_below {d} n h = omega (arith, slope_top d n, whole)
  where
    whole : quarter ≤ slope_of d n → ⊥
    whole l =
        let t = reaches_le d n quarter (from_at_least d n l) in
        omega (arith, rw (cosine_quarter, long_sine_quarter) at t)

-- 0 where n is 0 and d is not
pub slope_flat : {d : ℕ} → 0 < d → slope_of d 0 ≡ 0
slope_flat {d} h = omega (arith, some)
  where
    some : 0 < slope_of d 0 → ⊥
    some l =
        let a = slope_of d 0 in
        let s = short_sine_some {a = a} l (slope_top d 0) in
        omega (arith, slope_low d 0, mul-le-mul {n₂ = short_sine a} {m₂ = d} s h)
