-- Comparisons of floats: nothing is below or above a NaN, and of two other floats the first is at most the second unless the second is below it.
-- Assumes nothing.
use Rattle.std.specs.Prelude.{◌≡◌, refl, Bool, true, false, not, ◌&&◌, ◌||◌, ℕ, ◌+◌, ◌*◌, ltb, eqb, Float, cond, Some, None}
use Rattle.std.proofs.Common.{Less, Equal, Greater, arith, ltb-true, ltb-false, eqb-true, eq-eqb}
use Rattle.std.proofs.lemmas.Bool.{eqb-false}
use Rattle.std.specs.Ordering.{partial_le, float_partial_cmp, is_some_and, is_le}
use Rattle.std.specs.Float.{nan, inf, fin}
use Rattle.std.specs.Float.Ieee.{up, down, lt, le, eq, below, level, is_nan}
use Rattle.refusals.specs.Tests.{clash}

pub no_nan : (x y : Float) → lt x y ≡ true → (is_nan x ≡ false) × (is_nan y ≡ false)
unfolding lt is_nan
no_nan nan y e = clash e refl
no_nan (inf s) nan e = clash e refl
no_nan (inf s) (inf t) e = (refl, refl)
no_nan (inf s) (fin t n d) e = (refl, refl)
no_nan (fin s m e') nan e = clash e refl
no_nan (fin s m e') (inf t) e = (refl, refl)
no_nan (fin s m e') (fin t n d) e = (refl, refl)

-- sizes a and b with one sign, q being whether they are equal
sizes : (a b : ℕ) (q : Bool) → eqb a b ≡ q → ltb a b || (q && true) ≡ not (ltb b a)
sizes a b q f = go (ltb a b) q (ltb b a) refl f refl
  where
    go : (p q r : Bool) → ltb a b ≡ p → eqb a b ≡ q → ltb b a ≡ r → p || (q && true) ≡ not r
    go true q true e f g = absurd (omega (arith, ltb-true a b e, ltb-true b a g))
    go true q false e f g = refl
    go false true true e f g = absurd (omega (arith, eqb-true a b f, ltb-true b a g))
    go false true false e f g = refl
    go false false true e f g = refl
    go false false false e f g = absurd (eqb-false a b f (omega (arith, ltb-false a b e, ltb-false b a g)))

swap : (a b : ℕ) → eqb b a ≡ eqb a b
swap a b = go (eqb b a) (eqb a b) refl refl
  where
    go : (p q : Bool) → eqb b a ≡ p → eqb a b ≡ q → p ≡ q
    go true true e f = refl
    go true false e f = absurd (eqb-false a b f (omega (arith, eqb-true b a e)))
    go false true e f = absurd (eqb-false b a e (omega (arith, eqb-true a b f)))
    go false false e f = refl

-- and with two signs: only zero is both
zeros : (a b c : ℕ) → c ≡ a + b → eqb a b && eqb a 0 ≡ not (ltb 0 c)
zeros a b c h = go (eqb a b) (eqb a 0) (ltb 0 c) refl refl refl
  where
    go : (p q r : Bool) → eqb a b ≡ p → eqb a 0 ≡ q → ltb 0 c ≡ r → p && q ≡ not r
    go true true true e f g = absurd (omega (arith, eqb-true a b e, eqb-true a 0 f, ltb-true 0 c g))
    go true true false e f g = refl
    go true false true e f g = refl
    go true false false e f g = absurd (eqb-false a 0 f (omega (arith, ltb-false 0 c g)))
    go false q true e f g = refl
    go false q false e f g = absurd (eqb-false a b e (omega (arith, ltb-false 0 c g)))

or_not : (p : Bool) → p || not p ≡ true
or_not true = refl
or_not false = refl

at_most : (s t : Bool) (a b : ℕ) → below s a t b || level s a t b ≡ not (below t b s a)
at_most false false a b = sizes a b (eqb a b) refl
at_most false true a b = zeros a b (b + a) (omega arith)
at_most true false a b = rw (zeros a b (a + b) refl) (or_not (ltb 0 (a + b)))
at_most true true a b = sizes b a (eqb a b) (swap a b)

pub le_lt : (x y : Float) → is_nan x ≡ false → is_nan y ≡ false → le x y ≡ not (lt y x)
unfolding le lt eq is_nan
le_lt nan y p q = clash refl p
le_lt (inf s) nan p q = clash refl q
le_lt (fin s m e) nan p q = clash refl q
le_lt (inf true) (inf true) p q = refl
le_lt (inf true) (inf false) p q = refl
le_lt (inf false) (inf true) p q = refl
le_lt (inf false) (inf false) p q = refl
le_lt (inf true) (fin t n d) p q = refl
le_lt (inf false) (fin t n d) p q = refl
le_lt (fin s m e) (inf true) p q = refl
le_lt (fin s m e) (inf false) p q = refl
le_lt (fin s m e) (fin t n d) p q = at_most s t (m * up e * down d) (n * up d * down e)

pub eq_self : (x : Float) → is_nan x ≡ false → eq x x ≡ true
unfolding eq is_nan
eq_self nan p = clash refl p
eq_self (inf true) p = refl
eq_self (inf false) p = refl
eq_self (fin true m e) p = rw (eq-eqb (m * up e * down e) (m * up e * down e) refl)
eq_self (fin false m e) p = rw (eq-eqb (m * up e * down e) (m * up e * down e) refl)

-- ---- ranges

-- what the library's order says is `le`
pub partial_le_is : (x y : Float) → partial_le float_partial_cmp x y ≡ le x y
unfolding le
partial_le_is x y = go (lt x y) (eq x y) (lt y x)
  where
    go : (a b c : Bool) → is_some_and is_le (cond a (Some Less) (cond b (Some Equal) (cond c (Some Greater) None))) ≡ a || b
    go true b c = refl
    go false true c = refl
    go false false true = refl
    go false false false = refl
