-- What the answer of a test tells, and what a choice by tests comes to.
-- Assumes nothing.
use Rattle.std.specs.Prelude.{◌<◌, ◌≢◌, Result, ◌≡◌, refl, Bool, true, false, not, ◌&&◌, ◌||◌, ℕ, Ok, Err}
use Rattle.std.proofs.Common.{sym, ap, ◌∙◌, arith}
use Rattle.std.proofs.lemmas.Bool.{not-true, not-false}
use Rattle.refusals.specs.declared.Refusal.{Refusal}
use Rattle.refusals.specs.declared.Refusal.TheVariants as R
use Rattle.refusals.specs.Refusal.{number, of_line}
use Rattle.refusals.specs.Choice.{unless, Check, fine, sent, first_of, answered, unrefused}

-- ---- one test

-- what follows from each of its answers
pub by_test : {P : Type 0} (t : Bool) → (t ≡ true → P) → (t ≡ false → P) → P
by_test true f g = f refl
by_test false f g = g refl

-- it has one answer
pub clash : {P : Type 0} {t : Bool} → t ≡ true → t ≡ false → P
clash a b = let z : ◌≡◌ {A = ℕ} 0 1 = cc in absurd (omega arith)

-- what a callee's test tells: y is what the machine read, x the value itself
pub told : {A : Type 0} (f : A → Bool) {x y : A} {r t : Bool} → y ≡ x → r ≡ f y → r ≡ t → f x ≡ t
told f e h t = sym (ap f e) ∙ sym h ∙ t

-- after `if !f(y) { return .. }`
pub passed : {A : Type 0} (f : A → Bool) {x y : A} {r : Bool} → y ≡ x → r ≡ f y → not r ≡ false → f x ≡ true
passed f e h t = told f e h (not-false _ t)

pub failed : {A : Type 0} (f : A → Bool) {x y : A} {r : Bool} → y ≡ x → r ≡ f y → not r ≡ true → f x ≡ false
failed f e h t = told f e h (not-true _ t)

-- ---- two tests

pub and_true : (a b : Bool) → a && b ≡ true → (a ≡ true) × (b ≡ true)
and_true true b e = (refl, e)
and_true false b e = clash e refl

pub true_and : {a b : Bool} → a ≡ true → b ≡ true → a && b ≡ true
true_and p q = rw (p, q)

pub and_yes : (t : Bool) → t && true ≡ t
and_yes true = refl
and_yes false = refl

pub and_no : (a b : Bool) → b ≡ false → a && b ≡ false
and_no true b e = e
and_no false b e = refl

pub or_yes : (t : Bool) → t || true ≡ true
or_yes true = refl
or_yes false = refl

pub or_false : (a b : Bool) → a || b ≡ false → (a ≡ false) × (b ≡ false)
or_false true b e = clash refl e
or_false false b e = (refl, e)

-- ---- choices

-- what holds of what is sent back, and of what is answered where the test holds
pub unless_says : {A : Type 0} (P : A → Type 0) (t : Bool) {r v : A} → P r → (t ≡ true → P v) → P (unless t r v)
unless_says P true p q = q refl
unless_says P false p q = p

-- nothing was refused
pub unless_none : (t : Bool) (r : Refusal) (v : Check) → unless t (Err r) v ≡ fine → (t ≡ true) × (v ≡ fine)
unless_none true r v e = (refl, e)
unless_none false r v e = grind arith

pub first_none : (a b : Check) → first_of a b ≡ fine → (a ≡ fine) × (b ≡ fine)
first_none (Ok tt) b e = (refl, e)
first_none (Err r) b e = grind arith

-- ---- what is answered beside a refusal

pub refuses : {A : Type 0} (c : Check) (v : A) {r : Refusal} → c ≡ Err r → answered c v ≡ Err r
refuses c v e = rw e

pub refuses_too : {A : Type 0} (c : Check) (a : Result A Refusal) {r : Refusal} → c ≡ Err r → unrefused c a ≡ Err r
refuses_too c a e = rw e

-- ---- what is sent back

-- no refusal has the number that says there is none
pub some_number : (r : Refusal) → 0 < number r
some_number R.Text = omega arith
some_number R.Header = omega arith
some_number R.Line = omega arith
some_number R.Number = omega arith
some_number R.Mark = omega arith
some_number R.Latitude = omega arith
some_number R.Longitude = omega arith
some_number R.Order = omega arith
some_number R.Points = omega arith
some_number R.Room = omega arith
some_number R.Place = omega arith
some_number R.Window = omega arith
some_number R.Divisor = omega arith
some_number R.Meridian = omega arith
some_number R.Output = omega arith
some_number R.Target = omega arith
some_number R.Buffer = omega arith
some_number R.Course = omega arith

pub sent_none : (c : Check) → sent c ≡ 0 → c ≡ fine
sent_none (Ok tt) e = refl
sent_none (Err r) e = absurd (omega (arith, some_number r))

-- a line's refusal has neither of the numbers of the two that say line 0
pub line_number : (r : Refusal) → of_line r ≡ true → (number r ≢ 1) × (number r ≢ 10)
line_number R.Text h = (λ e. clash h refl, λ e. clash h refl)
line_number R.Header h = (λ e. omega arith, λ e. omega arith)
line_number R.Line h = (λ e. omega arith, λ e. omega arith)
line_number R.Number h = (λ e. omega arith, λ e. omega arith)
line_number R.Mark h = (λ e. omega arith, λ e. omega arith)
line_number R.Latitude h = (λ e. omega arith, λ e. omega arith)
line_number R.Longitude h = (λ e. omega arith, λ e. omega arith)
line_number R.Order h = (λ e. omega arith, λ e. omega arith)
line_number R.Points h = (λ e. omega arith, λ e. omega arith)
line_number R.Room h = (λ e. clash h refl, λ e. clash h refl)
line_number R.Place h = (λ e. omega arith, λ e. omega arith)
line_number R.Window h = (λ e. omega arith, λ e. omega arith)
line_number R.Divisor h = (λ e. omega arith, λ e. omega arith)
line_number R.Meridian h = (λ e. omega arith, λ e. omega arith)
line_number R.Output h = (λ e. omega arith, λ e. omega arith)
line_number R.Target h = (λ e. omega arith, λ e. omega arith)
line_number R.Buffer h = (λ e. omega arith, λ e. omega arith)
line_number R.Course h = (λ e. omega arith, λ e. omega arith)
