-- What a step answers, case by case, for callers that know the case.
-- Assumes nothing.
use Rattle.std.specs.Prelude.{◌≡◌, refl, Bool, true, false, ◌&&◌, ℕ, Float, ℤ, pos, ◌*ℤ◌, if◌then◌else◌, Result, Ok, Err}
use Rattle.std.proofs.Math.Path.{ap}
use Rattle.std.proofs.Common.{◌∙◌, arith}
use Rattle.signed.specs.Tests.{eq_z}
use Rattle.refusals.specs.declared.Refusal.{Refusal}
use Rattle.refusals.specs.declared.Refusal.TheVariants as R
use Rattle.refusals.specs.Choice.{unless, Check}
use Rattle.refusals.specs.Tests.{by_test}
use Rattle.ticks.specs.Ticks.{offset_of, sheet_refusal}
use Rattle.globe.specs.declared.Place.{Place}
use Rattle.globe.specs.Angle.{short_cosine}
use Rattle.globe.specs.Sheet.{place, place_of, sinusoidal_of}
use Rattle.pen.specs.declared.Window.{Window}
use Rattle.pen.specs.declared.Pen.{Pen}
use Rattle.pen.specs.declared.Stroke.TheVariants.{Outside, Move, Line}
use Rattle.pen.specs.Position.{millimetres, across, float, scaled}
use Rattle.pen.specs.Pen.{is_window, is_divisor, inside, up, lowered, step_with, drawn, place_in, step_at, step_of}

unless_ok : {A : Type 0} (t : Bool) (r : Refusal) (a : Result A Refusal) {v : A} → unless t (Err r) a ≡ Ok v → a ≡ Ok v
unless_ok true r a e = e
unless_ok false r a e = grind arith

-- a place that a step may draw is the point's
pub placed_lem : (w : Window) (divisor : ℕ) (meridian lat lon : ℤ) {p : Place} → place_in w divisor meridian lat lon ≡ Ok p
    → sinusoidal_of lat lon meridian ≡ Ok p
unfolding place_in
placed_lem w divisor meridian lat lon e = unless_ok (is_divisor divisor) R.Divisor _ (unless_ok (is_window w) R.Window _ e)

module _ (pen : Pen) (w : Window) (divisor : ℕ) (meridian lat lon third : ℤ) where
  pub no_window : is_window w ≡ false → step_of pen w divisor meridian lat lon third ≡ step_with pen (Err R.Window)
  unfolding step_of place_in
  no_window e = rw e

  pub no_divisor : is_window w ≡ true → is_divisor divisor ≡ false → step_of pen w divisor meridian lat lon third ≡ step_with pen (Err R.Divisor)
  unfolding step_of place_in
  no_divisor e f = rw (e, f)

  pub step_placed : is_window w ≡ true → is_divisor divisor ≡ true
      → step_of pen w divisor meridian lat lon third ≡ step_at pen (drawn pen w divisor third) (sinusoidal_of lat lon meridian)
  unfolding step_of place_in
  step_placed e f = rw (e, f)

  -- what an accepted step tells
  pub record Accepted : Type 0 where
    pub window : is_window w ≡ true
    pub divided : is_divisor divisor ≡ true
    pub placed : sinusoidal_of lat lon meridian ≡ Ok (place (offset_of lon meridian *ℤ pos (short_cosine lat)) lat)

  -- a step is what refuses it with the pen it got, or what is drawn at X and Y
  pub data Says : Type 0 where
    refused : (r : Refusal) → step_of pen w divisor meridian lat lon third ≡ step_with pen (Err r) → Says
    accepted : Accepted
        → step_of pen w divisor meridian lat lon third
        ≡ drawn pen w divisor third (float (across (offset_of lon meridian *ℤ pos (short_cosine lat)))) (float (millimetres lat))
        → Says

  pub says : Says
  says =
      by_test (is_window w) (λ p. by_test (is_divisor divisor) (λ q. judged p q (sheet_refusal lat lon meridian) refl) (λ q. refused _ (no_divisor p q)))
      (λ p. refused _ (no_window p))
    where
      judged : is_window w ≡ true → is_divisor divisor ≡ true → (c : Check) → sheet_refusal lat lon meridian ≡ c → Says
      judged p q (Ok x) r =
          let at : sinusoidal_of lat lon meridian ≡ Ok (place (offset_of lon meridian *ℤ pos (short_cosine lat)) lat) = unfold place_of in rw r in
          accepted (record { window = p; divided = q; placed = at })
          (step_placed p q ∙ ap (step_at pen (drawn pen w divisor third)) at)
      judged p q (Err e) r =
          let at : sinusoidal_of lat lon meridian ≡ Err e = unfold place_of in rw r in
          refused e (step_placed p q ∙ ap (step_at pen (drawn pen w divisor third)) at)

-- which of the three a drawn step is
pub by_stroke : {A : Type 0} (i j : Bool) → (i ≡ false → A) → (i ≡ true → j ≡ false → A) → (i ≡ true → j ≡ true → A) → A
by_stroke i j o m l = by_test i (λ e. by_test j (l e) (m e)) o

module _ (pen : Pen) (w : Window) (divisor : ℕ) (third : ℤ) (x y : Float) where
  pub drawn_outside : inside w x y ≡ false → drawn pen w divisor third x y ≡ step_with up (Ok Outside)
  unfolding drawn
  drawn_outside e = rw e

  pub drawn_inside : (joined : Bool) → inside w x y ≡ true → pen.down && eq_z third (pos 0) ≡ joined
      → drawn pen w divisor third x y ≡ step_with lowered (Ok ((if joined then Line else Move) (scaled divisor x) (scaled divisor y)))
  unfolding drawn
  drawn_inside joined e f = rw (e, f)
