-- What is promised of the pen: of every step that the door answers, in the paper's numbers. docs/PROMISES.md names these theorems.
-- Assumes nothing.
use Rattle.std.specs.Prelude.{◌≡◌, ◌↔◌, ◌⊎◌, Result, Ok, Err, Bool, not, ◌&&◌, ◌||◌, leb, Float, ℤ, neg_ℤ, ◌*ℤ◌}
use Rattle.std.proofs.Math.Path.{refl}
use Rattle.std.proofs.Common.{sym, ◌∙◌, inl, inr, arith}
use Rattle.std.proofs.Math.Bool.{true, false}
use Prim.Native.Nat.{ℕ, zero, suc, ◌*◌, ◌/◌, ◌^◌, ◌≤◌, ◌<◌}
use borrow.Author.Tests.{leb-true, leb-false, le-leb, lt-leb, not-true, not-false}
use Rattle.std.proofs.Math.Dec.{T}
use Rattle.std.specs.Float.Ieee.{fin, neg, lt, eq, is_nan}
use Rattle.std.proofs.Math.IntN.{pos}
use Rattle.signed.specs.Sides.{mul_neg}
use Rattle.signed.specs.Tests.{eq_z, ne_eq_z}
use Rattle.refusals.specs.Choice.{unless}
use Rattle.refusals.specs.declared.Refusal.{Refusal}
use Rattle.refusals.specs.Tests.{some_number, by_test, clash, and_true, and_no, or_yes}
use Rattle.ticks.specs.Ticks.{is_latitude, is_longitude, offset_of, point_refusal, sheet_refusal}
use Rattle.globe.specs.declared.Place.{Place}
use Rattle.globe.specs.Angle.{short_cosine}
use Rattle.globe.proofs.AngleLaws.{cosine_mirror}
use Rattle.globe.specs.Sheet.{sinusoid, place, place_of, sinusoidal_of}
use Rattle.globe.proofs.SheetLaws.{place_tells}
use Rattle.pen.specs.declared.Window.{Window}
use Rattle.pen.specs.declared.Pen.{Pen}
use Rattle.pen.specs.declared.StepOut.{StepOut}
use Rattle.pen.proofs.FloatLaws.{no_nan, le_lt}
use Rattle.pen.specs.Position.{millimetres, across, float}
use Rattle.pen.proofs.PositionLaws.{is_plain, nearest, across_mirror, millimetres_mirror, float_number, position_nearest, plain, nearest_mirror}
use Rattle.pen.proofs.Reach.{millimetres_within, across_within, place_within}
use Rattle.pen.specs.Pen.{is_window, is_divisor, inside, new_pen, drawn, place_in, step_at, step_of}
use Rattle.pen.proofs.PenLaws.{Accepted, Says, refused, accepted, says, by_stroke}
use Rattle.pen.specs.Paper.{pen_of, pen_paper, step_paper, stepped}

-- ---- the words of the promises, apart from the step

-- "an edge is NaN, left is not below right, or bottom is not below top"
abbrev pub bad_window : Window → Bool
bad_window w = is_nan w.left || is_nan w.right || is_nan w.bottom || is_nan w.top || not (lt w.left w.right) || not (lt w.bottom w.top)

-- X or Y lies past an edge
abbrev pub beyond : Window → Float → Float → Bool
beyond w x y = lt x w.left || lt w.right x || lt y w.bottom || lt w.top y

-- ---- windows and divisors

bad_window_lem : (w : Window) → bad_window w ≡ not (is_window w)
bad_window_lem w = go (lt w.left w.right) (lt w.bottom w.top) refl refl
  where
    nans : Bool
    nans = is_nan w.left || is_nan w.right || is_nan w.bottom || is_nan w.top

    go : (p q : Bool) → lt w.left w.right ≡ p → lt w.bottom w.top ≡ q → nans || not p || not q ≡ not (p && q)
    go true true e f = let x = no_nan _ _ e in let y = no_nan _ _ f in rw (x.0, x.1, y.0, y.1)
    go true false e f = or_yes (nans || false)
    go false q e f = rw (or_yes nans)

all_four : (a b c d : Bool) {i j k l : Bool} → i ≡ not a → j ≡ not b → k ≡ not c → l ≡ not d → i && j && k && l ≡ not (a || b || c || d)
all_four a b c d p q r t = rw (p, q, r, t) (go a b c d)
  where
    go : (a b c d : Bool) → not a && not b && not c && not d ≡ not (a || b || c || d)
    go true b c d = refl
    go false true c d = refl
    go false false true d = refl
    go false false false d = refl

inside_is : (w : Window) (x y : Float) → is_window w ≡ true → is_nan x ≡ false → is_nan y ≡ false → inside w x y ≡ not (beyond w x y)
inside_is w x y e p q =
    let t = and_true (lt w.left w.right) (lt w.bottom w.top) e in
    let a = no_nan _ _ t.0 in
    let b = no_nan _ _ t.1 in
    all_four (lt x w.left) (lt w.right x) (lt y w.bottom) (lt w.top y)
    (le_lt w.left x a.0 p) (le_lt x w.right p a.1) (le_lt w.bottom y b.0 q) (le_lt y w.top q b.1)

out_of_range : (d : ℕ) → is_divisor d ≡ false → (d < 1) ⊎ (1_000_000 < d)
out_of_range d e = by_test (leb 1 d) (λ f. inr (leb-false d 1_000_000 (rw f at e))) (λ f. inl (leb-false 1 d f))

no_range : (d : ℕ) → (d < 1) ⊎ (1_000_000 < d) → is_divisor d ≡ false
no_range d (inl h) = rw (lt-leb 1 d h)
no_range d (inr h) = and_no (leb 1 d) (leb d 1_000_000) (lt-leb d 1_000_000 h)

-- an accepted divisor is exact as a float
divisor_between : (d : ℕ) → is_divisor d ≡ true → (1 ≤ d) × (d ≤ 2 ^ 53)
divisor_between d e = let p = and_true (leb 1 d) (leb d 1_000_000) e in (leb-true 1 d p.0, omega (arith, leb-true d 1_000_000 p.1))

-- ---- what refuses a step

-- the numbers in their order, by five tests
chain : Bool → Bool → Bool → Bool → Bool → ℕ
chain a b c d e = unless a 12 (unless b 13 (unless c 14 (unless d 6 (unless e 7 0))))

twelve : (a b c d e : Bool) → chain a b c d e ≡ 12 → not a ≡ true
unfolding chain
twelve false b c d e h = refl
twelve true false c d e h = absurd (omega arith)
twelve true true false d e h = absurd (omega arith)
twelve true true true false e h = absurd (omega arith)
twelve true true true true false h = absurd (omega arith)
twelve true true true true true h = absurd (omega arith)

thirteen : (a b c d e : Bool) → chain a b c d e ≡ 13 → (not a ≡ false) × (b ≡ false)
unfolding chain
thirteen false b c d e h = absurd (omega arith)
thirteen true false c d e h = (refl, refl)
thirteen true true false d e h = absurd (omega arith)
thirteen true true true false e h = absurd (omega arith)
thirteen true true true true false h = absurd (omega arith)
thirteen true true true true true h = absurd (omega arith)

-- what is drawn is not refused
no_refusal : (got : ℕ) (pen : Pen) (w : Window) (divisor : ℕ) (third : ℤ) (x y : Float) → (step_paper got (drawn pen w divisor third x y)).refusal ≡ 0
unfolding drawn
no_refusal got pen w divisor third x y = by_stroke (inside w x y) (pen.down && eq_z third (pos 0)) (λ i. rw i) (λ i j. rw (i, j)) (λ i j. rw (i, j))

module _ (got : ℕ) (w : Window) (divisor : ℕ) (meridian lat lon third : ℤ) where
  abbrev s : StepOut
  s = stepped got w divisor meridian lat lon third

  abbrev Cases : Type 0
  Cases = Says (pen_of got) w divisor meridian lat lon third

  abbrev cases : Cases
  cases = says (pen_of got) w divisor meridian lat lon third

  number_is : s.refusal ≡ chain (is_window w) (is_divisor divisor) (is_longitude meridian) (is_latitude lat) (is_longitude lon)
  unfolding chain step_of place_in place_of sheet_refusal point_refusal
  number_is =
      by_test (is_window w)
      (λ p.
      by_test (is_divisor divisor)
      (λ q.
      by_test (is_longitude meridian)
      (λ m.
      by_test (is_latitude lat)
      (λ a. by_test (is_longitude lon) (λ o. rw (p, q, m, a, o) (no_refusal got (pen_of got) w divisor third _ _)) (λ o. rw (p, q, m, a, o)))
      (λ a. rw (p, q, m, a)))
      (λ m. rw (p, q, m)))
      (λ q. rw (p, q)))
      (λ p. rw p)

  -- 12, whatever else comes
  pub window_edges : (s.refusal ≡ 12) ↔ (bad_window w ≡ true)
  window_edges = (
    λ h. bad_window_lem w ∙ twelve _ (is_divisor divisor) (is_longitude meridian) (is_latitude lat) (is_longitude lon) (sym number_is ∙ h),
    λ b. number_is ∙ (unfold chain in rw (not-true (is_window w) (sym (bad_window_lem w) ∙ b))),
  )

  -- 13: "divisor outside 1 to 1,000,000", behind 12
  pub divisor_range : (s.refusal ≡ 13) ↔ ((bad_window w ≡ false) × ((divisor < 1) ⊎ (1_000_000 < divisor)))
  divisor_range = (
    λ h.
        let t = thirteen (is_window w) _ (is_longitude meridian) (is_latitude lat) (is_longitude lon) (sym number_is ∙ h) in
        (bad_window_lem w ∙ t.0, out_of_range divisor t.1),
    λ b. number_is ∙ (unfold chain in rw (not-false (is_window w) (sym (bad_window_lem w) ∙ b.0), no_range divisor b.1)),
  )

  -- "Pen step: 12, 13, 14, 6, 7."
  pub point_judged : bad_window w ≡ false → 1 ≤ divisor → divisor ≤ 1_000_000
      → s.refusal ≡ unless (is_longitude meridian) 14 (unless (is_latitude lat) 6 (unless (is_longitude lon) 7 0))
  point_judged b h k = number_is ∙ (unfold chain in rw (not-false (is_window w) (sym (bad_window_lem w) ∙ b), le-leb 1 divisor h, le-leb divisor 1_000_000 k))

  -- "A refusal gives zero in every value beside its number ..; the pen step hands back the pen it got.": its very number
  pub refused_step : (s.refusal ≡ 0 → ⊥) → s ≡ record { refusal = s.refusal; stroke = 0; x = fin false 0 (pos 0); y = fin false 0 (pos 0); pen = got }
  refused_step f = go cases
    where
      go : Cases → s ≡ record { refusal = s.refusal; stroke = 0; x = fin false 0 (pos 0); y = fin false 0 (pos 0); pen = got }
      go (refused r e) = rw e
      go (accepted a e) = absurd (f (rw e (no_refusal got (pen_of got) w divisor third _ _)))

  -- ---- strokes

  abbrev is_inside : Bool
  is_inside = inside w (float (across (offset_of lon meridian *ℤ pos (short_cosine lat)))) (float (millimetres lat))

  abbrev is_joined : Bool
  is_joined = (pen_of got).down && eq_z third (pos 0)

  -- "Outside: the pen is up next."
  pub up_after_outside : s.refusal ≡ 0 → s.stroke ≡ 0 → s ≡ record { refusal = 0; stroke = 0; x = fin false 0 (pos 0); y = fin false 0 (pos 0); pen = 0 }
  unfolding drawn
  up_after_outside h k = go cases
    where
      go : Cases → s ≡ record { refusal = 0; stroke = 0; x = fin false 0 (pos 0); y = fin false 0 (pos 0); pen = 0 }
      go (refused r e) = absurd (omega (arith, rw e at h, some_number r))
      go (accepted a e) =
          by_stroke is_inside is_joined (λ i. rw (e, i)) (λ i j. absurd (omega (arith, rw (e, i, j) at k))) (λ i j. absurd (omega (arith, rw (e, i, j) at k)))

  -- "Inside: ..; the pen is down next."
  pub down_after_stroke : (s.stroke ≡ 0 → ⊥) → s.pen ≡ 1
  unfolding drawn
  down_after_stroke f = go cases
    where
      go : Cases → s.pen ≡ 1
      go (refused r e) = absurd (f (rw e))
      go (accepted a e) = by_stroke is_inside is_joined (λ i. absurd (f (rw (e, i)))) (λ i j. rw (e, i, j)) (λ i j. rw (e, i, j))

  module _ {x y : ℤ} (h : s.refusal ≡ 0) (p : sinusoidal_of lat lon meridian ≡ Ok (place x y)) where
    -- with X and Y as floats before the division
    abbrev past : Bool
    past = beyond w (float (across x)) (float (millimetres y))

    placed_inside : Accepted (pen_of got) w divisor meridian lat lon third → is_inside ≡ not past
    placed_inside a =
        let t = place_tells sinusoid lat lon meridian p in
        let b = place_within lat lon meridian p in
        rw (← t.2, ← t.3)
        (inside_is w (float (across x)) (float (millimetres y)) a.window
        (float_number (across x) (across_within x b.0))
        (float_number (millimetres y) (millimetres_within y b.1)))

    -- "The point is inside when X lies from left to right and Y from bottom to top, edges counted in": outside exactly when one is past an edge
    pub outside_exactly : (s.stroke ≡ 0) ↔ (past ≡ true)
    unfolding drawn
    outside_exactly = go cases
      where
        go : Cases → (s.stroke ≡ 0) ↔ (past ≡ true)
        go (refused r e) = absurd (omega (arith, rw e at h, some_number r))
        go (accepted a e) =
            by_stroke is_inside is_joined (λ i. (λ k. not-false past (sym (placed_inside a) ∙ i), λ b. rw (e, i)))
            (λ i j. (λ k. absurd (omega (arith, rw (e, i, j) at k)), λ b. clash b (not-true past (sym (placed_inside a) ∙ i))))
            (λ i j. (λ k. absurd (omega (arith, rw (e, i, j) at k)), λ b. clash b (not-true past (sym (placed_inside a) ∙ i))))

    -- "Inside: Line if the pen was down and the point's third number is 0", whatever came before
    pub joined_line : past ≡ false → (got ≡ 0 → ⊥) → third ≡ pos 0 → s.stroke ≡ 2
    unfolding drawn
    joined_line b d t = go cases
      where
        joined : (n : ℕ) → (n ≡ 0 → ⊥) → (pen_of n).down && eq_z third (pos 0) ≡ true
        joined zero d = absurd (d refl)
        joined (suc n) d = rw t

        go : Cases → s.stroke ≡ 2
        go (refused r e) = absurd (omega (arith, rw e at h, some_number r))
        go (accepted a e) = rw (e, placed_inside a, b, joined got d)

    -- "otherwise Move"
    pub moved : past ≡ false → (got ≡ 0) ⊎ (third ≡ pos 0 → ⊥) → s.stroke ≡ 1
    unfolding drawn
    moved b u = go cases
      where
        apart : (got ≡ 0) ⊎ (third ≡ pos 0 → ⊥) → is_joined ≡ false
        apart (inl e) = rw e
        apart (inr t) = and_no (pen_of got).down (eq_z third (pos 0)) (ne_eq_z third (pos 0) t)

        go : Cases → s.stroke ≡ 1
        go (refused r e) = absurd (omega (arith, rw e at h, some_number r))
        go (accepted a e) = rw (e, placed_inside a, b, apart u)

  -- "(any other third number counts as 1)"
  pub third_as_1 : (third ≡ pos 0 → ⊥) → s ≡ stepped got w divisor meridian lat lon (pos 1)
  unfolding step_of drawn
  third_as_1 t = rw (at (place_in w divisor meridian lat lon))
    where
      at : (p : Result Place Refusal) → step_at (pen_of got) (drawn (pen_of got) w divisor third) p ≡ step_at (pen_of got) (drawn (pen_of got) w divisor (pos 1)) p
      at (Ok p) = rw (ne_eq_z third (pos 0) t)
      at (Err r) = refl

  -- ---- positions

  -- a finite number and not minus zero, also outside and beside a refusal
  pub positioned : T (is_plain s.x) × T (is_plain s.y)
  unfolding drawn
  positioned = go cases
    where
      go : Cases → T (is_plain s.x) × T (is_plain s.y)
      go (refused r e) = rw e (tt, tt)
      go (accepted a e) =
          let d = divisor_between divisor a.divided in
          let b = place_within lat lon meridian a.placed in
          let x = plain divisor d.0 d.1 _ (across_within (offset_of lon meridian *ℤ pos (short_cosine lat)) b.0) in
          let y = plain divisor d.0 d.1 _ (millimetres_within lat b.1) in
          by_stroke is_inside is_joined (λ i. rw (e, i) (tt, tt)) (λ i j. rw (e, i, j) (x, y)) (λ i j. rw (e, i, j) (x, y))

  -- "each as a float, divided once by the divisor as a float": the double nearest to the exact quotient
  pub position_is : {x y : ℤ} → (s.stroke ≡ 0 → ⊥) → sinusoidal_of lat lon meridian ≡ Ok (place x y)
      → (s.x ≡ nearest divisor (across x)) × (s.y ≡ nearest divisor (millimetres y))
  unfolding drawn
  position_is {x} {y} f p = go cases
    where
      go : Cases → (s.x ≡ nearest divisor (across x)) × (s.y ≡ nearest divisor (millimetres y))
      go (refused r e) = absurd (f (rw e))
      go (accepted a e) =
          let t = place_tells sinusoid lat lon meridian p in
          let d = divisor_between divisor a.divided in
          let b = place_within lat lon meridian p in
          let u = position_nearest divisor d.0 d.1 (across x) (across_within x b.0) in
          let v = position_nearest divisor d.0 d.1 (millimetres y) (millimetres_within y b.1) in
          by_stroke is_inside is_joined (λ i. absurd (f (rw (e, i)))) (λ i j. rw (e, i, j, ← t.2, ← t.3) (u, v)) (λ i j. rw (e, i, j, ← t.2, ← t.3) (u, v))

  -- a stroke tells that the step was accepted
  drew : (s.stroke ≡ 0 → ⊥) → Accepted (pen_of got) w divisor meridian lat lon third
  drew f = go cases
    where
      go : Cases → Accepted (pen_of got) w divisor meridian lat lon third
      go (refused r e) = absurd (f (rw e))
      go (accepted a e) = a

-- ---- two steps

-- inside is tested "before the division": the divisor does not matter
pub any_divisor : (got : ℕ) (w : Window) (divisor divisor' : ℕ) (meridian lat lon third : ℤ)
    → (stepped got w divisor meridian lat lon third).refusal ≡ 0 → (stepped got w divisor' meridian lat lon third).refusal ≡ 0
    → (stepped got w divisor meridian lat lon third).stroke ≡ (stepped got w divisor' meridian lat lon third).stroke
unfolding drawn
any_divisor got w divisor divisor' meridian lat lon third h k =
    go (says (pen_of got) w divisor meridian lat lon third) (says (pen_of got) w divisor' meridian lat lon third)
  where
    go : Says (pen_of got) w divisor meridian lat lon third → Says (pen_of got) w divisor' meridian lat lon third
        → (stepped got w divisor meridian lat lon third).stroke ≡ (stepped got w divisor' meridian lat lon third).stroke
    go (refused r e) c = absurd (omega (arith, rw e at h, some_number r))
    go (accepted a e) (refused r f) = absurd (omega (arith, rw f at k, some_number r))
    go (accepted a e) (accepted b f) =
        by_stroke (is_inside got w divisor meridian lat lon third) (is_joined got w divisor meridian lat lon third)
        (λ i. rw (e, f, i)) (λ i j. rw (e, f, i, j)) (λ i j. rw (e, f, i, j))

-- points of one latitude with opposite offsets are drawn as far west as east of the middle
pub west_mirrors_east : (got : ℕ) (w : Window) (divisor : ℕ) (meridian lat lon lon' third : ℤ) → offset_of lon' meridian ≡ neg_ℤ (offset_of lon meridian)
    → ((stepped got w divisor meridian lat lon third).stroke ≡ 0 → ⊥) → ((stepped got w divisor meridian lat lon' third).stroke ≡ 0 → ⊥)
    → (eq (stepped got w divisor meridian lat lon' third).x (neg (stepped got w divisor meridian lat lon third).x) ≡ true)
    × ((stepped got w divisor meridian lat lon' third).y ≡ (stepped got w divisor meridian lat lon third).y)
west_mirrors_east got w divisor meridian lat lon lon' third o f g =
    let x = offset_of lon meridian *ℤ pos (short_cosine lat) in
    let c = drew got w divisor meridian lat lon third f in
    let d = divisor_between divisor c.divided in
    let a = position_is got w divisor meridian lat lon third f c.placed in
    let b = position_is got w divisor meridian lat lon' third g (drew got w divisor meridian lat lon' third g).placed in
    let e : across (offset_of lon' meridian *ℤ pos (short_cosine lat)) ≡ neg_ℤ (across x) = rw (o, mul_neg (offset_of lon meridian) (short_cosine lat)) (across_mirror x) in
    (rw (b.0, a.0, e) (nearest_mirror divisor d.0 d.1 (across x) (across_within x (place_within lat lon meridian c.placed).0)), b.1 ∙ sym a.1)

-- and points of one longitude and opposite latitudes as far south as north
pub south_mirrors_north : (got : ℕ) (w : Window) (divisor : ℕ) (meridian lat lon third : ℤ)
    → ((stepped got w divisor meridian lat lon third).stroke ≡ 0 → ⊥) → ((stepped got w divisor meridian (neg_ℤ lat) lon third).stroke ≡ 0 → ⊥)
    → ((stepped got w divisor meridian (neg_ℤ lat) lon third).x ≡ (stepped got w divisor meridian lat lon third).x)
    × (eq (stepped got w divisor meridian (neg_ℤ lat) lon third).y (neg (stepped got w divisor meridian lat lon third).y) ≡ true)
south_mirrors_north got w divisor meridian lat lon third f g =
    let c = drew got w divisor meridian lat lon third f in
    let d = divisor_between divisor c.divided in
    let a = position_is got w divisor meridian lat lon third f c.placed in
    let b = position_is got w divisor meridian (neg_ℤ lat) lon third g (drew got w divisor meridian (neg_ℤ lat) lon third g).placed in
    let m = nearest_mirror divisor d.0 d.1 (millimetres lat) (millimetres_within lat (place_within lat lon meridian c.placed).1) in
    (rw (b.0, cosine_mirror lat) (sym a.0), rw (b.1, a.1, millimetres_mirror lat) m)

-- ---- pens and millimetres

-- a pen comes back from its number
pub pen_back : (p : Pen) → pen_of (pen_paper p) ≡ p
pen_back p = by_test p.down (λ e. rw e) (λ e. rw e)

-- the pen that a refused step hands back is the one it got
pub refused_pen : (pen : Pen) (w : Window) (divisor : ℕ) (meridian lat lon third : ℤ)
    → ((step_paper (pen_paper pen) (step_of pen w divisor meridian lat lon third)).refusal ≡ 0 → ⊥)
    → (step_of pen w divisor meridian lat lon third).next ≡ pen
refused_pen pen w divisor meridian lat lon third f = go (says pen w divisor meridian lat lon third)
  where
    go : Says pen w divisor meridian lat lon third → (step_of pen w divisor meridian lat lon third).next ≡ pen
    go (refused r e) = rw e
    go (accepted a e) = absurd (f (rw e (no_refusal (pen_paper pen) pen w divisor third _ _)))

-- "A new pen is up.": its first stroke is no line
pub first_stroke : (w : Window) (divisor : ℕ) (meridian lat lon third : ℤ)
    → (step_paper (pen_paper new_pen) (step_of new_pen w divisor meridian lat lon third)).stroke ≡ 2 → ⊥
unfolding drawn
first_stroke w divisor meridian lat lon third h = go (says new_pen w divisor meridian lat lon third)
  where
    go : Says new_pen w divisor meridian lat lon third → ⊥
    go (refused r e) = omega (arith, rw e at h)
    go (accepted a e) = by_test (is_inside 0 w divisor meridian lat lon third) (λ i. omega (arith, rw (e, i) at h)) (λ i. omega (arith, rw (e, i) at h))

-- "Y is latitude × 111,194,927 / 10,000,000", dropping toward zero
pub millimetres_drop : (n : ℕ)
    → (millimetres (pos n) ≡ pos (n * 111_194_927 / 10_000_000)) × (millimetres (neg_ℤ (pos n)) ≡ neg_ℤ (pos (n * 111_194_927 / 10_000_000)))
millimetres_drop n = (refl, millimetres_mirror (pos n))

-- "X is x / 10^9 dropping toward zero, then × 111,194,927 / 10,000,000 dropping toward zero"
pub across_drops : (n : ℕ)
    → (across (pos n) ≡ pos (n / 1_000_000_000 * 111_194_927 / 10_000_000)) × (across (neg_ℤ (pos n)) ≡ neg_ℤ (pos (n / 1_000_000_000 * 111_194_927 / 10_000_000)))
across_drops n = (refl, across_mirror (pos n))
