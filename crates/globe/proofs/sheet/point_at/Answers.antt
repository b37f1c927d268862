-- The quotient and its product with the width lie between 0 and x, so both fit.
use Rattle.std.proofs.Common.{◌≡◌, ℕ, true, ap, ◌∙◌, ℤ, pos, ◌+ℤ◌, ◌*ℤ◌, ◌<◌, ◌^◌, w32, w64, to_z, of_z, FitsSigned, arith}
use Rattle.std.specs.Int.Signed.{quot_z}
use borrow.Author.Tests.{ne_eqb}
use mir.ValLaws.{to_z_pos}
use mir.Facts.{to_z-of_z}
use Rattle.refusals.specs.Tests.{told}
use Rattle.signed.specs.Tests.{eq_eq_z, ne_eq_z}
use Rattle.signed.specs.Machine.{at64, kept, quot_fits, exact_fits, same_bits}
use Rattle.ticks.specs.Ticks.{is_longitude, turned}
use Rattle.ticks.proofs.TickLaws.{is_longitude_lem, longitude_fits, sum_longitude, sum_fits}
use Rattle.globe.proofs.sheet.point_at.Goals as goal
use Rattle.globe.proofs.sheet.point_at.Goals.{After-into_turn-longitude}

-- the width and the quotient, as the machine has them
module _ (w : ℕ) (x : ℤ) (small : w < 2 ^ 63) (f : FitsSigned w64 x) where
  w_is : to_z w64 w ≡ pos w
  w_is = to_z_pos w64 w small

  q_is : to_z w64 (of_z w64 (quot_z (to_z w64 (of_z w64 x)) (to_z w64 w))) ≡ quot_z x (pos w)
  q_is = rw (to_z-of_z f, w_is) (to_z-of_z (quot_fits w64 w f))

pub returns-then-offset-w : goal.returns-then-offset-w
returns-then-offset-w c =
    let w = c.args.width in
    let x = c.args.x in
    let small : w < 2 ^ 63 = omega arith in
    let f = c.ranges.x in
    rw (ne_eqb w 0 c.if-width-eq0.false, ne_eq_z (quot_z x (pos w) *ℤ pos w) x (λ e. (rw (q_is w x small f, w_is w x small f) at c.if-offset-w.true) (ap (of_z w64) e)))

-- the longitude
module _ (c : After-into_turn-longitude) where
  small : c.args.width < 2 ^ 63
  small = omega arith

  quotient_is : to_z w64 (of_z w64 (quot_z (to_z w64 (of_z w64 c.args.x)) (to_z w64 c.args.width))) ≡ quot_z c.args.x (pos c.args.width)
  quotient_is = q_is c.args.width c.args.x small c.ranges.x

  in_range : is_longitude (quot_z c.args.x (pos c.args.width)) ≡ true
  in_range = told is_longitude quotient_is c.is_longitude.ensures c.if-not-is_longitude.false

  is : to_z w64 (of_z w64 c.into_turn-longitude.result) ≡ turned (c.args.meridian +ℤ quot_z c.args.x (pos c.args.width))
  is =
      kept w64 c.into_turn-longitude.result c.into_turn-longitude.type_inv
      ∙ c.into_turn-longitude.ensures
      ∙ rw (at64 c.ranges.meridian, quotient_is)
      (ap turned (to_z-of_z (sum_fits (quot_z c.args.x (pos c.args.width)) c.args.meridian in_range c.requires.meridian_value)))

  fits : FitsSigned w32 (turned (c.args.meridian +ℤ quot_z c.args.x (pos c.args.width)))
  fits = longitude_fits (is_longitude_lem _ (sum_longitude (quot_z c.args.x (pos c.args.width)) c.args.meridian in_range c.requires.meridian_value))

pub overflow_cast-result : goal.overflow_cast-result
overflow_cast-result c = rw (is c) (fits c)

pub returns : goal.returns
returns c =
    let w = c.args.width in
    let x = c.args.x in
    let exact : quot_z x (pos w) *ℤ pos w ≡ x
    = same_bits w64 (exact_fits w64 w c.ranges.x) c.ranges.x (rw (quotient_is c, w_is w x (small c) c.ranges.x) at c.if-offset-w.false) in
    rw (is c, to_z-of_z (fits c), to_z-of_z c.ranges.latitude, ne_eqb w 0 c.if-width-eq0.false, eq_eq_z _ _ exact, in_range c)
