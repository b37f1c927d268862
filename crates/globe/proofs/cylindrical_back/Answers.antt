use Rattle.std.proofs.Common.{◌≡◌, true, sym, ap, ◌∙◌, ℤ, nat_abs, w64, to_z, of_z, FitsSigned, arith, rules}
use mir.Facts.{to_z-of_z}
use Rattle.refusals.specs.Tests.{told}
use Rattle.signed.specs.Machine.{at64, kept}
use Rattle.signed.specs.Sign.{sign_as, nearest}
use Rattle.signed.specs.SignLaws.{as_size, as_fits, nearest_self}
use Rattle.sines.specs.BackLaws.{LastAngle}
use Rattle.sines.specs.Sine.{step, long_sine}
use Rattle.ticks.specs.Ticks.{is_latitude, is_longitude}
use Rattle.ticks.proofs.TickLaws.{size_latitude, latitude_fits}
use Rattle.globe.specs.Sheet.{cylinder}
use Rattle.globe.proofs.SheetLaws.{back_nobody, back_at, latitude_is, height_is, sine_is}
use Rattle.globe.proofs.cylindrical_back.Goals as goal
use Rattle.globe.proofs.cylindrical_back.Goals.{After-with_sign_of}

pub returns-then-long_sine_of-size : goal.returns-then-long_sine_of-size
returns-then-long_sine_of-size c =
    let a = c.args in
    let y : FitsSigned w64 a.place.y = search rules in
    let meridian = told is_longitude (at64 c.ranges.meridian) c.is_longitude.ensures c.if-not-is_longitude.false in
    let size_is : c.size64-size.result ≡ nat_abs a.place.y = rw (to_z-of_z y) at c.size64-size.ensures in
    let last : LastAngle step (nat_abs a.place.y) c.last_angle-a.result = rw size_is at c.last_angle-a.ensures in
    rw (back_nobody cylinder a.place.x a.place.y a.meridian meridian (λ _ e. c.if-long_sine_of-size.true (c.long_sine_of.ensures ∙ sine_is a.place.y last e ∙ sym size_is)))

-- the last angle for the size of y is the one, and with the sign of y it is a latitude
module _ (c : After-with_sign_of) where
  y_fits : FitsSigned w64 c.args.place.y
  y_fits = search rules

  x_fits : FitsSigned w64 c.args.place.x
  x_fits = search rules

  size_is : c.size64-size.result ≡ nat_abs c.args.place.y
  size_is = rw (to_z-of_z y_fits) at c.size64-size.ensures

  last : LastAngle step (nat_abs c.args.place.y) c.last_angle-a.result
  last = rw size_is at c.last_angle-a.ensures

  sine : long_sine c.last_angle-a.result ≡ nat_abs c.args.place.y
  sine = sym c.long_sine_of.ensures ∙ c.if-long_sine_of-size.false ∙ size_is

  in_range : is_latitude (sign_as c.args.place.y c.last_angle-a.result) ≡ true
  in_range = size_latitude (sign_as c.args.place.y c.last_angle-a.result) (omega (arith, as_size c.args.place.y c.last_angle-a.result, last.inside))

  is : to_z w64 (of_z w64 c.with_sign_of.result) ≡ sign_as c.args.place.y c.last_angle-a.result
  is =
      let a = c.last_angle-a.result in
      kept w64 c.with_sign_of.result c.with_sign_of.type_inv
      ∙ c.with_sign_of.ensures
      ∙ ap (λ (z : ℤ). nearest w64 (sign_as z a)) (to_z-of_z y_fits)
      ∙ nearest_self w64 (sign_as c.args.place.y a) (as_fits w64 c.args.place.y a (omega (arith, last.inside)))

pub returns : goal.returns
returns c =
    let d = (goal.at.returns c).After-with_sign_of in
    let a = c.args in
    let f = c.ranges in
    let meridian = told is_longitude (at64 f.meridian) c.is_longitude.ensures c.if-not-is_longitude.false in
    rw (back_at cylinder a.place.x a.place.y a.meridian meridian _ (latitude_is a.place.y (last d)) (in_range d) (height_is a.place.y (last d) (sine d)))
    (rw (is d, to_z-of_z (latitude_fits (in_range d)), to_z-of_z (x_fits d), to_z-of_z f.meridian) at c.point_at.ensures)
