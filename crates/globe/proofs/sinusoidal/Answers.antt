use Rattle.std.proofs.Common.{◌≡◌, sym, ap, ◌∙◌, pos, ◌*ℤ◌, w32, w64, to_z, of_z, FitsSigned, arith, rules}
use mathlib.Core.Path.{ap₂}
use mir.ValLaws.{to_z_pos}
use mir.Facts.{to_z-of_z}
use Rattle.refusals.specs.Choice.{fine}
use Rattle.signed.specs.Machine.{at64, kept}
use Rattle.ticks.specs.Ticks.{offset_of, sheet_refusal}
use Rattle.ticks.proofs.TickLaws.{sheet_accepted, offset_longitude, product_fits}
use Rattle.globe.specs.Angle.{short_cosine}
use Rattle.globe.proofs.AngleLaws.{cosine_top}
use Rattle.globe.specs.Sheet.{place_of}
use Rattle.globe.proofs.sinusoidal.Goals as goal
use Rattle.globe.proofs.sinusoidal.Goals.{After-short_cosine}

-- offset × short cosine, as the machine has the two
module _ (c : After-short_cosine) where
  latitude_fits_32 : FitsSigned w32 c.args.point.latitude
  latitude_fits_32 = search rules

  longitude_fits_32 : FitsSigned w32 c.args.point.longitude
  longitude_fits_32 = search rules

  unrefused : sheet_refusal c.args.point.latitude c.args.point.longitude c.args.meridian ≡ fine
  unrefused =
      let f = c.ranges in
      sym (rw (to_z-of_z latitude_fits_32, to_z-of_z longitude_fits_32, to_z-of_z f.meridian) at c.check_sheet.ensures) ∙ c.in_ok-check_sheet.was

  off : to_z w64 (of_z w64 c.offset.result) ≡ offset_of c.args.point.longitude c.args.meridian
  off = kept w64 c.offset.result c.offset.type_inv ∙ c.offset.ensures ∙ ap₂ offset_of (to_z-of_z longitude_fits_32) (to_z-of_z c.ranges.meridian)

  cosine : to_z w64 c.short_cosine.result ≡ pos (short_cosine c.args.point.latitude)
  cosine =
      let e = rw (to_z-of_z latitude_fits_32) at c.short_cosine.ensures in
      to_z_pos w64 c.short_cosine.result (omega (arith, e, cosine_top c.args.point.latitude)) ∙ ap pos e

  fits : FitsSigned w64 (offset_of c.args.point.longitude c.args.meridian *ℤ pos (short_cosine c.args.point.latitude))
  fits = let a = sheet_accepted _ _ _ unrefused in product_fits _ _ (offset_longitude _ _ a.2 a.0) (cosine_top c.args.point.latitude)

pub overflow_mul-result : goal.overflow_mul-result
overflow_mul-result c = rw (off c, cosine c) (fits c)

pub returns : goal.returns
unfolding place_of
returns c =
    let d = (goal.at.returns c).After-short_cosine in
    rw (unrefused d, off d, cosine d, to_z-of_z (fits d), at64 (latitude_fits_32 d))
