use Rattle.std.proofs.Common.{◌≡◌, refl, w32, w64, to_z, of_z, FitsSigned, rules}
use mir.Facts.{to_z-of_z}
use Rattle.refusals.specs.Tests.{told, clash}
use Rattle.signed.specs.Machine.{at32, at64}
use Rattle.ticks.specs.Ticks.{is_latitude, is_longitude}
use Rattle.ticks.proofs.TickLaws.{latitude_fits}
use Rattle.globe.specs.Sheet.{sinusoid}
use Rattle.globe.proofs.SheetLaws.{back_nobody, back_at}
use Rattle.globe.proofs.sinusoidal_back.Goals as goal

pub returns-then-not-is_latitude : goal.returns-then-not-is_latitude
returns-then-not-is_latitude c =
    let a = c.args in
    let y : FitsSigned w64 a.place.y = search rules in
    let meridian = told is_longitude (at64 c.ranges.meridian) c.is_longitude.ensures c.if-not-is_longitude.false in
    let no = told is_latitude (to_z-of_z y) c.is_latitude.ensures c.if-not-is_latitude.true in
    rw (back_nobody sinusoid a.place.x a.place.y a.meridian meridian (λ t _. clash t no))

pub returns : goal.returns
returns c =
    let a = c.args in
    let y : FitsSigned w64 a.place.y = search rules in
    let x : FitsSigned w64 a.place.x = search rules in
    let meridian = told is_longitude (at64 c.ranges.meridian) c.is_longitude.ensures c.if-not-is_longitude.false in
    let in_range = told is_latitude (to_z-of_z y) c.is_latitude.ensures c.if-not-is_latitude.false in
    let y_is : to_z w32 (of_z w32 (to_z w64 (of_z w64 a.place.y))) ≡ a.place.y = at32 y (latitude_fits in_range) in
    let width_is = rw y_is at c.short_cosine.ensures in
    rw (back_at sinusoid a.place.x a.place.y a.meridian meridian a.place.y refl in_range refl, ← width_is)
    (rw (y_is, to_z-of_z x, to_z-of_z c.ranges.meridian) at c.point_at.ensures)
