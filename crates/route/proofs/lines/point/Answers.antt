-- A latitude and a longitude in range fit 32 bits.
use Rattle.std.proofs.Common.{◌≡◌, true, sym, ◌∙◌, w32, FitsSigned}
use borrow.Author.Tests.{lt-ltb}
use mir.Facts.{to_z-of_z}
use Rattle.signed.specs.Machine.{at32, wider}
use Rattle.points.specs.Points.{most_points}
use Rattle.ticks.proofs.TickLaws.{latitude_fits, longitude_fits}
use Rattle.numbers.specs.Pieces.{is_byte}
use Prim.Native.Char.{code}
use Rattle.numbers.specs.declared.Kind.TheVariants as K
use Rattle.numbers.proofs.NumberLaws.{number_in, latitude_in, longitude_in}
use Rattle.route.specs.Line.{point_of}
use Rattle.route.proofs.lines.point.Goals as goal
use Rattle.route.proofs.lines.point.Goals.{In_ok-x}

latitude_fits_32 : (c : In_ok-x) → FitsSigned w32 c.in_ok-y.y
latitude_fits_32 c = let v = c.in_ok-y.y in latitude_fits (latitude_in v (number_in K.Latitude _ _ v (sym c.read.ensures ∙ c.in_ok-y.was)))

longitude_fits_32 : (c : In_ok-x) → FitsSigned w32 c.in_ok-x.x
longitude_fits_32 c = let v = c.in_ok-x.x in longitude_fits (longitude_in v (number_in K.Longitude _ _ v (sym c.read-2.ensures ∙ c.in_ok-x.was)))

pub overflow_cast-result : goal.overflow_cast-result
overflow_cast-result c = let f = latitude_fits_32 c in rw (to_z-of_z (wider f)) f

pub overflow_cast-result-2 : goal.overflow_cast-result-2
overflow_cast-result-2 c = let f = longitude_fits_32 c in rw (to_z-of_z (wider f)) f

pub returns : goal.returns
unfolding point_of
returns c =
    let f = latitude_fits_32 c in
    let g = longitude_fits_32 c in
    let is_p : is_byte (code "p") c.args.kind.now ≡ true = sym c.is_byte.ensures ∙ c.if-not-is_byte.false in
    rw (is_p, lt-ltb c.args.points most_points c.if-points-ge-MOST_POINTS.false, sym c.read.ensures ∙ c.in_ok-y.was, sym c.read-2.ensures ∙ c.in_ok-x.was, at32 (wider f) f, at32 (wider g) g)
