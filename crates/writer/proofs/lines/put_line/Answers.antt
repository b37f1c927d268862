use Rattle.std.proofs.Common.{◌∷◌, ◌++◌}
use Prim.Native.Char.{code}
use mir.Facts.{to_z-of_z}
use Rattle.numbers.specs.declared.Kind.TheVariants as K
use Rattle.numbers.specs.Pieces.{LF}
use Rattle.numerals.proofs.Stands.{Stands, stands_none, stands_byte, stands_more, stands_all}
use Rattle.writer.specs.RouteText.{field_of}
use Rattle.writer.proofs.lines.put_line.Goals as goal

pub returns-clause-left : goal.returns-clause-left
returns-clause-left c =
    let a = c.args in
    let out = a.out.now in
    let e = rw (to_z-of_z c.ranges.latitude) at c.put_field-middle.ensures in
    let f = rw (to_z-of_z c.ranges.longitude) at c.put_field-end.ensures in
    let first = field_of K.Latitude a.mark a.latitude in
    let second = field_of K.Longitude a.mark a.longitude in
    let half : Stands out a.at (code "p" ∷ first) c.put_field-middle.result c.put_field-middle.new.out
    = stands_more (stands_byte (stands_none out a.at) (code "p")) first (e.next, e.left) in
    let both : Stands out a.at (code "p" ∷ (first ++ second)) c.put_field-end.result c.put_field-end.new.out = stands_more half second (f.next, f.left) in
    (stands_all (stands_byte both LF)).1
