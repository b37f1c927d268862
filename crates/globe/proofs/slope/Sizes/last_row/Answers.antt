use Rattle.std.proofs.Common.{rules, ◌≡◌, false, sym, ◌∙◌, arith}
use Rattle.sines.specs.SlopeRows.{row_reaches, slope_row}
use Rattle.sines.proofs.Halving.{later, last, or_first}
use Rattle.sines.proofs.SlopeLaws.{at_zero}
use Rattle.sines.proofs.SlopeRows.{row_falls}
use Rattle.globe.proofs.slope.Sizes.last_row.Goals as goal

pub last-requires-clause-falls : goal.last-requires-clause-falls
last-requires-clause-falls c = λ a b r l h p q.
    let low : row_reaches c.args.self.d c.args.self.n a ≡ false = search rules in
    let high : row_reaches c.args.self.d c.args.self.n b ≡ r = search rules in
    sym high ∙ later (row_falls c.args.self.d c.args.self.n) l (omega arith) low

pub returns : goal.returns
unfolding slope_row
returns c =
    let reaches = row_reaches c.args.self.d c.args.self.n in
    let e = c.last.ensures in
    last (row_falls c.args.self.d c.args.self.n) (omega (arith, e.inside)) (or_first reaches (at_zero c.args.self.d c.args.self.n) c.last.result (λ h. let t = e.holds h in search rules))
    (λ h. let t = e.fails (omega arith) in search rules)
