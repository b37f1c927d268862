use Rattle.std.proofs.Common.{rules, leb, ◌≡◌, ℕ, Bool, true, false, sym, ◌∙◌, ◌+◌, ◌-◌, ◌*◌, ◌≤◌, arith}
use Rattle.sines.specs.Sine.{step, quarter}
use Rattle.sines.specs.Slope.{reaches, slope_of}
use Rattle.sines.specs.SlopeRows.{share_of}
use Rattle.sines.proofs.Halving.{Within, later, last, or_first, or_end}
use Rattle.sines.proofs.SlopeLaws.{falls}
use Rattle.sines.proofs.SlopeRows.{in_test, row_within}
use Rattle.globe.proofs.slope.Sizes.in_row.Goals as goal
use Rattle.globe.proofs.slope.Sizes.in_row.Goals.{After-entry-2}

-- the test that each turn makes
abbrev tested : After-entry-2 → ℕ → Bool
tested c f =
    let sine = c.entry-sine.result in
    let cosine = c.entry-cosine.result in
    leb (share_of sine (c.entry.result - sine) f * c.args.self.d) (share_of cosine (c.entry-2.result - cosine) (step - f) * c.args.self.n)

test_is : (c : After-entry-2) (f : ℕ) → f ≤ step → reaches c.args.self.d c.args.self.n (c.args.k * step + f) ≡ tested c f
test_is c f l = in_test c.requires.k_lt_rows c.args.self.d c.args.self.n l c.entry-sine.ensures c.entry.ensures c.entry-cosine.ensures c.entry-2.ensures

pub last-f-requires-clause-falls : goal.last-f-requires-clause-falls
last-f-requires-clause-falls c = λ a b r l h p q.
    let at = (goal.at.last-f-requires-clause-falls c).After-entry-2 in
    let low : tested at a ≡ false = search rules in
    let high : tested at b ≡ r = search rules in
    let k = c.args.k * step in
    sym high
    ∙ sym (test_is at b (omega arith))
    ∙ later (falls c.args.self.d c.args.self.n) {a = k + a} {b = k + b} (omega arith) (omega (arith, c.requires.k_lt_rows)) (test_is at a (omega arith) ∙ low)

pub returns : goal.returns
unfolding slope_of
returns c =
    let at = (goal.at.returns c).After-entry-2 in
    let e = c.last-f.ensures in
    let d = c.args.self.d in
    let n = c.args.self.n in
    let k = c.args.k * step in
    let f = c.last-f.result in
    let reached : ℕ → Bool = λ f. reaches d n (k + f) in
    let w : Within (reaches d n) quarter k step = rw c.requires.k_value (row_within d n (omega (arith, c.requires.k_value, c.requires.k_lt_rows))) in
    let holds : reached f ≡ true
    = or_first reached (let here : k + 0 ≡ k = omega arith in rw here w.holds) f (λ h. test_is at f (omega (arith, e.inside)) ∙ (let t = e.holds h in search rules)) in
    let fails : reached (f + 1) ≡ false
    = or_end reached (w.fails (omega (arith, c.requires.k_lt_rows))) e.inside (λ h. test_is at (f + 1) (omega arith) ∙ (let t = e.fails h in search rules)) in
    last (falls d n) {u = k + f} (omega (arith, e.inside, c.requires.k_lt_rows)) holds (λ _. let next : k + f + 1 ≡ k + (f + 1) = omega arith in rw next fails)
