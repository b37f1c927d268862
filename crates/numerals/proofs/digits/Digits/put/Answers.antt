-- Of the digits that are left, the first one is written, and the rest leave the whole in the part.
use Rattle.std.proofs.Common.{◌≡◌, ◌+◌, ◌-◌, suc, length, take, drop, length-take-le, length-drop, ◌∙◌, arith}
use Rattle.std.proofs.lemmas.List.Edits.{sets}
use Rattle.numerals.specs.NumeralSteps.{topmost}
use Rattle.numerals.proofs.NumeralSteps.{topmost_length}
use Rattle.numerals.proofs.Stands.{sets_part}
use Rattle.numerals.proofs.digits.Digits.put.Goals as goal

pub loop-byte-preserved : goal.loop-byte-preserved
loop-byte-preserved c =
    let i = c.loop-byte.byte-index in
    let n = length (take (c.args.at + c.args.self.count - c.args.at) (drop c.args.at c.args.out.now)) in
    let next : n - i ≡ suc (n - suc i) = omega arith in
    let place : i + 1 ≡ suc i = omega arith in
    (omega arith, rw place (rw next at c.loop-byte.invariant.1))

pub returns : goal.returns
returns c =
    let at = c.args.at in
    let out = c.args.out.now in
    let count = c.args.self.count in
    let n = at + count - at in
    let i = c.loop-byte.byte-index in
    let part = take n (drop at out) in
    let few : n ≡ count = omega arith in
    let long : length part ≡ count = length-take-le n (drop at out) (omega (arith, length-drop at out)) ∙ few in
    let done : length part - i ≡ 0 = omega arith in
    let all : c.loop-byte.byte-items ≡ sets part 0 (topmost (length part) c.args.self.value) = rw done at c.loop-byte.invariant.1 in
    sets_part at n out (topmost count c.args.self.value) c.loop-byte.byte-items (omega arith)
    (rw few (topmost_length count c.args.self.value)) (rw long at all)
