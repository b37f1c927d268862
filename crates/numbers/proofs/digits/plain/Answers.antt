-- What the digits make together is below what the kind can make, so it fits.
use Rattle.std.proofs.Common.{◌≡◌, ℕ, ◌+◌, ◌-◌, ◌*◌, ◌^◌, ◌≤◌, ◌<◌, Option, Some, length, get_or, sym, ap, ◌∙◌, arith}
use mathlib.Core.Path.{ap₂}
use Rattle.numbers.specs.PieceLaws.{onward}
use Rattle.numbers.specs.Number.{named_byte, places, value_of}
use Rattle.numbers.specs.DigitLaws.{value_from, leading}
use Rattle.numbers.proofs.DigitLaws.{value_first, leading_within}
use Rattle.numbers.specs.NumberLaws.{wholes, amount_of}
use Rattle.numbers.proofs.NumberLaws.{no_digit, plain_small, plain_both}
use Rattle.numbers.proofs.digits.plain.Goals as goal
use Rattle.numbers.proofs.digits.plain.Goals.{Else-d-decimals}

abbrev scaling : ℕ → ℕ → Option ℕ
scaling v p = Some (v * 10 ^ p)

-- both rows of digits are digits up to the end
both : (c : Else-d-decimals) → amount_of c.args.kind (named_byte c.args.mark) c.args.s.now
    ≡ Some (c.leading-both.result.value * 10 ^ (c.places-places.result - c.leading-both.result.count))
both c =
    let s = c.args.s.now in
    let kind = c.args.kind in
    let first = leading wholes s in
    let m = c.leading-whole.result.count in
    let d = c.leading-both.result.count in
    let count_is : m ≡ length first = c.leading-whole.ensures.many in
    let value_is : c.leading-whole.result.value ≡ value_of first = c.leading-whole.ensures.read ∙ value_first first in
    let places_is : c.places-places.result ≡ places kind = c.places-places.ensures in
    let after = onward s (m + 1) in
    let second = leading (places kind) after in
    let count2_is : d ≡ length second = rw (← places_is) c.leading-both.ensures.many in
    let value2_is : c.leading-both.result.value ≡ value_from (value_of first) second = rw (← value_is, ← places_is) c.leading-both.ensures.read in
    let more : m < length s = omega (arith, leading_within wholes s) in
    let mark_is : get_or s (length first) 0 ≡ named_byte c.args.mark = ap (λ (i : ℕ). get_or s i 0) (sym count_is) ∙ c.if-s-m.false ∙ c.named.ensures in
    let one : 1 ≤ length second = omega (arith, count2_is) in
    let all : length second ≡ length after = sym count2_is ∙ c.if-d-decimals.false in
    plain_both kind (named_byte c.args.mark) (no_digit c.args.mark) s (omega arith) (omega arith) mark_is after (ap (λ (i : ℕ). onward s (i + 1)) count_is) one all ∙
    ap₂ scaling (sym value2_is) (ap₂ ◌-◌ (sym places_is) (sym count2_is))

pub overflow_mul-result-2 : goal.overflow_mul-result-2
overflow_mul-result-2 c =
    let b = (goal.at.overflow_mul-result-2 c).Else-d-decimals in
    rw c.pow-2.ensures (omega (arith, plain_small c.args.kind (named_byte c.args.mark) c.args.s.now _ (both b)))

pub returns : goal.returns
returns c = rw c.pow-2.ensures (sym (both (goal.at.returns c).Else-d-decimals))
