-- A byte among the first `most` is the text's own; with one more digit there is room for one fewer.
use Rattle.std.proofs.Common.{◌≡◌, ℕ, suc, ◌+◌, ◌-◌, ◌*◌, ◌^◌, ◌≤◌, ◌<◌, true, min, List, length, take, get_or, sym, ap, ◌∙◌, lit<, arith}
use native.Mathlib.Nat.{add-zero, mul-le-mul_left, mul-le-mul_right, one-le-pow, pow-suc}
use Rattle.std.proofs.lemmas.List.{get_or-take, length-take}
use Rattle.numbers.specs.DigitLaws.{most_digits, is_digit}
use Rattle.numbers.proofs.DigitLaws.{digit_range, leading_next, leading_stop, leading_past}
use Rattle.numbers.proofs.digits.leading.Goals as goal
use Rattle.numbers.proofs.digits.leading.Goals.{Else-not-is_digit}

-- a place of the first bytes is one of the text, and no more than may be read stand before it
module _ (most i k : ℕ) (s : List ℕ) (e : k ≡ min most (length s)) (t : i < length (take k s)) where
  inside : (i < most) × (i < length s)
  inside = let l = length-take k s in (omega (arith, e, l, t), omega (arith, e, l, t))

  own : get_or (take k s) i 0 ≡ get_or s i 0
  own = get_or-take k s i 0 (omega (arith, e, length-take k s, t))

  -- there is room for one more digit
  module _ (v : ℕ) (room : (v + 1) * 10 ^ (most - i) ≤ 10 ^ most_digits) where
    room_for : (v + 1) * (10 * 10 ^ (most - (i + 1))) ≤ 10 ^ most_digits
    room_for =
        let z : most - i ≡ suc (most - (i + 1)) = omega (arith, inside.0) in
        let h : (v + 1) * 10 ^ suc (most - (i + 1)) ≤ 10 ^ most_digits = rw z at room in
        omega (arith, rw pow-suc at h)

    ten_times : (v + 1) * 10 ≤ 10 ^ most_digits
    ten_times = omega (arith, room_for, mul-le-mul_left ((v + 1) * 10) (one-le-pow (most - (i + 1)) 10 (lit< tt)))

module _ (c : Else-not-is_digit) where
  abbrev byte : ℕ
  byte = get_or c.args.s.now c.loop-i.i 0

  is_own : get_or (take c.min.result c.args.s.now) c.loop-i.i 0 ≡ byte
  is_own = own c.args.most c.loop-i.i c.min.result c.args.s.now c.min.ensures c.loop-i-test.true

  digit : is_digit byte ≡ true
  digit = rw is_own at (sym c.is_digit.ensures ∙ c.if-not-is_digit.false)

  fits : (48 ≤ byte) × (byte ≤ 57) × ((c.loop-i.value + 1) * 10 ≤ 10 ^ most_digits)
  fits =
      let d = digit_range byte digit in
      (d.0, d.1, ten_times c.args.most c.loop-i.i c.min.result c.args.s.now c.min.ensures c.loop-i-test.true c.loop-i.value c.loop-i.invariant.2)

pub returns : goal.returns
returns c =
    let m = c.args.most in
    let s = c.args.s.now in
    let i = c.loop-i.i in
    let l = length-take c.min.result s in
    let e = leading_past m s i (omega (arith, l, c.min.ensures, c.loop-i-test.false)) in
    record {
      many = omega (arith, ap length e, c.loop-i.invariant.0, c.loop-i-test.false, c.loop-i.auto.i-end);
      read = rw e at c.loop-i.invariant.1;
    }

pub returns-then-not-is_digit : goal.returns-then-not-is_digit
returns-then-not-is_digit c =
    let m = c.args.most in
    let s = c.args.s.now in
    let i = c.loop-i.i in
    let k = inside m i c.min.result s c.min.ensures c.loop-i-test.true in
    let no = rw (own m i c.min.result s c.min.ensures c.loop-i-test.true) at (sym c.is_digit.ensures ∙ c.if-not-is_digit.true) in
    let e = leading_stop m s i k.0 k.1 no in
    record { many = sym (add-zero _) ∙ rw e at c.loop-i.invariant.0; read = rw e at c.loop-i.invariant.1 }

pub overflow_mul-value : goal.overflow_mul-value
overflow_mul-value c = omega (arith, fits c)

pub overflow_add-value : goal.overflow_add-value
overflow_add-value c = let b = (goal.at.overflow_add-value c).Else-not-is_digit in omega (arith, fits b, is_own b, c.from.ensures)

pub loop-i-preserved : goal.loop-i-preserved
loop-i-preserved c =
    let m = c.args.most in
    let s = c.args.s.now in
    let i = c.loop-i.i in
    let v = c.loop-i.value in
    let k = inside m i c.min.result s c.min.ensures c.loop-i-test.true in
    let b = (goal.at.loop-i-preserved c).Else-not-is_digit in
    let next = leading_next m s i k.0 k.1 (digit b) in
    let d : c.from.result ≡ byte b - 48 = c.from.ensures ∙ ap (λ (x : ℕ). x - 48) (is_own b) in
    let room = room_for m i c.min.result s c.min.ensures c.loop-i-test.true v c.loop-i.invariant.2 in
    let grown : v * 10 + (byte b - 48) + 1 ≤ (v + 1) * 10 = omega (arith, fits b) in (
      omega (arith, ap length next, c.loop-i.invariant.0),
      rw d (rw next at c.loop-i.invariant.1),
      rw d (omega (arith, room, mul-le-mul_right (10 ^ (m - (i + 1))) grown)),
    )
