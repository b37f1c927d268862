-- Two results that one contract allows are equal: an entry for each function of this crate that others can call.
-- Assumes nothing.
use mathlib.Core.Path.{refl, sym, ◌∙◌}
use Rattle.refusals.specs.One.{One, answers}
use Rattle.numbers.specs.contracts as contracts
use Rattle.numbers.proofs as numbers

-- its place alone says it, beside which the contract tells that it lies within the text
pub find : One contracts.pieces.find.ended numbers.pieces.find.Reads.Asked numbers.pieces.find.Reads.Learnt
find = record { always = λ κs a. tt; one = λ κs a x y v w p q. (p.0 ∙ sym q.0, refl) }

pub has : One contracts.pieces.has.ended numbers.pieces.has.Reads.Asked numbers.pieces.has.Reads.Learnt
has = answers (λ κs a v w. refl)

pub is_byte : One contracts.pieces.is_byte.ended numbers.pieces.is_byte.Reads.Asked numbers.pieces.is_byte.Reads.Learnt
is_byte = answers (λ κs a v w. refl)

pub equal : One contracts.pieces.equal.ended numbers.pieces.equal.Reads.Asked numbers.pieces.equal.Reads.Learnt
equal = answers (λ κs a v w. refl)

pub named : One contracts.Mark.named.ended numbers.Mark.named.Reads.Asked numbers.Mark.named.Reads.Learnt
named = answers (λ κs a v w. refl)

pub read : One contracts.read.ended numbers.read.Reads.Asked numbers.read.Reads.Learnt
read = answers (λ κs a v w. refl)
