-- `Digits::put` meets its contract. The loop's invariant: what is left to write leaves the whole in the part that is written.
-- Assumes nothing.
use Rattle.std.proofs.Common.{◌≡◌, ◌-◌, ◌^◌, ◌<◌}
use Rattle.std.proofs.lemmas.List.Edits.{sets}
use Rattle.numerals.specs.NumeralSteps.{most, topmost}
use Rattle.numerals.proofs.digits.Digits.put.Given as goal

abbrev pub invariant-loop-byte : goal.invariant-loop-byte
invariant-loop-byte l = (l.rest < 10 ^ most) ×
    (sets l.byte-items l.byte-index (topmost (l.byte-index-end - l.byte-index) l.rest) ≡ sets l.initial.byte-items 0 (topmost l.byte-index-end l.initial.rest))
