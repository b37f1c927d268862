-- The bytes of an input that are known: one byte more than a route may have says as much as all of them.
-- Assumes nothing.
use Rattle.std.specs.Prelude.{IfSome, None, Some, Result, Ok}
use Rattle.std.proofs.Common.{◌≡◌, ◌⊎◌, inl, inr, ℕ, ℤ, ◌+◌, ◌<◌, ◌≤◌, List, [], ◌++◌, length, sym, ap, ◌∙◌, append-nil, arith, length-append}
use Rattle.std.proofs.lemmas.Bool.{cases_lt}
use Rattle.std.specs.Io.KnownBytes.{Consumes, IsAtEnd}
use Rattle.std.specs.declared.option.Option.{Option}
use Rattle.route.specs.Route.{most_bytes, walk_of, reading_of, buffer_of, answer_of, left_by}
use Rattle.route.proofs.WalkLaws.{too_long}
use Rattle.route.specs.declared.Route.{Route}
use Rattle.route.specs.declared.Refused.{Refused}
use Rattle.streams.specs.Input.{CameOf}

-- of a text that is too long nothing else matters
walk_same : (text rest : List ℕ) (room : ℕ) → (most_bytes < length text) ⊎ (length text ≤ most_bytes) → (length text < most_bytes + 1 → rest ≡ [])
    → walk_of text room ≡ walk_of (text ++ rest) room
walk_same text rest room (inl long) end =
    let longer : most_bytes < length (text ++ rest) = rw (length-append text rest) (omega arith) in
    too_long text room long ∙ sym (too_long (text ++ rest) room longer)
walk_same text rest room (inr short) end = ap (λ all. walk_of all room) (sym (ap (λ l. text ++ l) (end (omega arith)) ∙ append-nil text))

pub known : (a b : Option (List ℕ)) (text : List ℕ) (before after : List ℤ) (reading : Result Route Refused) → Consumes a b text
    → (length text < most_bytes + 1 → IsAtEnd b) → reading ≡ reading_of text (length before) → after ≡ buffer_of text before
    → IfSome a (λ all. CameOf all (Ok reading) before after)
unfolding reading_of buffer_of
known None b text before after reading came end said left = tt
known (Some xs) None text before after reading came end said left = absurd came
known (Some xs) (Some ys) text before after reading came end said left =
    let same = walk_same text ys (length before) (cases_lt most_bytes (length text)) end in
    rw came (said ∙ ap answer_of same, left ∙ ap (left_by before) same)
