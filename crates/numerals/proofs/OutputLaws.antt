-- A text that goes into a lent output, said once for every text that is written: the ways out, and what stands where afterwards.
-- Assumes nothing.
use Rattle.std.specs.Prelude.{◌≡◌, refl, List, ◌++◌, ℕ, ◌+◌, ◌-◌, ◌≤◌, ◌<◌, leb, length, take, drop, Ok, Err}
use Rattle.std.proofs.Common.{sym, ◌∙◌, append_assoc, arith, length-append, length-drop, length-take-le, take_at, drop_at}
use borrow.Author.Tests.{le-leb, lt-leb, leb-true, leb-false}
use Rattle.std.proofs.lemmas.List.Edits.{sets, sets-eq}
use Rattle.refusals.specs.declared.Refusal.{Refusal}
use Rattle.refusals.specs.declared.Refusal.TheVariants as R
use Rattle.refusals.specs.Refusal.{number}
use Rattle.refusals.specs.Choice.{Check, fine}
use Rattle.refusals.specs.Tests.{by_test}
use Rattle.numerals.specs.declared.WritingOut.{WritingOut}
use Rattle.numbers.proofs.WrittenLaws.{number_some}
use Rattle.numerals.specs.Output.{writing_of, output_of}
use Rattle.numerals.specs.Paper.{writing_paper}

-- ---- the ways out

-- by what refuses the text itself
pub text_refused : (r : Refusal) (text : List ℕ) (place : ℕ) (out : List ℕ) → writing_of (Err r) text place out ≡ Err r
unfolding writing_of
text_refused r text place out = refl

module _ (n : Check) (text : List ℕ) (place : ℕ) (out : List ℕ) where
  pub output_kept : {r : Refusal} → writing_of n text place out ≡ Err r → output_of n text place out ≡ out
  unfolding output_of
  output_kept e = rw e

  module _ (z : n ≡ fine) where
    pub room_refused : length out - place < length text → writing_of n text place out ≡ Err R.Output
    unfolding writing_of
    room_refused h = rw (z, lt-leb (length text) (length out - place) h)

    pub text_written : length text ≤ length out - place → writing_of n text place out ≡ Ok (length text)
    unfolding writing_of
    text_written h = rw (z, le-leb (length text) (length out - place) h)

    output_parts : length text ≤ length out - place → output_of n text place out ≡ take place out ++ (text ++ drop (place + length text) out)
    unfolding output_of
    output_parts h = rw (text_written h)

    -- as the code stores it
    pub output_sets : place + length text ≤ length out → output_of n text place out ≡ sets out place text
    output_sets h = rw (sets-eq text out place h, append_assoc) (output_parts (omega arith))

-- ---- what is answered, and what stands where in `left`, the output afterwards

pub record Kept (n : ℕ) (out : List ℕ) (answer : WritingOut) (left : List ℕ) : Type 0 where
  pub number : answer.refusal ≡ n
  -- "A refusal gives zero in every value beside its number"
  pub bytes : answer.bytes ≡ 0
  -- "and writes to no lent buffer"
  pub as_it_was : left ≡ out

pub record Placed (text : List ℕ) (place : ℕ) (out : List ℕ) (answer : WritingOut) (left : List ℕ) : Type 0 where
  pub number : answer.refusal ≡ 0
  -- "the answer is their number"
  pub bytes : answer.bytes ≡ length text
  pub inside : place + answer.bytes ≤ length out
  -- "The bytes go into the lent output from a given place onward"
  pub there : take answer.bytes (drop place left) ≡ text
  -- "nothing before or after them changing"
  pub before : take place left ≡ take place out
  pub after : drop (place + answer.bytes) left ≡ drop (place + answer.bytes) out
  pub as_long : length left ≡ length out

-- n comes first, then 15; no case is another
pub data Outcome (n : Check) (text : List ℕ) (place : ℕ) (out : List ℕ) (answer : WritingOut) (left : List ℕ) : Type 0 where
  refused : {r : Refusal} → n ≡ Err r → Kept (number r) out answer left → Outcome n text place out answer left
  -- "the output from that place on is too short (a place past its end leaves none)"
  short : n ≡ fine → length out - place < length text → Kept 15 out answer left → Outcome n text place out answer left
  written : n ≡ fine → length text ≤ length out - place → Placed text place out answer left → Outcome n text place out answer left

kept : (n : Check) (r : Refusal) (text : List ℕ) (place : ℕ) (out : List ℕ) → writing_of n text place out ≡ Err r
    → Kept (number r) out (writing_paper (writing_of n text place out)) (output_of n text place out)
kept n r text place out e = rw e (record { number = refl; bytes = refl; as_it_was = output_kept n text place out e })

-- of a text that has bytes
module _ (text : List ℕ) (place : ℕ) (out : List ℕ) (some : 0 < length text) where
  placed : length text ≤ length out - place → Placed text place out (writing_paper (writing_of fine text place out)) (output_of fine text place out)
  placed h =
      let front = take place out in
      let rest = drop (place + length text) out in
      let as-far = length-take-le place out (omega arith) in
      rw (text_written fine text place out refl h, output_parts fine text place out refl h)
      (record {
        number = refl;
        bytes = refl;
        inside = omega arith;
        there = rw (drop_at front (text ++ rest) place as-far) (take_at text rest (length text) refl);
        before = take_at front (text ++ rest) place as-far;
        after = rw (← append_assoc) (drop_at (front ++ text) rest (place + length text) (length-append front text ∙ rw as-far));
        as_long = simp (length-append, length-drop) (omega (arith, as-far));
      })

  pub outcome : (n : Check) → Outcome n text place out (writing_paper (writing_of n text place out)) (output_of n text place out)
  outcome (Ok tt) =
      by_test (leb (length text) (length out - place))
      (λ t. let h = leb-true (length text) (length out - place) t in written refl h (placed h))
      (λ t.
      let h = leb-false (length text) (length out - place) t in
      short refl h (kept fine R.Output text place out (room_refused fine text place out refl h)))
  outcome (Err r) = refused refl (kept (Err r) r text place out (text_refused r text place out))

-- nothing is refused
pub not_refused : {n : Check} {text : List ℕ} {place : ℕ} {out : List ℕ} {answer : WritingOut} {left : List ℕ} → Outcome n text place out answer left
    → answer.refusal ≡ 0 → (n ≡ fine) × Placed text place out answer left
not_refused (refused {r} h k) e = absurd (number_some r (sym k.number ∙ e))
not_refused (short z h k) e = absurd (omega (arith, k.number))
not_refused (written z h p) e = (z, p)
