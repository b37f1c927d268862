-- What was copied into a part of the output stands in the whole.
use Rattle.std.proofs.Common.{◌≡◌, List, ℕ, ◌++◌, append_assoc, ◌+◌, ◌-◌, ◌≤◌, length, take, drop, drop-drop, sym, ◌∙◌, arith}
use Rattle.std.proofs.lemmas.List.Edits.{sets, sets-eq}
use Rattle.writer.proofs.lines.put_bytes.Goals as goal

copied : (a n : ℕ) (l vs : List ℕ) → a + length vs ≤ length l → n ≡ length vs → take a l ++ (vs ++ drop n (drop a l)) ≡ sets l a vs
copied a n l vs h e = rw (e, drop-drop (length vs) a l) (sym (append_assoc (take a l) vs (drop (a + length vs) l)) ∙ sym (sets-eq vs l a h))

pub returns-clause-left : goal.returns-clause-left
returns-clause-left c =
    let a = c.args in
    rw c.copy_from_slice.ensures.after (copied a.at (a.at + length a.s.now - a.at) a.out.now a.s.now c.requires (omega arith))
