-- Laws of the walk over the lines as the code goes it: what is left of the text comes to what the whole text comes to.
-- Assumes nothing.
use Rattle.std.specs.Prelude.{◌≡◌, refl, List, [], ◌∷◌, ℕ, ◌+◌, ◌*◌, ◌≤◌, ◌<◌, leb, ℤ, length, take, Result, Ok, Err, Option, Some, None}
use Rattle.std.proofs.Common.{ap, ◌∙◌, arith, le-leb, length-take-le}
use Rattle.std.proofs.lemmas.Bool.{lt-leb}
use Rattle.refusals.specs.declared.Refusal.{Refusal}
use Rattle.refusals.specs.declared.Refusal.TheVariants as R
use Rattle.refusals.specs.Tests.{by_test}
use Rattle.points.specs.Points.{numbers, most_points}
use Rattle.route.specs.declared.lines.Before.TheVariants as B
use Rattle.numbers.specs.declared.Mark.{Mark}
use Rattle.numbers.specs.Pieces.{LF, split, index_of, same}
use Rattle.numbers.specs.PieceLaws.{onward}
use Rattle.numbers.proofs.PieceLaws.{split_cut, split_last, split_some}
use Rattle.route.specs.declared.lines.Line.{Line}
use Rattle.route.specs.declared.lines.State.{State}
use Rattle.route.specs.Line.{same_kind, Seen, fresh, line_of, after_of}
use Rattle.route.specs.LineLaws.{seen_in}
use Rattle.route.specs.Route.{most_bytes, refused, on_line, walk_from, lines_of, walk_of}
use Rattle.numbers.specs.Text.{bytes}
use Rattle.route.specs.WalkLaws.{came, few_in, end_of, header_of, after_header}

pub end_some : (room line : ℕ) (s : List ℕ) (st : State) → (length s ≡ 0 → ⊥) → end_of room line s st ≡ Err (record { refusal = R.Line; line = line })
end_some room line [] st h = absurd (h refl)
end_some room line (x ∷ s) st h = refl

pub end_none : (room line : ℕ) (s : List ℕ) (st : State) → length s ≡ 0 → end_of room line s st ≡ end_of room line [] st
end_none room line [] st h = refl
end_none room line (x ∷ s) st h = absurd (omega arith)

pub end_came : (mark : Mark) (room line : ℕ) (s : List ℕ) (st : State) (own : List ℤ) → numbers * st.points ≤ length own
    → came (end_of room line s st) own ≡ walk_from mark room line (seen_in st own) (s ∷ [])
end_came mark room line [] st own h =
    by_test (same_kind st.before B.Gap)
    (λ t. rw t)
    (λ t.
    by_test (leb (numbers * st.points) room)
    (λ u. rw (t, length-take-le (numbers * st.points) own h, u))
    (λ u. rw (t, length-take-le (numbers * st.points) own h, u)))
end_came mark room line (x ∷ s) st own h = refl

pub end_few : (room line : ℕ) (s : List ℕ) (st : State) → st.points ≤ most_points → few_in (end_of room line s st)
end_few room line [] st h =
    by_test (same_kind st.before B.Gap)
    (λ t. rw t tt)
    (λ t.
    by_test (leb (numbers * st.points) room)
    (λ u. rw (t, u) h)
    (λ u. rw (t, u) tt))
end_few room line (x ∷ s) st h = tt

-- ---- a line

pub walk_cons : (mark : Mark) (room k : ℕ) (w : Seen) (s : List ℕ) (ss : List (List ℕ)) → 0 < length ss
    → walk_from mark room k w (s ∷ ss) ≡ on_line k (line_of mark w s) (λ l. walk_from mark room (k + 1) (after_of w l) ss)
walk_cons mark room k w s [] h = absurd (omega arith)
walk_cons mark room k w s (t ∷ ss) h = refl

-- e is the place of the first LF of what is left
module _ (mark : Mark) (room k : ℕ) (rest : List ℕ) (w : Seen) (e : ℕ) (p : e ≡ index_of LF rest) where
  pub walk_last : length rest ≤ e → walk_from mark room k w (split LF rest) ≡ walk_from mark room k w (rest ∷ [])
  walk_last h = rw (split_last LF rest (omega arith))

  -- and l what the line before it is read as
  module _ (h : e < length rest) (a : Result Line Refusal) (r : a ≡ line_of mark w (take e rest)) where
    pub walk_step : walk_from mark room k w (split LF rest) ≡ on_line k a (λ l. walk_from mark room (k + 1) (after_of w l) (split LF (onward rest (e + 1))))
    walk_step = let t = onward rest (e + 1) in rw (split_cut LF e rest p h, r) (walk_cons mark room k w (take e rest) (split LF t) (split_some LF t))

    pub walk_refused : (n : Refusal) → a ≡ Err n → walk_from mark room k w (split LF rest) ≡ refused n k
    walk_refused n q = walk_step ∙ ap (λ (x : Result Line Refusal). on_line k x (λ l. walk_from mark room (k + 1) (after_of w l) (split LF (onward rest (e + 1))))) q

    pub walk_on : (l : Line) → a ≡ Ok l → walk_from mark room k w (split LF rest) ≡ walk_from mark room (k + 1) (after_of w l) (split LF (onward rest (e + 1)))
    walk_on l q = walk_step ∙ ap (λ (x : Result Line Refusal). on_line k x (λ l. walk_from mark room (k + 1) (after_of w l) (split LF (onward rest (e + 1))))) q

pub lines_header : (room : ℕ) (s : List ℕ) (ss : List (List ℕ)) → lines_of room (s ∷ ss) ≡ after_header (header_of s) room ss
unfolding header_of
lines_header room s ss =
    by_test (same s (bytes "route\tpoint"))
    (λ p. rw p)
    (λ p.
    by_test (same s (bytes "route\tcomma"))
    (λ c. rw (p, c))
    (λ c. rw (p, c)))

header_alone : (h : Option Mark) (room : ℕ) → after_header h room [] ≡ refused R.Header 1
header_alone None room = refl
header_alone (Some mark) room = refl

module _ (text : List ℕ) (room : ℕ) where
  pub too_long : most_bytes < length text → walk_of text room ≡ refused R.Text 0
  unfolding walk_of
  too_long h = rw (lt-leb (length text) most_bytes h)

  module _ (short : length text ≤ most_bytes) where
    pub no_line : length text ≤ index_of LF text → walk_of text room ≡ refused R.Header 1
    unfolding walk_of
    no_line h = rw (le-leb (length text) most_bytes short, split_last LF text h, lines_header room text []) (header_alone (header_of text) room)

    -- line 1 ends at e
    module _ (e : ℕ) (p : e ≡ index_of LF text) (h : e < length text) where
      pub unknown : header_of (take e text) ≡ None → walk_of text room ≡ refused R.Header 1
      unfolding walk_of
      unknown q = rw (le-leb (length text) most_bytes short, split_cut LF e text p h, lines_header room (take e text) (split LF (onward text (e + 1))), q)

      pub named : (mark : Mark) → header_of (take e text) ≡ Some mark → walk_of text room ≡ walk_from mark room 2 fresh (split LF (onward text (e + 1)))
      unfolding walk_of
      named mark q = rw (le-leb (length text) most_bytes short, split_cut LF e text p h, lines_header room (take e text) (split LF (onward text (e + 1))), q)
