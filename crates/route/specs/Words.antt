-- The words of the promises, apart from the walk: a text's lines, and what they are.
-- Assumes nothing.
use Rattle.std.specs.Prelude.{◌≡◌, ◌⊎◌, Bool, true, not, ◌&&◌, List, [], ◌∷◌, ◌++◌, ℕ, ◌+◌, ℤ, length, get_or, if◌then◌else◌, Ok}
use Prim.Native.Char.{code}
use Rattle.numbers.specs.declared.Mark.{Mark}
use Rattle.numbers.specs.declared.Mark.TheVariants as M
use Rattle.numbers.specs.Pieces.{LF, TAB, split, holds, is_byte}
use Rattle.route.specs.declared.ReadingOut.{ReadingOut}
use Rattle.route.specs.declared.lines.Before.{Before}
use Rattle.route.specs.declared.lines.Before.TheVariants as B
use Rattle.route.specs.declared.lines.Line.TheVariants as L
use Rattle.numbers.specs.Text.{bytes}
use Rattle.route.specs.Line.{Seen, line_of, after_of}
use Rattle.route.specs.Route.{reading_of}
use Rattle.route.specs.Paper.{reading_paper}

-- what the paper says of a text and a buffer
abbrev pub paper : List ℕ → List ℤ → ReadingOut
paper text buffer = reading_paper (reading_of text (length buffer))

-- ---- pieces

-- the pieces in one text again, b between them
abbrev pub joined : ℕ → List (List ℕ) → List ℕ
joined b [] = []
joined b (s ∷ []) = s
joined b (s ∷ (t ∷ ss)) = s ++ b ∷ joined b (t ∷ ss)

-- b stands in none of them
abbrev pub without : ℕ → List (List ℕ) → Bool
without b [] = true
without b (s ∷ ss) = not (holds b s) && without b ss

-- piece i, from 0
abbrev pub piece : ℕ → List (List ℕ) → List ℕ
piece i ss = get_or ss i []

abbrev pub past : List (List ℕ) → List (List ℕ)
past [] = []
past (s ∷ ss) = ss

abbrev pub last : List (List ℕ) → List ℕ
last [] = []
last (s ∷ []) = s
last (s ∷ (t ∷ ss)) = last (t ∷ ss)

-- ---- lines

-- "`route`, tab, `point` or `comma`"
abbrev pub header_text : Mark → List ℕ
header_text M.Point = bytes "route\tpoint"
header_text M.Comma = bytes "route\tcomma"

-- "line 1 missing, without LF or other than the two headers"
abbrev pub NoHeader : List ℕ → Type 0
NoHeader text = (split LF text ≡ text ∷ []) ⊎ ((mark : Mark) → piece 0 (split LF text) ≡ header_text mark → ⊥)

-- field i of a line, the kind being field 0
abbrev pub field : ℕ → List ℕ → List ℕ
field i s = piece i (split TAB s)

abbrev pub is_p_line : List ℕ → Bool
is_p_line s = is_byte (code "p") (field 0 s)

abbrev pub is_g_line : List ℕ → Bool
is_g_line s = is_byte (code "g") (field 0 s)

abbrev pub is_t_line : List ℕ → Bool
is_t_line s = is_byte (code "t") (field 0 s)

-- what the line before is, as another crate names it: the code's own type is not exported
abbrev pub LineBefore : Type 0
LineBefore = Before

abbrev pub was_header : LineBefore
was_header = B.Header

abbrev pub was_target : LineBefore
was_target = B.Target

abbrev pub was_point : LineBefore
was_point = B.Point

abbrev pub was_gap : LineBefore
was_gap = B.Gap

-- how many `p` lines there are
abbrev pub p_lines_of : List (List ℕ) → ℕ
p_lines_of [] = 0
p_lines_of (s ∷ ss) = (if is_p_line s then 1 else 0) + p_lines_of ss

-- lines one after the other, each read as a target, a point or a gap, judged after the ones before it: from what is seen before them to what they leave
pub data Reads (mark : Mark) : Seen → List (List ℕ) → Seen → Type 0 where
  none : {w : Seen} → Reads mark w [] w
  target : {w v : Seen} {s : List ℕ} {ss : List (List ℕ)} {mm : ℕ} → line_of mark w s ≡ Ok (L.Target mm) → Reads mark (after_of w (L.Target mm)) ss v
      → Reads mark w (s ∷ ss) v
  point : {w v : Seen} {s : List ℕ} {ss : List (List ℕ)} {lat lon : ℤ} → line_of mark w s ≡ Ok (L.Point lat lon) → Reads mark (after_of w (L.Point lat lon)) ss v
      → Reads mark w (s ∷ ss) v
  gap : {w v : Seen} {s : List ℕ} {ss : List (List ℕ)} → line_of mark w s ≡ Ok L.Gap → Reads mark (after_of w L.Gap) ss v → Reads mark w (s ∷ ss) v
