-- Laws of one line: the way through its fields, what a line tells that is read as a kind, and what the code keeps of the lines so far.
-- Assumes nothing.
use Rattle.std.specs.Prelude.{◌≡◌, true, List, [], ◌∷◌, ℕ, ◌+◌, ◌*◌, ◌≤◌, ◌<◌, ℤ, nat_abs, length, take, Result, Ok, Err, None, Some}
use Prim.Native.Char.{code}
use Rattle.refusals.specs.declared.Refusal.{Refusal}
use Rattle.refusals.specs.Refusal.{of_line}
use Rattle.points.specs.Points.{numbers, most_points, point_numbers}
use Rattle.numbers.specs.declared.Mark.{Mark}
use Rattle.numbers.specs.declared.Kind.TheVariants as K
use Rattle.numbers.specs.Pieces.{TAB, index_of, is_byte}
use Rattle.numbers.specs.Number.{number_of}
use Rattle.route.specs.declared.lines.Before.{Before}
use Rattle.route.specs.declared.lines.Before.TheVariants as B
use Rattle.route.specs.declared.lines.Line.{Line}
use Rattle.route.specs.declared.lines.Line.TheVariants as L
use Rattle.route.specs.declared.lines.State.{State}
use Rattle.route.specs.Line.{third_of, Seen}

-- ---- what the code keeps of the lines so far: the points' numbers stand in a buffer of its own

abbrev pub start : State
start = record { before = B.Header; points = 0; target = None }

abbrev pub state_after : State → Line → State
state_after st (L.Target mm) = record { before = B.Target; points = st.points; target = Some mm }
state_after st (L.Point lat lon) = record { before = B.Point; points = st.points + 1; target = st.target }
state_after st L.Gap = record { before = B.Gap; points = st.points; target = st.target }

-- the numbers of a point; none for another line
abbrev pub numbers_of : State → Line → List ℤ
numbers_of st (L.Point lat lon) = point_numbers lat lon (third_of st.before)
numbers_of st (L.Target mm) = []
numbers_of st L.Gap = []

abbrev pub seen_in : State → List ℤ → Seen
seen_in st own = record { before = st.before; points = take (numbers * st.points) own; target = st.target }

-- ---- what a line tells that is read as a kind: its fields, and the lines before it

pub data LineSays (mark : Mark) (before : Before) (n : ℕ) : List (List ℕ) → Result Line Refusal → Type 0 where
  refused : {fields : List (List ℕ)} {r : Refusal} → of_line r ≡ true → LineSays mark before n fields (Err r)
  target : {k s : List ℕ} {v : ℤ} → is_byte (code "t") k ≡ true → before ≡ B.Header → number_of K.Target mark s ≡ Ok v
      → LineSays mark before n (k ∷ (s ∷ [])) (Ok (L.Target (1_000 * nat_abs v)))
  point : {k s t : List ℕ} {lat lon : ℤ} → is_byte (code "p") k ≡ true → n < most_points → number_of K.Latitude mark s ≡ Ok lat
      → number_of K.Longitude mark t ≡ Ok lon → LineSays mark before n (k ∷ (s ∷ (t ∷ []))) (Ok (L.Point lat lon))
  gap : {k : List ℕ} → is_byte (code "g") k ≡ true → before ≡ B.Point → LineSays mark before n (k ∷ []) (Ok L.Gap)

-- ---- the last field of a point

-- it holds no tab, or the line is refused
pub data LastSays (t : List ℕ) : Result Line Refusal → Type 0 where
  refused : {r : Refusal} → LastSays t (Err r)
  read : {l : Result Line Refusal} → length t ≤ index_of TAB t → LastSays t l
