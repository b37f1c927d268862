-- Laws of one line: the way through its fields, what a line tells that is read as a kind, and what the code keeps of the lines so far.
-- Assumes nothing.
use Rattle.std.specs.Prelude.{◌≡◌, refl, true, false, List, [], ◌∷◌, ◌++◌, ℕ, ◌+◌, ◌*◌, ◌≤◌, ◌<◌, ltb, ℤ, length, take, drop, Result, Ok, Err}
use Rattle.std.proofs.Common.{ap, ◌∙◌, arith, ltb-true, length-append, length-take-le, take_at}
use Prim.Native.Char.{code}
use Rattle.std.proofs.lemmas.List.Edits.{sets, sets-eq}
use Rattle.refusals.specs.declared.Refusal.{Refusal}
use Rattle.refusals.specs.declared.Refusal.TheVariants as R
use Rattle.refusals.specs.Refusal.{of_line}
use Rattle.refusals.specs.Tests.{clash, unless_says}
use Rattle.points.specs.Points.{numbers, count, most_points}
use Rattle.numbers.specs.declared.Mark.{Mark}
use Rattle.numbers.specs.declared.Kind.{Kind}
use Rattle.numbers.specs.declared.Kind.TheVariants as K
use Rattle.numbers.specs.Pieces.{TAB, split, index_of, is_byte}
use Rattle.numbers.specs.PieceLaws.{onward}
use Rattle.numbers.proofs.PieceLaws.{split_cut, split_last, split_some}
use Rattle.numbers.specs.Number.{number_of}
use Rattle.numbers.specs.NumberLaws.{NumberSays}
use Rattle.numbers.proofs.NumberLaws.{number_says, number_untabbed}
use Rattle.numbers.specs.NumberLaws as Numbers
use Rattle.route.specs.declared.lines.Before.{Before}
use Rattle.route.specs.declared.lines.Before.TheVariants as B
use Rattle.route.specs.declared.lines.Line.{Line}
use Rattle.route.specs.declared.lines.Line.TheVariants as L
use Rattle.route.specs.declared.lines.State.{State}
use Rattle.route.specs.Line.{same_kind, gap_of, target_of, point_of, fields_of, line_of, taken, Seen, after_of}
use Rattle.route.specs.LineLaws.{state_after, numbers_of, seen_in, LineSays, LastSays, gap, point, refused, target, read, refused}

-- so many numbers a point
pub line_counted : (st : State) (l : Line) → numbers * st.points + length (numbers_of st l) ≡ numbers * (state_after st l).points
line_counted st (L.Target mm) = omega arith
line_counted st (L.Point lat lon) = omega arith
line_counted st L.Gap = omega arith

pub seen_count : (n : ℕ) (own : List ℤ) → numbers * n ≤ length own → count (take (numbers * n) own) ≡ n
seen_count n own h = omega (arith, length-take-le (numbers * n) own h)

sets_taken : (own vs : List ℤ) (n m : ℕ) → n + length vs ≡ m → m ≤ length own → take m (sets own n vs) ≡ take n own ++ vs
sets_taken own vs n m e h =
    rw (sets-eq vs own n (omega arith))
    (take_at (take n own ++ vs) (drop (n + length vs) own) m (rw (length-append (take n own) vs) (omega (arith, length-take-le n own (omega arith)))))

-- a line leaves what the definition says, where its numbers are stored behind those of the points so far
pub seen_after : (st : State) (own : List ℤ) (l : Line) → numbers * (state_after st l).points ≤ length own
    → seen_in (state_after st l) (sets own (numbers * st.points) (numbers_of st l)) ≡ after_of (seen_in st own) l
seen_after st own (L.Target mm) h = refl
seen_after st own (L.Point lat lon) h =
    ap (λ (ps : List ℤ). record { before = B.Point; points = ps; target = st.target })
    (sets_taken own (numbers_of st (L.Point lat lon)) (numbers * st.points) (numbers * (st.points + 1)) (omega arith) h)
seen_after st own L.Gap h = refl

module _ (mark : Mark) (st : State) (own : List ℤ) (s : List ℕ) (h : numbers * st.points ≤ length own) where
  pub seen_line : fields_of mark st.before st.points (split TAB s) ≡ line_of mark (seen_in st own) s
  unfolding line_of
  seen_line = rw (seen_count st.points own h)

-- ---- the fields

four : (mark : Mark) (b : Before) (n : ℕ) (k s t : List ℕ) (us : List (List ℕ)) → 0 < length us → fields_of mark b n (k ∷ (s ∷ (t ∷ us))) ≡ Err R.Line
four mark b n k s t [] h = absurd (omega arith)
four mark b n k s t (u ∷ us) h = refl

module _ (mark : Mark) (b : Before) (n : ℕ) (s : List ℕ) where
  pub one_field : length s ≤ index_of TAB s → fields_of mark b n (split TAB s) ≡ gap_of b s
  one_field h = rw (split_last TAB s h)

  -- the first tab stands at i; t stands after it
  module _ (i : ℕ) (e : i ≡ index_of TAB s) (h : i < length s) (t : List ℕ) (p : t ≡ onward s (i + 1)) where
    pub two_fields : length t ≤ index_of TAB t → fields_of mark b n (split TAB s) ≡ target_of mark b (take i s) t
    two_fields g = rw (split_cut TAB i s e h, ← p, split_last TAB t g)

    -- the second at j of t; u stands after it
    module _ (j : ℕ) (f : j ≡ index_of TAB t) (g : j < length t) (u : List ℕ) (q : u ≡ onward t (j + 1)) where
      pub three_fields : length u ≤ index_of TAB u → fields_of mark b n (split TAB s) ≡ point_of mark n (take i s) (take j t) u
      three_fields k = rw (split_cut TAB i s e h, ← p, split_cut TAB j t f g, ← q, split_last TAB u k)

      pub more_fields : index_of TAB u < length u → fields_of mark b n (split TAB s) ≡ Err R.Line
      more_fields k =
          let v = onward u (index_of TAB u + 1) in
          rw (split_cut TAB i s e h, ← p, split_cut TAB j t f g, ← q, split_cut TAB (index_of TAB u) u refl k)
          (four mark b n (take i s) (take j t) (take (index_of TAB u) u) (split TAB v) (split_some TAB v))

-- ---- a number that is read, or its refusal

-- the line before
pub same_kind_true : (a b : Before) → same_kind a b ≡ true → a ≡ b
same_kind_true B.Header B.Header t = refl
same_kind_true B.Header B.Target t = clash t refl
same_kind_true B.Header B.Point t = clash t refl
same_kind_true B.Header B.Gap t = clash t refl
same_kind_true B.Target B.Header t = clash t refl
same_kind_true B.Target B.Target t = refl
same_kind_true B.Target B.Point t = clash t refl
same_kind_true B.Target B.Gap t = clash t refl
same_kind_true B.Point B.Header t = clash t refl
same_kind_true B.Point B.Target t = clash t refl
same_kind_true B.Point B.Point t = refl
same_kind_true B.Point B.Gap t = clash t refl
same_kind_true B.Gap B.Header t = clash t refl
same_kind_true B.Gap B.Target t = clash t refl
same_kind_true B.Gap B.Point t = clash t refl
same_kind_true B.Gap B.Gap t = refl

pub same_kind_same : (a b : Before) → a ≡ b → same_kind a b ≡ true
same_kind_same B.Header b e = rw (← e)
same_kind_same B.Target b e = rw (← e)
same_kind_same B.Point b e = rw (← e)
same_kind_same B.Gap b e = rw (← e)

-- no line's refusal is one that says line 0
pub line_not : {P : Type 0} {n m : Refusal} → of_line n ≡ true → of_line m ≡ false → n ≡ m → P
line_not o f e = clash o (ap of_line e ∙ f)

refused_number : {kind : Kind} {r : Refusal} → NumberSays kind (Err r) → of_line r ≡ true
refused_number (Numbers.refused h) = h

taken_says : (P : Result Line Refusal → Type 0) (kind : Kind) (mark : Mark) (s : List ℕ) (f : ℤ → Result Line Refusal)
    → ((r : Refusal) → of_line r ≡ true → P (Err r))
    → ((v : ℤ) → number_of kind mark s ≡ Ok v → P (f v)) → P (taken (number_of kind mark s) f)
taken_says P kind mark s f r g = go (number_of kind mark s) refl
  where
    go : (x : Result ℤ Refusal) → number_of kind mark s ≡ x → P (taken x f)
    go (Ok v) e = g v e
    go (Err n) e = r n (refused_number (rw e at (number_says kind mark s)))

module _ (mark : Mark) (before : Before) (n : ℕ) (k : List ℕ) where
  gap_says : LineSays mark before n (k ∷ []) (gap_of before k)
  unfolding gap_of
  gap_says =
      let P = LineSays mark before n (k ∷ []) in
      unless_says P (is_byte (code "g") k) (refused refl) (λ t.
      unless_says P (same_kind before B.Point) (refused refl) (λ u.
      gap t (same_kind_true before B.Point u)))

  target_says : (s : List ℕ) → LineSays mark before n (k ∷ (s ∷ [])) (target_of mark before k s)
  unfolding target_of
  target_says s =
      let P = LineSays mark before n (k ∷ (s ∷ [])) in
      unless_says P (is_byte (code "t") k) (refused refl) (λ t.
      unless_says P (same_kind before B.Header) (refused refl) (λ u.
      taken_says P K.Target mark s _ (λ n h. refused h) (λ v e.
      target t (same_kind_true before B.Header u) e)))

  point_says : (s t : List ℕ) → LineSays mark before n (k ∷ (s ∷ (t ∷ []))) (point_of mark n k s t)
  unfolding point_of
  point_says s t =
      let P = LineSays mark before n (k ∷ (s ∷ (t ∷ []))) in
      unless_says P (is_byte (code "p") k) (refused refl) (λ p.
      unless_says P (ltb n most_points) (refused refl) (λ q.
      taken_says P K.Latitude mark s _ (λ n h. refused h) (λ lat y.
      taken_says P K.Longitude mark t _ (λ n h. refused h) (λ lon x.
      point p (ltb-true n most_points q) y x))))

pub fields_say : (mark : Mark) (before : Before) (n : ℕ) (fields : List (List ℕ)) → LineSays mark before n fields (fields_of mark before n fields)
fields_say mark before n [] = refused {r = R.Line} refl
fields_say mark before n (k ∷ []) = gap_says mark before n k
fields_say mark before n (k ∷ (s ∷ [])) = target_says mark before n k s
fields_say mark before n (k ∷ (s ∷ (t ∷ []))) = point_says mark before n k s t
fields_say mark before n (k ∷ (s ∷ (t ∷ (u ∷ us)))) = refused {r = R.Line} refl

module _ (mark : Mark) (w : Seen) (s : List ℕ) where
  pub line_says : LineSays mark w.before (count w.points) (split TAB s) (line_of mark w s)
  unfolding line_of
  line_says = fields_say mark w.before (count w.points) (split TAB s)

few_after : {mark : Mark} (st : State) {fields : List (List ℕ)} {l : Line} → LineSays mark st.before st.points fields (Ok l) → st.points ≤ most_points
    → (state_after st l).points ≤ most_points
few_after st (target t u e) h = h
few_after st (point p q y x) h = omega arith
few_after st (gap t u) h = h

-- no line goes past the most points
pub line_few : (mark : Mark) (st : State) (s : List ℕ) (l : Line) → Ok l ≡ fields_of mark st.before st.points (split TAB s) → st.points ≤ most_points
    → (state_after st l).points ≤ most_points
line_few mark st s l e h = few_after {mark = mark} st {fields = split TAB s} {l = l} (rw e (fields_say mark st.before st.points (split TAB s))) h

module _ (mark : Mark) (n : ℕ) (k s t : List ℕ) where
  pub last_says : LastSays t (point_of mark n k s t)
  unfolding point_of
  last_says =
      let P = LastSays t in
      unless_says P (is_byte (code "p") k) refused (λ p.
      unless_says P (ltb n most_points) refused (λ q.
      taken_says P K.Latitude mark s _ (λ n h. refused) (λ lat y.
      taken_says P K.Longitude mark t _ (λ n h. refused) (λ lon x.
      read (number_untabbed K.Longitude mark t lon x)))))
