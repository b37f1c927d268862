-- Laws of a route's text: its parts and how long they are, that no line holds an LF, and what each line is read as.
-- Assumes nothing.
use Rattle.std.specs.Prelude.{◌≡◌, refl, true, false, not, ◌&&◌, List, [], ◌∷◌, ◌++◌, ℕ, zero, suc, ◌+◌, ◌-◌, ◌*◌, ◌/◌, ◌%◌, ◌≤◌, ◌<◌, leb, eqb, ℤ, pos, length, take, Option, Some, None}
use Rattle.std.proofs.Common.{sym, ◌∙◌, append_assoc, arith, length-append, length-take-le}
use Prim.Native.Char.{code}
use borrow.Author.Tests.{not-true, le-leb, leb-true, lt-ltb, eqb-true, eq-eqb}
use Rattle.refusals.specs.declared.Refusal.TheVariants as R
use Rattle.refusals.specs.Choice.{fine}
use Rattle.refusals.specs.Tests.{by_test, clash, and_true, true_and, or_false, unless_none, first_none}
use Rattle.signed.specs.Tests.{eq_z, eq_z_true, le_le_z}
use Rattle.points.specs.Points.{numbers, point_numbers, latitude_at, longitude_at, third_at, count, most_points, fits_after, buffer_refusal}
use Rattle.points.proofs.PointLaws.{Point, accepted, point_of_lem, take_point, take_points}
use Rattle.numbers.specs.declared.Mark.{Mark}
use Rattle.numbers.specs.declared.Mark.TheVariants as M
use Rattle.numbers.specs.declared.Kind.{Kind}
use Rattle.numbers.specs.declared.Kind.TheVariants as K
use Rattle.numbers.specs.Pieces.{LF, TAB, split, holds}
use Rattle.numbers.specs.Number.{named_byte}
use Rattle.numbers.proofs.PieceLaws.{split_last, none_held, holds_append}
use Rattle.numerals.specs.Numeral.{numeral_of}
use Rattle.numerals.specs.OneWay.{fits}
use Rattle.numerals.proofs.OneWayLaws.{numeral_back, numeral_free, numeral_most}
use Rattle.numbers.specs.Text.{bytes}
use Rattle.globe.specs.Met.{most_target}
use Rattle.route.specs.Line.{metre, same_kind, Seen, fresh, line_of, gap_of, target_of, point_of, third_of}
use Rattle.route.specs.Route.{most_bytes, walk_of}
use Rattle.route.specs.Route as Route
use Rattle.route.specs.Words.{header_text, without, LineBefore, was_header, was_target, was_point, was_gap, Reads}
use Rattle.route.specs.Words as Words
use Rattle.route.proofs.ReadsLaws.{text_walk}
use Rattle.writer.specs.RouteText.{field_of, target_lines, gap_before, point_line, point_lines, ended, route_text, target_refusal, text_refusal}

-- ---- what is not refused

pub text_accepted : (target : Option ℕ) (b : List ℤ) → text_refusal target b ≡ fine → (buffer_refusal b ≡ fine) × (target_refusal target ≡ fine)
unfolding text_refusal
text_accepted target b e = first_none (buffer_refusal b) (target_refusal target) e

pub record IsTarget (mm : ℕ) : Type 0 where
  pub whole : mm % metre ≡ 0
  pub most : mm ≤ most_target

pub target_accepted : (mm : ℕ) → target_refusal (Some mm) ≡ fine → IsTarget mm
unfolding target_refusal
target_accepted mm e =
    let p = unless_none (eqb (mm % metre) 0 && leb mm most_target) R.Target fine e in
    let q = and_true (eqb (mm % metre) 0) (leb mm most_target) p.0 in
    record { whole = eqb-true (mm % metre) 0 q.0; most = leb-true mm most_target q.1 }

pub target_fits : (mm : ℕ) → IsTarget mm → fits K.Target (pos (mm / metre)) ≡ true
target_fits mm h = true_and (le_le_z (pos 0) (pos (mm / metre)) (omega arith)) (le_le_z (pos (mm / metre)) (pos 999_999) (omega arith))

-- ---- a field

apart : (mark : Mark) → (eqb (named_byte mark) LF ≡ false) × (eqb (named_byte mark) TAB ≡ false)
apart M.Point = (refl, refl)
apart M.Comma = (refl, refl)

module _ (kind : Kind) (mark : Mark) (v : ℤ) (h : fits kind v ≡ true) where
  no_lf : holds LF (numeral_of kind mark v) ≡ false
  no_lf = numeral_free kind mark v h LF refl (apart mark).0 refl

  no_tab : holds TAB (numeral_of kind mark v) ≡ false
  no_tab = numeral_free kind mark v h TAB refl (apart mark).1 refl

  last_field : split TAB (numeral_of kind mark v) ≡ numeral_of kind mark v ∷ []
  last_field = split_last TAB (numeral_of kind mark v) (none_held TAB (numeral_of kind mark v) no_tab)

-- ---- the text by its parts

pub ended_append : (ss ts : List (List ℕ)) → ended (ss ++ ts) ≡ ended ss ++ ended ts
ended_append [] ts = refl
ended_append (s ∷ ss) ts = rw (ended_append ss ts, append_assoc)

pub text_parts : (mark : Mark) (target : Option ℕ) (b : List ℤ)
    → route_text mark target b ≡ ended (header_text mark ∷ []) ++ (ended (target_lines mark target) ++ ended (point_lines mark b (count b)))
unfolding route_text
text_parts mark target b = rw (ended_append (target_lines mark target) (point_lines mark b (count b)), append_assoc)

-- of one point more
pub points_next : (mark : Mark) (b : List ℤ) (i : ℕ)
    → ended (point_lines mark b (suc i)) ≡ ended (point_lines mark b i) ++ (ended (gap_before b i) ++ (point_line mark (latitude_at b i) (longitude_at b i) ++ (LF ∷ [])))
points_next mark b i = simp ended_append

-- ---- how long

pub header_length : (mark : Mark) → length (ended (header_text mark ∷ [])) ≡ 12
header_length M.Point = refl
header_length M.Comma = refl

pub target_length : (mark : Mark) (mm : ℕ) → length (ended (target_lines mark (Some mm))) ≡ 3 + length (numeral_of K.Target mark (pos (mm / metre)))
target_length mark mm = simp length-append (omega arith)

pub point_length : (mark : Mark) (lat lon : ℤ)
    → length (point_line mark lat lon ++ (LF ∷ [])) ≡ 4 + length (numeral_of K.Latitude mark lat) + length (numeral_of K.Longitude mark lon)
point_length mark lat lon = simp length-append (omega arith)

pub text_length : (mark : Mark) (target : Option ℕ) (b : List ℤ)
    → length (route_text mark target b) ≡ 12 + length (ended (target_lines mark target)) + length (ended (point_lines mark b (count b)))
text_length mark target b = rw (text_parts mark target b) (simp length-append (omega (arith, simp length-append at (header_length mark))))

pub target_most : (mark : Mark) (target : Option ℕ) → target_refusal target ≡ fine → length (ended (target_lines mark target)) ≤ 10
target_most mark None e = omega arith
target_most mark (Some mm) e =
    omega (arith, target_length mark mm, numeral_most K.Target mark (pos (mm / metre)) (target_fits mm (target_accepted mm e)))

-- what holds of a `g` line and of none
gap_says : (P : List (List ℕ) → Type 0) (b : List ℤ) (i : ℕ) → P (bytes "g" ∷ []) → P [] → P (gap_before b i)
gap_says P b i g n = by_test (leb 1 i && eq_z (third_at b i) (pos 1)) (λ t. rw t g) (λ t. rw t n)

-- two bytes, and none before the first point
gap_most : (b : List ℤ) (i : ℕ) → length (ended (gap_before b i)) ≤ 2 - (2 - 2 * i)
gap_most b zero = omega arith
gap_most b (suc i) = gap_says (λ ss. length (ended ss) ≤ 2 - (2 - 2 * suc i)) b (suc i) (omega arith) (omega arith)

module _ (mark : Mark) (b : List ℤ) (e : buffer_refusal b ≡ fine) where
  pub points_most : (n : ℕ) → n ≤ count b → length (ended (point_lines mark b n)) ≤ 29 * n - 2
  points_most zero h = omega arith
  points_most (suc i) h =
      let lat = latitude_at b i in
      let lon = longitude_at b i in
      let p = point_of_lem b e i h in
      rw (points_next mark b i)
      (simp length-append (omega (arith, gap_most b i, points_most i (omega arith), numeral_most K.Latitude mark lat p.latitude, numeral_most K.Longitude mark lon p.longitude)))

pub text_most : (mark : Mark) (target : Option ℕ) (b : List ℤ) → text_refusal target b ≡ fine → length (route_text mark target b) ≤ 22 + (29 * count b - 2)
text_most mark target b e =
    let a = text_accepted target b e in
    omega (arith, text_length mark target b, target_most mark target a.1, points_most mark b a.0 (count b) (omega arith))

-- so that it can be read
pub text_short : (mark : Mark) (target : Option ℕ) (b : List ℤ) → text_refusal target b ≡ fine → length (route_text mark target b) ≤ most_bytes
text_short mark target b e = omega (arith, text_most mark target b e, (accepted b (text_accepted target b e).0).few)

-- ---- no line holds an LF

header_without : (mark : Mark) → not (holds LF (header_text mark)) ≡ true
header_without M.Point = refl
header_without M.Comma = refl

-- a piece that b ends
split_past : (b : ℕ) (s t : List ℕ) → holds b s ≡ false → split b (s ++ (b ∷ t)) ≡ s ∷ split b t
split_past b [] t e = rw (eq-eqb b b refl)
split_past b (x ∷ s) t e = let p = or_false (eqb x b) (holds b s) e in rw (p.0, split_past b s t p.1)

-- the lines are the text's pieces, and nothing stands after the last LF
split_ended : (ss : List (List ℕ)) → without LF ss ≡ true → split LF (ended ss) ≡ ss ++ ([] ∷ [])
split_ended [] e = refl
split_ended (s ∷ ss) e =
    let p = and_true (not (holds LF s)) (without LF ss) e in
    rw (split_past LF s (ended ss) (not-true (holds LF s) p.0), split_ended ss p.1)

without_append : (ss ts : List (List ℕ)) → without LF ss ≡ true → without LF ts ≡ true → without LF (ss ++ ts) ≡ true
without_append [] ts e f = f
without_append (s ∷ ss) ts e f =
    let p = and_true (not (holds LF s)) (without LF ss) e in
    true_and p.0 (without_append ss ts p.1 f)

target_without : (mark : Mark) (target : Option ℕ) → target_refusal target ≡ fine → without LF (target_lines mark target) ≡ true
target_without mark None e = refl
target_without mark (Some mm) e = rw (no_lf K.Target mark (pos (mm / metre)) (target_fits mm (target_accepted mm e)))

point_without : (mark : Mark) {b : List ℤ} {i : ℕ} → Point b i → holds LF (point_line mark (latitude_at b i) (longitude_at b i)) ≡ false
point_without mark {b} {i} p =
    let lat = latitude_at b i in
    let lon = longitude_at b i in
    rw (holds_append LF (numeral_of K.Latitude mark lat) (field_of K.Longitude mark lon), no_lf K.Latitude mark lat p.latitude, no_lf K.Longitude mark lon p.longitude)

points_without : (mark : Mark) (b : List ℤ) → buffer_refusal b ≡ fine → (n : ℕ) → n ≤ count b → without LF (point_lines mark b n) ≡ true
points_without mark b e zero h = refl
points_without mark b e (suc i) h =
    let line = point_line mark (latitude_at b i) (longitude_at b i) ∷ [] in
    let gap = gap_says (λ ss. without LF ss ≡ true) b i refl refl in
    let free : without LF line ≡ true = rw (point_without mark (point_of_lem b e i h)) in
    without_append (point_lines mark b i) (gap_before b i ++ line) (points_without mark b e i (omega arith)) (without_append (gap_before b i) line gap free)

-- ---- what the lines are read as

reads_append : {mark : Mark} {w u v : Seen} {ss ts : List (List ℕ)} → Reads mark w ss u → Reads mark u ts v → Reads mark w (ss ++ ts) v
reads_append Words.none q = q
reads_append (Words.target e r) q = Words.target e (reads_append r q)
reads_append (Words.point e r) q = Words.point e (reads_append r q)
reads_append (Words.gap e r) q = Words.gap e (reads_append r q)

-- the line before, after n points
abbrev before_of : Option ℕ → ℕ → LineBefore
before_of None zero = was_header
before_of (Some mm) zero = was_target
before_of target (suc n) = was_point

no_gap : (target : Option ℕ) (n : ℕ) → same_kind (before_of target n) was_gap ≡ false
no_gap None zero = refl
no_gap (Some mm) zero = refl
no_gap target (suc n) = refl

-- what is seen after the target and n points of b
abbrev seen_of : Option ℕ → List ℤ → ℕ → Seen
seen_of target b n = record { before = before_of target n; points = take (numbers * n) b; target = target }

target_reads : (mark : Mark) (target : Option ℕ) (b : List ℤ) → target_refusal target ≡ fine → Reads mark fresh (target_lines mark target) (seen_of target b 0)
unfolding line_of target_of
target_reads mark None b e = Words.none
target_reads mark (Some mm) b e =
    let h = target_accepted mm e in
    let v = pos (mm / metre) in
    let f = target_fits mm h in
    let m : metre * (mm / metre) ≡ mm = omega (arith, h.whole) in
    Words.target {w = fresh} {s = code "t" ∷ field_of K.Target mark v} {mm = mm} (rw (last_field K.Target mark v f, numeral_back K.Target mark v f, m)) Words.none

module _ (mark : Mark) (w : Seen) where
  gap_reads : w.before ≡ was_point → Reads mark w (bytes "g" ∷ []) (record { before = was_gap; points = w.points; target = w.target })
  unfolding line_of gap_of
  gap_reads e = Words.gap {w = w} {s = bytes "g"} (rw e) Words.none

  point_reads : {b : List ℤ} {i : ℕ} → Point b i → count w.points < most_points
      → Reads mark w (point_line mark (latitude_at b i) (longitude_at b i) ∷ [])
      (record { before = was_point; points = w.points ++ point_numbers (latitude_at b i) (longitude_at b i) (third_of w.before); target = w.target })
  unfolding line_of point_of
  point_reads {b} {i} p h =
      let lat = latitude_at b i in
      let lon = longitude_at b i in
      let first = split_past TAB (numeral_of K.Latitude mark lat) (numeral_of K.Longitude mark lon) (no_tab K.Latitude mark lat p.latitude) in
      let last = last_field K.Longitude mark lon p.longitude in
      let few = lt-ltb (count w.points) most_points h in
      Words.point {w = w} {s = point_line mark lat lon} {lat = lat} {lon = lon}
      (rw (first, last, few, numeral_back K.Latitude mark lat p.latitude, numeral_back K.Longitude mark lon p.longitude)) Words.none

first_third : (target : Option ℕ) (z : ℤ) → fits_after 0 z ≡ true → third_of (before_of target 0) ≡ z
first_third target z f = by_test (eq_z z (pos 1)) (λ t. one target ∙ sym (eq_z_true z (pos 1) t)) (λ t. clash f (rw t))
  where
    one : (target : Option ℕ) → third_of (before_of target 0) ≡ pos 1
    one None = refl
    one (Some mm) = refl

module _ (mark : Mark) (target : Option ℕ) (b : List ℤ) (e : buffer_refusal b ≡ fine) where
  few_before : (i : ℕ) → i < count b → count (take (numbers * i) b) < most_points
  few_before i h = omega (arith, length-take-le (numbers * i) b (omega arith), (accepted b e).few)

  -- one point more, with the gap before it
  next_reads : (i : ℕ) → i < count b
      → Reads mark (seen_of target b i) (gap_before b i ++ (point_line mark (latitude_at b i) (longitude_at b i) ∷ [])) (seen_of target b (suc i))
  next_reads zero h =
      let p = point_of_lem b e 0 h in
      rw (take_point b 0 h, ← first_third target (third_at b 0) p.third) (point_reads mark (seen_of target b 0) p (few_before 0 h))
  next_reads (suc i) h =
      let p = point_of_lem b e (suc i) h in
      let some = le-leb 1 (suc i) (omega arith) in
      let w = seen_of target b (suc i) in
      by_test (eq_z (third_at b (suc i)) (pos 1))
      (λ t.
      rw (take_point b (suc i) h, some, t, eq_z_true (third_at b (suc i)) (pos 1) t)
      (reads_append (gap_reads mark w refl) (point_reads mark (record { before = was_gap; points = w.points; target = target }) p (few_before (suc i) h))))
      (λ t.
      let z = and_true (leb 1 (suc i)) (eq_z (third_at b (suc i)) (pos 0)) (rw t at p.third) in
      rw (take_point b (suc i) h, some, t, eq_z_true (third_at b (suc i)) (pos 0) z.1) (point_reads mark w p (few_before (suc i) h)))

  points_reads : (n : ℕ) → n ≤ count b → Reads mark (seen_of target b 0) (point_lines mark b n) (seen_of target b n)
  points_reads zero h = Words.none
  points_reads (suc i) h = reads_append (points_reads i (omega arith)) (next_reads i h)

-- ---- the whole text

module _ (mark : Mark) (target : Option ℕ) (b : List ℤ) (e : text_refusal target b ≡ fine) where
  abbrev lines : List (List ℕ)
  lines = target_lines mark target ++ point_lines mark b (count b)

  text_split : split LF (route_text mark target b) ≡ header_text mark ∷ (lines ++ ([] ∷ []))
  unfolding route_text
  text_split =
      let a = text_accepted target b e in
      let free = without_append (target_lines mark target) (point_lines mark b (count b)) (target_without mark target a.1) (points_without mark b a.0 (count b) (omega arith)) in
      split_ended (header_text mark ∷ lines) (true_and (header_without mark) free)

  text_reads : Reads mark fresh lines (seen_of target b (count b))
  text_reads = let a = text_accepted target b e in reads_append (target_reads mark target b a.1) (points_reads mark target b a.0 (count b) (omega arith))

  -- walked over, it is accepted with these points and this target
  pub walk_back : (room : ℕ) → length b ≤ room
      → walk_of (route_text mark target b) room ≡ Route.accepted (record { before = before_of target (count b); points = b; target = target })
  walk_back room h =
      text_walk (route_text mark target b) room (text_short mark target b e) text_split text_reads (no_gap target (count b)) ∙
      rw (take_points b (text_accepted target b e).0, le-leb (length b) room h)
