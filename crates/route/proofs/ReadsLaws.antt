-- Laws of lines that were read: what they tell of the line before and of each other, how many points they leave, and where each of them stands.
-- Assumes nothing.
use Rattle.std.specs.Prelude.{◌≡◌, refl, true, false, ◌||◌, List, [], ◌∷◌, ◌++◌, ℕ, ◌+◌, ◌*◌, ◌≤◌, ◌<◌, eqb, leb, ℤ, pos, nat_abs, length, if◌then◌else◌, Result, Ok, Option, Some, None}
use Rattle.std.proofs.Common.{sym, ap, ◌∙◌, append_assoc, arith, eq-eqb, ne_eqb, le-leb, length-append}
use Prim.Native.Char.{code}
use Rattle.refusals.specs.declared.Refusal.{Refusal}
use Rattle.refusals.specs.declared.Refusal.TheVariants as R
use Rattle.refusals.specs.Choice.{unless}
use Rattle.refusals.specs.Tests.{by_test, clash}
use Rattle.points.specs.Points.{count, point_numbers}
use Rattle.numbers.specs.declared.Mark.{Mark}
use Rattle.numbers.specs.declared.Mark.TheVariants as M
use Rattle.numbers.specs.declared.Kind.TheVariants as K
use Rattle.numbers.specs.Number.{number_of}
use Rattle.numbers.specs.Pieces.{LF, TAB, split, is_byte}
use Rattle.numbers.proofs.PieceLaws.{same_is}
use Rattle.route.specs.declared.lines.Line.{Line}
use Rattle.route.specs.declared.lines.Line.TheVariants as L
use Rattle.route.specs.declared.lines.Before.{Before}
use Rattle.route.specs.declared.lines.Before.TheVariants as B
use Rattle.route.specs.Line.{Seen, same_kind, fresh, line_of, third_of, after_of}
use Rattle.route.specs.LineLaws.{LineSays}
use Rattle.route.proofs.LineLaws.{same_kind_true, same_kind_same, line_says}
use Rattle.route.specs.LineLaws as Says
use Rattle.route.specs.Route.{most_bytes, refused, accepted, on_line, walk_from, walk_of}
use Rattle.route.specs.WalkLaws.{header_of}
use Rattle.route.proofs.WalkLaws.{walk_cons, lines_header}
use Rattle.route.specs.Words.{piece, past, last, header_text, field, is_p_line, is_g_line, is_t_line, p_lines_of, Reads}
use Rattle.route.specs.Words as Words
use Rattle.route.proofs.RouteLaws.{Sound, target_sound, point_sound, gap_sound, one_more, reads_added}

-- ---- a line and the line before it

byte_apart : (b c : ℕ) (k : List ℕ) → is_byte b k ≡ true → eqb b c ≡ false → is_byte c k ≡ false
byte_apart b c k t n = ap (is_byte c) (same_is k (b ∷ []) t) ∙ rw n

-- what w says of the line before, which is s
pub record Told (w : Seen) (s : List ℕ) : Type 0 where
  pub p : is_p_line s ≡ same_kind w.before B.Point
  pub g : is_g_line s ≡ same_kind w.before B.Gap
  pub t : is_t_line s ≡ same_kind w.before B.Target

pub header_told : (mark : Mark) → Told fresh (header_text mark)
header_told M.Point = record { p = refl; g = refl; t = refl }
header_told M.Comma = record { p = refl; g = refl; t = refl }

record Kind (b : Before) (fields : List (List ℕ)) : Type 0 where
  p : is_byte (code "p") (piece 0 fields) ≡ same_kind b B.Point
  g : is_byte (code "g") (piece 0 fields) ≡ same_kind b B.Gap
  t : is_byte (code "t") (piece 0 fields) ≡ same_kind b B.Target

target_kind : {mark : Mark} {b : Before} {n mm : ℕ} {fields : List (List ℕ)} → LineSays mark b n fields (Ok (L.Target mm)) → Kind B.Target fields
target_kind (Says.target {k = k} i r e) = record { p = byte_apart (code "t") (code "p") k i refl; g = byte_apart (code "t") (code "g") k i refl; t = i }

point_kind : {mark : Mark} {b : Before} {n : ℕ} {lat lon : ℤ} {fields : List (List ℕ)} → LineSays mark b n fields (Ok (L.Point lat lon)) → Kind B.Point fields
point_kind (Says.point {k = k} i q y x) = record { p = i; g = byte_apart (code "p") (code "g") k i refl; t = byte_apart (code "p") (code "t") k i refl }

gap_kind : {mark : Mark} {b : Before} {n : ℕ} {fields : List (List ℕ)} → LineSays mark b n fields (Ok L.Gap) → Kind B.Gap fields
gap_kind (Says.gap {k = k} i r) = record { p = byte_apart (code "g") (code "p") k i refl; g = i; t = byte_apart (code "g") (code "t") k i refl }

module _ (mark : Mark) (w : Seen) (s : List ℕ) where
  target_told : {mm : ℕ} → line_of mark w s ≡ Ok (L.Target mm) → Told (after_of w (L.Target mm)) s
  target_told e = let k = target_kind (rw e at (line_says mark w s)) in record { p = k.p; g = k.g; t = k.t }

  point_told : {lat lon : ℤ} → line_of mark w s ≡ Ok (L.Point lat lon) → Told (after_of w (L.Point lat lon)) s
  point_told e = let k = point_kind (rw e at (line_says mark w s)) in record { p = k.p; g = k.g; t = k.t }

  gap_told : line_of mark w s ≡ Ok L.Gap → Told (after_of w L.Gap) s
  gap_told e = let k = gap_kind (rw e at (line_says mark w s)) in record { p = k.p; g = k.g; t = k.t }

-- what the last line left is told of it; p is the line before them all
pub last_told : {mark : Mark} {w v : Seen} {ls : List (List ℕ)} {p : List ℕ} → Reads mark w ls v → Told w p → Told v (last (p ∷ ls))
last_told Words.none t = t
last_told {mark} (Words.target {w = w} {s = s} e r) t = last_told r (target_told mark w s e)
last_told {mark} (Words.point {w = w} {s = s} e r) t = last_told r (point_told mark w s e)
last_told {mark} (Words.gap {w = w} {s = s} e r) t = last_told r (gap_told mark w s e)

-- ---- the count

more_points : (w : Seen) (lat lon : ℤ) → count (after_of w (L.Point lat lon)).points ≡ count w.points + 1
more_points w lat lon = omega (arith, one_more w lat lon)

pub reads_count : {mark : Mark} {w v : Seen} {ls : List (List ℕ)} → Reads mark w ls v → count v.points ≡ count w.points + p_lines_of ls
reads_count Words.none = omega arith
reads_count {mark} (Words.target {w = w} {s = s} e r) = rw (target_told mark w s e).p (omega (arith, reads_count r))
reads_count {mark} (Words.point {w = w} {s = s} {lat = lat} {lon = lon} e r) =
    rw (point_told mark w s e).p (omega (arith, reads_count r, more_points w lat lon))
reads_count {mark} (Words.gap {w = w} {s = s} e r) = rw (gap_told mark w s e).p (omega (arith, reads_count r))

-- ---- a `p` line of those that were read

-- s stands behind ls of them, u being what is seen before it; p is the line before them all
pub record AtPoint (mark : Mark) (w v : Seen) (p : List ℕ) (ls : List (List ℕ)) (s : List ℕ) : Type 0 where
  pub u : Seen
  pub lat : ℤ
  pub lon : ℤ
  pub latitude : number_of K.Latitude mark (field 1 s) ≡ Ok lat
  pub longitude : number_of K.Longitude mark (field 2 s) ≡ Ok lon
  pub told : Told u (last (p ∷ ls))
  pub sound : Sound u
  pub counted : count u.points ≡ count w.points + p_lines_of ls
  pub more : List ℤ
  pub all : v.points ≡ u.points ++ (point_numbers lat lon (third_of u.before) ++ more)

record Numbers (mark : Mark) (fields : List (List ℕ)) (lat lon : ℤ) : Type 0 where
  latitude : number_of K.Latitude mark (piece 1 fields) ≡ Ok lat
  longitude : number_of K.Longitude mark (piece 2 fields) ≡ Ok lon

point_numbers_lem : {mark : Mark} {b : Before} {n : ℕ} {lat lon : ℤ} {fields : List (List ℕ)} → LineSays mark b n fields (Ok (L.Point lat lon)) → Numbers mark fields lat lon
point_numbers_lem (Says.point i q y x) = record { latitude = y; longitude = x }

-- one line further back
later : {mark : Mark} {w v : Seen} (u : Seen) {p l k s : List ℕ} {ls : List (List ℕ)} → count u.points ≡ count w.points + (if is_p_line l then 1 else 0)
    → l ≡ k → AtPoint mark u v l ls s → AtPoint mark w v p (k ∷ ls) s
later u c e a =
    rw (← e)
    (record {
      u = a.u;
      lat = a.lat;
      lon = a.lon;
      latitude = a.latitude;
      longitude = a.longitude;
      told = a.told;
      sound = a.sound;
      counted = omega (arith, c, a.counted);
      more = a.more;
      all = a.all;
    })

no_p : {P : Type 0} {s l : List ℕ} → is_p_line s ≡ true → l ≡ s → is_p_line l ≡ false → P
no_p i e n = clash i (sym (ap is_p_line e) ∙ n)

module _ {mark : Mark} (s : List ℕ) (more : List (List ℕ)) (i : is_p_line s ≡ true) where
  pub at_point : {w v : Seen} {bs : List (List ℕ)} {p : List ℕ} → Reads mark w bs v → Sound w → Told w p → (ls : List (List ℕ))
      → bs ++ ([] ∷ []) ≡ ls ++ (s ∷ more) → AtPoint mark w v p ls s
  at_point Words.none h t [] e = no_p i (ap (piece 0) e) refl
  at_point Words.none h t (l ∷ ls) e = absurd (omega (arith, ap length e, length-append ls (s ∷ more)))
  at_point (Words.target {w = w} {s = k} q r) h t [] e = no_p i (ap (piece 0) e) (target_told mark w k q).p
  at_point (Words.target {w = w} {s = k} {mm = mm} q r) h t (l ∷ ls) e =
      let n = target_told mark w k q in
      later (after_of w (L.Target mm)) (rw n.p (omega arith)) (ap (piece 0) e) (at_point r (target_sound mark w h k mm q) n ls (ap past e))
  at_point (Words.point {w = w} {s = k} {lat = lat} {lon = lon} q r) h t [] e =
      let a = reads_added r (point_sound mark w h k lat lon q) in
      let n = point_numbers_lem (rw q at (line_says mark w k)) in
      let c : k ≡ s = ap (piece 0) e in
      record {
        u = w;
        lat = lat;
        lon = lon;
        latitude = rw (← c) n.latitude;
        longitude = rw (← c) n.longitude;
        told = t;
        sound = h;
        counted = omega arith;
        more = a.more;
        all = a.all ∙ append_assoc w.points (point_numbers lat lon (third_of w.before)) a.more;
      }
  at_point (Words.point {w = w} {s = k} {lat = lat} {lon = lon} q r) h t (l ∷ ls) e =
      let n = point_told mark w k q in
      later (after_of w (L.Point lat lon)) (rw n.p (more_points w lat lon)) (ap (piece 0) e)
      (at_point r (point_sound mark w h k lat lon q) n ls (ap past e))
  at_point (Words.gap {w = w} {s = k} q r) h t [] e = no_p i (ap (piece 0) e) (gap_told mark w k q).p
  at_point (Words.gap {w = w} {s = k} q r) h t (l ∷ ls) e =
      let n = gap_told mark w k q in
      later (after_of w L.Gap) (rw n.p (omega arith)) (ap (piece 0) e) (at_point r (gap_sound mark w h) n ls (ap past e))

-- the third number, by the lines before: i of them are `p` lines, and l is the last
pub third_number : (u : Seen) (l : List ℕ) (i : ℕ) → Sound u → Told u l → count u.points ≡ i
    → third_of u.before ≡ (if eqb i 0 || is_g_line l then pos 1 else pos 0)
third_number u l i h t c =
    by_test (same_kind u.before B.Point)
    (λ p.
    let q = same_kind_true u.before B.Point p in
    let n : eqb i 0 ≡ false = ne_eqb i 0 (λ z. omega (arith, h.some q)) in
    rw (n, t.g, q))
    (λ p.
    by_test (same_kind u.before B.Gap)
    (λ g.
    by_test (eqb i 0)
    (λ n. rw (p, n))
    (λ n. rw (p, n, t.g, g)))
    (λ g.
    let n : eqb i 0 ≡ true = eq-eqb i 0 (sym c ∙ h.first p g) in
    rw (p, n)))

-- ---- the target

-- of the fields of a `t` line
pub record Said (mark : Mark) (fields : List (List ℕ)) (mm : ℕ) : Type 0 where
  pub metres : ℤ
  pub number : number_of K.Target mark (piece 1 fields) ≡ Ok metres
  pub millimetres : mm ≡ 1_000 * nat_abs metres

target_number : {mark : Mark} {b : Before} {n mm : ℕ} {fields : List (List ℕ)} → LineSays mark b n fields (Ok (L.Target mm)) → Said mark fields mm
target_number (Says.target {v = v} i r e) = record { metres = v; number = e; millimetres = refl }

target_second : {P : Type 0} {mark : Mark} {b : Before} {n mm : ℕ} {fields : List (List ℕ)} → LineSays mark b n fields (Ok (L.Target mm)) → same_kind b B.Header ≡ false → P
target_second {b = b} (Says.target i r e) h = clash (same_kind_same b B.Header r) h

-- once a line was read, the target stays
later_same : {mark : Mark} {w v : Seen} {ls : List (List ℕ)} → Reads mark w ls v → same_kind w.before B.Header ≡ false → v.target ≡ w.target
later_same Words.none h = refl
later_same {mark} (Words.target {w = w} {s = s} e r) h = target_second (rw e at (line_says mark w s)) h
later_same (Words.point e r) h = later_same r refl
later_same (Words.gap e r) h = later_same r refl

-- the target is what line 2 says, and none where it is no `t` line
pub data TargetIs (mark : Mark) (s : List ℕ) : Option ℕ → Type 0 where
  some : {mm : ℕ} → is_t_line s ≡ true → Said mark (split TAB s) mm → TargetIs mark s (Some mm)
  none : is_t_line s ≡ false → TargetIs mark s None

pub target_is : {mark : Mark} {v : Seen} {ls : List (List ℕ)} → Reads mark fresh ls v → TargetIs mark (piece 0 (ls ++ ([] ∷ []))) v.target
target_is Words.none = none refl
target_is {mark} (Words.target {s = s} e r) =
    rw (later_same r refl) (some (target_told mark fresh s e).t (target_number (rw e at (line_says mark fresh s))))
target_is {mark} (Words.point {s = s} e r) = rw (later_same r refl) (none (point_told mark fresh s e).t)
target_is {mark} (Words.gap {s = s} e r) = rw (later_same r refl) (none (gap_told mark fresh s e).t)

-- ---- the room

some_pieces : (ss : List (List ℕ)) → 0 < length (ss ++ ([] ∷ []))
some_pieces [] = omega arith
some_pieces (s ∷ ss) = omega arith

module _ (mark : Mark) (room k : ℕ) (w v : Seen) (s : List ℕ) (ls : List (List ℕ)) where
  goes_on : (l : Line) → line_of mark w s ≡ Ok l
      → walk_from mark room (k + 1) (after_of w l) (ls ++ ([] ∷ [])) ≡ walk_from mark room (k + 1 + length ls) v ([] ∷ [])
      → walk_from mark room k w (s ∷ (ls ++ ([] ∷ []))) ≡ walk_from mark room (k + length (s ∷ ls)) v ([] ∷ [])
  goes_on l e h =
      walk_cons mark room k w s (ls ++ ([] ∷ [])) (some_pieces ls) ∙
      ap (λ (x : Result Line Refusal). on_line k x (λ y. walk_from mark room (k + 1) (after_of w y) (ls ++ ([] ∷ [])))) e ∙
      h ∙
      ap (λ (n : ℕ). walk_from mark room n v ([] ∷ [])) (omega arith)

-- all lines are read: what is left is the end
pub walk_end : {mark : Mark} {w v : Seen} {ls : List (List ℕ)} (room k : ℕ) → Reads mark w ls v
    → walk_from mark room k w (ls ++ ([] ∷ [])) ≡ walk_from mark room (k + length ls) v ([] ∷ [])
walk_end {mark} room k (Words.none {w = w}) = ap (λ (n : ℕ). walk_from mark room n w ([] ∷ [])) (omega arith)
walk_end {mark} room k (Words.target {w = w} {v = v} {s = s} {ss = ss} e r) = goes_on mark room k w v s ss _ e (walk_end room (k + 1) r)
walk_end {mark} room k (Words.point {w = w} {v = v} {s = s} {ss = ss} e r) = goes_on mark room k w v s ss _ e (walk_end room (k + 1) r)
walk_end {mark} room k (Words.gap {w = w} {v = v} {s = s} {ss = ss} e r) = goes_on mark room k w v s ss _ e (walk_end room (k + 1) r)

header_names : (mark : Mark) → header_of (header_text mark) ≡ Some mark
unfolding header_of
header_names M.Point = refl
header_names M.Comma = refl

-- of a text
pub text_walk : {mark : Mark} {v : Seen} {ls : List (List ℕ)} (text : List ℕ) (room : ℕ) → length text ≤ most_bytes
    → split LF text ≡ header_text mark ∷ (ls ++ ([] ∷ [])) → Reads mark fresh ls v → same_kind v.before B.Gap ≡ false
    → walk_of text room ≡ unless (leb (length v.points) room) (refused R.Room 0) (accepted v)
unfolding walk_of
text_walk {mark} {ls = ls} text room h e r g = rw (le-leb (length text) most_bytes h, e, lines_header room (header_text mark) (ls ++ ([] ∷ [])), header_names mark) (walk_end room 2 r ∙ rw g)
