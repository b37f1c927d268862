-- Laws of the lines of a text: why a walk over them comes to what it comes to, and what an accepted one leaves.
-- Assumes nothing.
use Rattle.std.specs.Prelude.{◌≡◌, refl, true, false, List, [], ◌∷◌, ◌++◌, ℕ, ◌+◌, ◌-◌, ◌*◌, ◌≤◌, ◌<◌, leb, ltb, ℤ, length, Result, Ok, Err, Option, Some, None}
use Rattle.std.proofs.Common.{sym, ap, ◌∙◌, inl, inr, append_assoc, append-nil, arith, ltb-true, ltb-false, leb-true, leb-false, le-leb, length-append}
use Rattle.refusals.specs.declared.Refusal.{Refusal}
use Rattle.refusals.specs.declared.Refusal.TheVariants as R
use Rattle.refusals.specs.Refusal.{of_line}
use Rattle.refusals.specs.Choice.{fine}
use Rattle.refusals.specs.Tests.{by_test, clash}
use Rattle.points.specs.Points.{numbers, count, most_points, point_numbers, fits_after, buffer_refusal}
use Rattle.points.proofs.PointLaws.{Points, none, next, points_accepted}
use Rattle.globe.specs.Measure.{length_up_to, measure_of}
use Rattle.globe.proofs.MeasureLaws.{accepted_measured}
use Rattle.numbers.specs.declared.Mark.{Mark}
use Rattle.numbers.specs.declared.Mark.TheVariants as M
use Rattle.numbers.specs.declared.Kind.TheVariants as K
use Rattle.numbers.specs.Pieces.{LF, split, index_of, same}
use Rattle.numbers.specs.PieceLaws.{onward}
use Rattle.numbers.proofs.PieceLaws.{split_cut, split_last, split_some, same_is}
use Rattle.numbers.proofs.NumberLaws.{number_in, latitude_in, longitude_in}
use Rattle.route.specs.declared.lines.Before.{Before}
use Rattle.route.specs.declared.lines.Before.TheVariants as B
use Rattle.route.specs.declared.lines.Line.{Line}
use Rattle.route.specs.declared.lines.Line.TheVariants as L
use Rattle.route.specs.Line.{Seen, same_kind, fresh, line_of, third_of, after_of}
use Rattle.route.specs.LineLaws.{LineSays}
use Rattle.route.proofs.LineLaws.{line_says, same_kind_true}
use Rattle.route.specs.LineLaws as Says
use Rattle.route.specs.Route.{most_bytes, Walk, refused, accepted, on_line, walk_from, lines_of, walk_of}
use Rattle.route.specs.WalkLaws.{header_of, after_header}
use Rattle.route.proofs.WalkLaws.{lines_header}
use Rattle.numbers.specs.Text.{bytes}
use Rattle.route.specs.Words.{Reads, header_text, NoHeader, piece}
use Rattle.route.specs.Words as Words

-- ---- why a walk comes to what it comes to

pub data WalkSays (mark : Mark) (room k : ℕ) (w : Seen) (ss : List (List ℕ)) : Walk → Type 0 where
  nothing : ss ≡ [] → WalkSays mark room k w ss (refused R.Header 1)
  bad_line : {n : Refusal} {at : ℕ} {ls : List (List ℕ)} {v : Seen} (s t : List ℕ) (more : List (List ℕ)) → ss ≡ ls ++ (s ∷ (t ∷ more)) → at ≡ k + length ls → Reads mark w ls v
      → line_of mark v s ≡ Err n → of_line n ≡ true → WalkSays mark room k w ss (refused n at)
  no_lf : {at : ℕ} {ls : List (List ℕ)} {v : Seen} (x : ℕ) (s : List ℕ) → ss ≡ ls ++ ((x ∷ s) ∷ []) → at ≡ k + length ls → Reads mark w ls v
      → WalkSays mark room k w ss (refused R.Line at)
  last_gap : {at : ℕ} {ls : List (List ℕ)} {v : Seen} → ss ≡ ls ++ ([] ∷ []) → at ≡ k + length ls - 1 → Reads mark w ls v → v.before ≡ B.Gap
      → WalkSays mark room k w ss (refused R.Order at)
  no_room : {ls : List (List ℕ)} {v : Seen} → ss ≡ ls ++ ([] ∷ []) → Reads mark w ls v → same_kind v.before B.Gap ≡ false → room < length v.points
      → WalkSays mark room k w ss (refused R.Room 0)
  all_read : {ls : List (List ℕ)} {v : Seen} → ss ≡ ls ++ ([] ∷ []) → Reads mark w ls v → same_kind v.before B.Gap ≡ false → length v.points ≤ room
      → WalkSays mark room k w ss (accepted v)

module _ (mark : Mark) (room k : ℕ) (w : Seen) where
  end_says : WalkSays mark room k w ([] ∷ []) (walk_from mark room k w ([] ∷ []))
  end_says =
      by_test (same_kind w.before B.Gap)
      (λ t. rw t (last_gap {at = k - 1} {ls = []} refl (omega arith) Words.none (same_kind_true w.before B.Gap t)))
      (λ t.
      by_test (leb (length w.points) room)
      (λ u. rw (t, u) (all_read {ls = []} refl Words.none t (leb-true (length w.points) room u)))
      (λ u. rw (t, u) (no_room {ls = []} refl Words.none t (leb-false (length w.points) room u))))

line_of_lem : {mark : Mark} {b : Before} {n : ℕ} {r : Refusal} {fields : List (List ℕ)} → LineSays mark b n fields (Err r) → of_line r ≡ true
line_of_lem (Says.refused o) = o

cons : {s : List ℕ} {ss ts : List (List ℕ)} → ss ≡ ts → s ∷ ss ≡ s ∷ ts
cons {s} e = ap (λ (l : List (List ℕ)). s ∷ l) e

longer : (mark : Mark) (room k : ℕ) (w v : Seen) (s t : List ℕ) (ss : List (List ℕ)) {x : Walk}
    → ((ls : List (List ℕ)) (u : Seen) → Reads mark v ls u → Reads mark w (s ∷ ls) u)
    → WalkSays mark room (k + 1) v (t ∷ ss) x → WalkSays mark room k w (s ∷ (t ∷ ss)) x
longer mark room k w v s t ss f (nothing e) = absurd (omega (arith, ap length e))
longer mark room k w v s t ss f (bad_line {at = at} {ls = ls} l u us e p r q o) = bad_line {at = at} {ls = s ∷ ls} l u us (cons e) (omega arith) (f ls _ r) q o
longer mark room k w v s t ss f (no_lf {at = at} {ls = ls} y l e p r) = no_lf {at = at} {ls = s ∷ ls} y l (cons e) (omega arith) (f ls _ r)
longer mark room k w v s t ss f (last_gap {at = at} {ls = ls} e p r g) = last_gap {at = at} {ls = s ∷ ls} (cons e) (omega arith) (f ls _ r) g
longer mark room k w v s t ss f (no_room {ls = ls} e r g h) = no_room {ls = s ∷ ls} (cons e) (f ls _ r) g h
longer mark room k w v s t ss f (all_read {ls = ls} e r g h) = all_read {ls = s ∷ ls} (cons e) (f ls _ r) g h

module _ (mark : Mark) (room k : ℕ) (w : Seen) (s t : List ℕ) (ss : List (List ℕ)) where
  line_walks : ((v : Seen) → WalkSays mark room (k + 1) v (t ∷ ss) (walk_from mark room (k + 1) v (t ∷ ss)))
      → (a : Result Line Refusal) → line_of mark w s ≡ a → WalkSays mark room k w (s ∷ (t ∷ ss)) (on_line k a (λ l. walk_from mark room (k + 1) (after_of w l) (t ∷ ss)))
  line_walks h (Ok (L.Target mm)) e = longer mark room k w _ s t ss (λ ls u r. Words.target e r) (h (after_of w (L.Target mm)))
  line_walks h (Ok (L.Point lat lon)) e = longer mark room k w _ s t ss (λ ls u r. Words.point e r) (h (after_of w (L.Point lat lon)))
  line_walks h (Ok L.Gap) e = longer mark room k w _ s t ss (λ ls u r. Words.gap e r) (h (after_of w L.Gap))
  line_walks h (Err r) e = bad_line {at = k} {ls = []} s t ss refl (omega arith) Words.none e (line_of_lem (rw e at (line_says mark w s)))

pub walk_says : (mark : Mark) (room k : ℕ) (w : Seen) (ss : List (List ℕ)) → WalkSays mark room k w ss (walk_from mark room k w ss)
walk_says mark room k w [] = nothing refl
walk_says mark room k w ([] ∷ []) = end_says mark room k w
walk_says mark room k w ((x ∷ s) ∷ []) = no_lf {at = k} {ls = []} x s refl (omega arith) Words.none
walk_says mark room k w (s ∷ (t ∷ ss)) = line_walks mark room k w s t ss (λ v. walk_says mark room (k + 1) v (t ∷ ss)) (line_of mark w s) refl

-- ---- what lines that are read leave

pub record Sound (w : Seen) : Type 0 where
  -- behind a `p` line there are points
  pub some : w.before ≡ B.Point → 1 ≤ count w.points
  -- behind line 1 and a `t` line there are none
  pub first : same_kind w.before B.Point ≡ false → same_kind w.before B.Gap ≡ false → count w.points ≡ 0
  -- so many numbers a point
  pub whole : length w.points ≡ numbers * count w.points
  pub few : count w.points ≤ most_points

pub fresh_sound : Sound fresh
fresh_sound = record { some = λ e. absurd (grind arith); first = λ p g. refl; whole = refl; few = omega arith }

pub one_more : (w : Seen) (lat lon : ℤ) → length (after_of w (L.Point lat lon)).points ≡ length w.points + numbers
one_more w lat lon = length-append w.points _

room_for : {mark : Mark} {b : Before} {n : ℕ} {fields : List (List ℕ)} {lat lon : ℤ} → LineSays mark b n fields (Ok (L.Point lat lon)) → n < most_points
room_for (Says.point p q y x) = q

second : {mark : Mark} {b : Before} {n mm : ℕ} {fields : List (List ℕ)} → LineSays mark b n fields (Ok (L.Target mm)) → b ≡ B.Header
second (Says.target t r e) = r

module _ (mark : Mark) (w : Seen) (h : Sound w) where
  pub target_sound : (s : List ℕ) (mm : ℕ) → line_of mark w s ≡ Ok (L.Target mm) → Sound (after_of w (L.Target mm))
  target_sound s mm e =
      let r = second (rw e at (line_says mark w s)) in
      record { some = λ t. absurd (grind arith); first = λ p g. h.first (rw r) (rw r); whole = h.whole; few = h.few }

  pub gap_sound : Sound (after_of w L.Gap)
  gap_sound = record { some = λ e. absurd (grind arith); first = λ p g. clash refl g; whole = h.whole; few = h.few }

  pub point_sound : (s : List ℕ) (lat lon : ℤ) → line_of mark w s ≡ Ok (L.Point lat lon) → Sound (after_of w (L.Point lat lon))
  point_sound s lat lon e =
      let n = one_more w lat lon in
      let q = room_for (rw e at (line_says mark w s)) in
      record { some = λ t. omega (arith, n); first = λ p g. clash refl p; whole = omega (arith, n, h.whole); few = omega (arith, n, q) }

pub reads_sound : {mark : Mark} {w v : Seen} {ls : List (List ℕ)} → Reads mark w ls v → Sound w → Sound v
reads_sound Words.none h = h
reads_sound {mark} (Words.target {w = w} {s = s} {mm = mm} e r) h = reads_sound r (target_sound mark w h s mm e)
reads_sound {mark} (Words.point {w = w} {s = s} {lat = lat} {lon = lon} e r) h = reads_sound r (point_sound mark w h s lat lon e)
reads_sound {mark} (Words.gap {w = w} e r) h = reads_sound r (gap_sound mark w h)

-- "1 for the first point and after `g`, else 0"
third_fits : (before : Before) (k : ℕ) → (before ≡ B.Point → 1 ≤ k) → fits_after k (third_of before) ≡ true
third_fits before k h =
    by_test (same_kind before B.Point)
    (λ t. rw (t, le-leb 1 k (h (same_kind_true before B.Point t))))
    (λ t. rw t)

-- the points that lines add are points of the globe
pub record Added (w v : Seen) : Type 0 where
  pub more : List ℤ
  pub all : v.points ≡ w.points ++ more
  pub points : Points (count w.points) more

pointed : {mark : Mark} {b : Before} {n : ℕ} {fields : List (List ℕ)} {lat lon third : ℤ} {ps : List ℤ} → LineSays mark b n fields (Ok (L.Point lat lon))
    → fits_after n third ≡ true → Points (n + 1) ps → Points n (point_numbers lat lon third ++ ps)
pointed (Says.point {s = s} {t = t} {lat = lat} {lon = lon} p q y x) f ps =
    next (latitude_in lat (number_in K.Latitude _ s lat y)) (longitude_in lon (number_in K.Longitude _ t lon x)) f ps

pub reads_added : {mark : Mark} {w v : Seen} {ls : List (List ℕ)} → Reads mark w ls v → Sound w → Added w v
reads_added (Words.none {w = w}) h = record { more = []; all = sym (append-nil w.points); points = none }
reads_added {mark} (Words.target {w = w} {s = s} {mm = mm} e r) h =
    let a = reads_added r (target_sound mark w h s mm e) in
    record { more = a.more; all = a.all; points = a.points }
reads_added {mark} (Words.point {w = w} {s = s} {lat = lat} {lon = lon} e r) h =
    let a = reads_added r (point_sound mark w h s lat lon e) in
    let third = third_of w.before in
    let n : count (after_of w (L.Point lat lon)).points ≡ count w.points + 1 = omega (arith, one_more w lat lon) in
    record {
      more = point_numbers lat lon third ++ a.more;
      all = a.all ∙ append_assoc w.points (point_numbers lat lon third) a.more;
      points = pointed (rw e at (line_says mark w s)) (third_fits w.before (count w.points) h.some) (rw n at a.points);
    }
reads_added {mark} (Words.gap {w = w} e r) h =
    let a = reads_added r (gap_sound mark w h) in
    record { more = a.more; all = a.all; points = a.points }

-- of all lines after line 1
module _ {mark : Mark} {v : Seen} {ls : List (List ℕ)} (r : Reads mark fresh ls v) where
  -- the globe refuses none of the points
  pub unrefused : buffer_refusal v.points ≡ fine
  unrefused = let a = reads_added r fresh_sound in points_accepted (rw (← a.all) at a.points) (reads_sound r fresh_sound).few

  pub measured : measure_of v.points ≡ Ok (length_up_to v.points (count v.points))
  measured = accepted_measured v.points unrefused

-- of a walk that is accepted
pub record AllRead (mark : Mark) (room : ℕ) (ss : List (List ℕ)) (v : Seen) : Type 0 where
  pub lines : List (List ℕ)
  pub pieces : ss ≡ lines ++ ([] ∷ [])
  pub reads : Reads mark fresh lines v
  pub no_gap : same_kind v.before B.Gap ≡ false
  pub fits : length v.points ≤ room

all_of : {mark : Mark} {room k : ℕ} {ss : List (List ℕ)} {v : Seen} → WalkSays mark room k fresh ss (accepted v) → AllRead mark room ss v
all_of (all_read {ls = ls} e r g h) = record { lines = ls; pieces = e; reads = r; no_gap = g; fits = h }

pub walked : (mark : Mark) (room k : ℕ) (ss : List (List ℕ)) {v : Seen} → walk_from mark room k fresh ss ≡ accepted v → AllRead mark room ss v
walked mark room k ss e = all_of (rw e at (walk_says mark room k fresh ss))

-- ---- the whole text

-- what a header tells of line 1
data HeaderSays (s : List ℕ) : Option Mark → Type 0 where
  names : (mark : Mark) → s ≡ header_text mark → HeaderSays s (Some mark)
  unknown : ((mark : Mark) → s ≡ header_text mark → ⊥) → HeaderSays s None

other : (s : List ℕ) → same s (bytes "route\tpoint") ≡ false → same s (bytes "route\tcomma") ≡ false → (mark : Mark) → s ≡ header_text mark → ⊥
other s p c M.Point e = clash refl (sym (ap (λ (x : List ℕ). same x (bytes "route\tpoint")) e) ∙ p)
other s p c M.Comma e = clash refl (sym (ap (λ (x : List ℕ). same x (bytes "route\tcomma")) e) ∙ c)

header_says : (s : List ℕ) → HeaderSays s (header_of s)
unfolding header_of
header_says s =
    by_test (same s (bytes "route\tpoint"))
    (λ p. rw p (names M.Point (same_is s (bytes "route\tpoint") p)))
    (λ p.
    by_test (same s (bytes "route\tcomma"))
    (λ c. rw (p, c) (names M.Comma (same_is s (bytes "route\tcomma") c)))
    (λ c. rw (p, c) (unknown (other s p c))))

one_piece : (text s : List ℕ) → split LF text ≡ s ∷ [] → split LF text ≡ text ∷ []
one_piece text s e =
    by_test (ltb (index_of LF text) (length text))
    (λ t.
    let i = index_of LF text in
    let r = onward text (i + 1) in
    let c = ap length (split_cut LF i text refl (ltb-true i (length text) t)) in
    absurd (omega (arith, c, ap length e, split_some LF r)))
    (λ t. split_last LF text (ltb-false (index_of LF text) (length text) t))

-- why a text's walk comes to what it comes to
pub data TextSays (text : List ℕ) (room : ℕ) : Walk → Type 0 where
  too_long : most_bytes < length text → TextSays text room (refused R.Text 0)
  no_header : length text ≤ most_bytes → NoHeader text → TextSays text room (refused R.Header 1)
  walks : {x : Walk} (mark : Mark) (ss : List (List ℕ)) → length text ≤ most_bytes → split LF text ≡ header_text mark ∷ ss → 0 < length ss
      → WalkSays mark room 2 fresh ss x → TextSays text room x

module _ (text : List ℕ) (room : ℕ) (short : length text ≤ most_bytes) where
  after_header_lem : (s : List ℕ) (ss : List (List ℕ)) → split LF text ≡ s ∷ ss → {h : Option Mark} → HeaderSays s h → TextSays text room (after_header h room ss)
  after_header_lem s ss e (unknown f) = no_header short (inr (λ mark q. f mark (sym (ap (piece 0) e) ∙ q)))
  after_header_lem s [] e (names mark q) = no_header short (inl (one_piece text s e))
  after_header_lem s (t ∷ ss) e (names mark q) = walks mark (t ∷ ss) short (e ∙ ap (λ (x : List ℕ). x ∷ (t ∷ ss)) q) (omega arith) (walk_says mark room 2 fresh (t ∷ ss))

  lines_say : (ps : List (List ℕ)) → split LF text ≡ ps → TextSays text room (lines_of room ps)
  lines_say [] e = absurd (omega (arith, ap length e, split_some LF text))
  lines_say (s ∷ ss) e = rw (lines_header room s ss) (after_header_lem s ss e (header_says s))

pub text_says : (text : List ℕ) (room : ℕ) → TextSays text room (walk_of text room)
unfolding walk_of
text_says text room =
    by_test (leb (length text) most_bytes)
    (λ t. rw t (lines_say text room (leb-true (length text) most_bytes t) (split LF text) refl))
    (λ t. rw t (too_long (leb-false (length text) most_bytes t)))
