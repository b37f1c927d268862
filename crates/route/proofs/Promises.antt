-- What the reader promises of every text and every buffer, in the paper's numbers; docs/PROMISES.md names these theorems.
-- Assumes nothing.
use Rattle.std.specs.Prelude.{◌≡◌, refl, ◌⊎◌, true, false, not, ◌||◌, List, [], ◌∷◌, ◌++◌, ℕ, ◌+◌, ◌*◌, ◌≤◌, ◌<◌, eqb, leb, ℤ, pos, nat_abs, length, take, drop, get_or, if◌then◌else◌, Result, Ok, Err, Option}
use Rattle.std.proofs.Common.{sym, ap, ◌∙◌, inl, inr, append_assoc, arith, eqb-true, le-leb, length-append, length-drop, take_at, drop_at, get_or-append-add}
use Rattle.std.proofs.lemmas.Bool.{lt-leb, not-true}
use Rattle.refusals.specs.declared.Refusal.{Refusal}
use Rattle.refusals.specs.declared.Refusal.TheVariants as R
use Rattle.refusals.specs.Refusal.{number, of_line}
use Rattle.refusals.specs.Choice.{unless, fine}
use Rattle.refusals.specs.Tests.{some_number, line_number, and_true, by_test, clash}
use Rattle.points.specs.Points.{numbers, count, point_numbers, latitude_at, longitude_at, third_at, buffer_refusal}
use Rattle.globe.specs.Measure.{length_up_to, measure_of}
use Rattle.numbers.specs.declared.Mark.{Mark}
use Rattle.numbers.specs.declared.Mark.TheVariants as M
use Rattle.numbers.specs.declared.Kind.TheVariants as K
use Rattle.numbers.specs.Number.{number_of}
use Rattle.numbers.specs.Pieces.{LF, onto, split, holds}
use Rattle.numbers.proofs.PieceLaws.{split_some}
use Rattle.route.specs.declared.Route.{Route}
use Rattle.route.specs.declared.Refused.{Refused}
use Rattle.route.specs.declared.ReadingOut.{ReadingOut}
use Rattle.route.specs.declared.lines.Before.TheVariants as B
use Rattle.route.specs.Line.{Seen, same_kind, fresh, line_of, third_of}
use Rattle.route.proofs.LineLaws.{same_kind_same}
use Rattle.route.specs.Route.{most_bytes, Walk, refused, accepted, walk_of, reading_of, buffer_of}
use Rattle.route.specs.Paper.{reading_paper}
use Rattle.route.specs.Words.{paper, joined, without, piece, past, last, header_text, NoHeader, field, is_p_line, is_g_line, is_t_line, p_lines_of, Reads}
use Rattle.route.proofs.RouteLaws.{WalkSays, TextSays, text_says, fresh_sound, reads_sound, unrefused, measured}
use Rattle.route.proofs.RouteLaws as Laws
use Rattle.route.proofs.WalkLaws.{too_long}
use Rattle.route.proofs.ReadsLaws.{Told, header_told, last_told, reads_count, AtPoint, at_point, third_number, TargetIs, target_is, text_walk}
use Rattle.route.proofs.ReadsLaws as Lines

-- ---- a refused text

-- the refusals of a walk
record RefusedWalk (text : List ℕ) (r : Refusal) (k : ℕ) : Type 0 where
  only : k ≡ 0 → (number r ≡ 1) ⊎ (number r ≡ 10)
  long : number r ≡ 1 → (k ≡ 0) × (60_000 < length text)
  small : number r ≡ 10 → k ≡ 0

lined : {text : List ℕ} {k : ℕ} (r : Refusal) → of_line r ≡ true → 1 ≤ k → RefusedWalk text r k
lined r o h = let n = line_number r o in record { only = λ e. absurd (omega arith); long = λ e. absurd (n.0 e); small = λ e. absurd (n.1 e) }

walk_refusal : {text : List ℕ} {room k : ℕ} {r : Refusal} {mark : Mark} {ss : List (List ℕ)} → WalkSays mark room 2 fresh ss (refused r k) → RefusedWalk text r k
walk_refusal (Laws.nothing e) = lined R.Header refl (omega arith)
walk_refusal (Laws.bad_line s t more e p r q o) = lined _ o (omega arith)
walk_refusal (Laws.no_lf x s e p r) = lined R.Line refl (omega arith)
walk_refusal (Laws.last_gap e p r g) = lined R.Order refl (omega arith)
walk_refusal (Laws.no_room e r g h) =
    record { only = λ e. inr refl; long = λ e. absurd (omega arith); small = λ e. refl }

text_refusal_lem : {text : List ℕ} {room k : ℕ} {r : Refusal} → TextSays text room (refused r k) → RefusedWalk text r k
text_refusal_lem (Laws.too_long h) =
    record { only = λ e. inl refl; long = λ e. (refl, h); small = λ e. absurd (omega arith) }
text_refusal_lem (Laws.no_header h f) = lined R.Header refl (omega arith)
text_refusal_lem (Laws.walks mark ss h e f w) = walk_refusal w

abbrev route : ℕ → ℕ → Option ℕ → Route
route n mm t = record { points = n; length = mm; target = t }

-- the walk behind an answer
data Answer (text : List ℕ) (buffer : List ℤ) : Type 0 where
  refuses : (r : Refusal) (k : ℕ) → walk_of text (length buffer) ≡ refused r k → Answer text buffer
  accepts : (v : Seen) → walk_of text (length buffer) ≡ accepted v → Answer text buffer

answer : (text : List ℕ) (buffer : List ℤ) → Answer text buffer
answer text buffer = go (walk_of text (length buffer)) refl
  where
    go : (x : Walk) → walk_of text (length buffer) ≡ x → Answer text buffer
    go (refused n k) e = refuses n k e
    go (accepted v) e = accepts v e

module _ (text : List ℕ) (buffer : List ℤ) where
  module _ {n : Refusal} {k : ℕ} (e : walk_of text (length buffer) ≡ refused n k) where
    the_refusal : RefusedWalk text n k
    the_refusal = text_refusal_lem (rw e at (text_says text (length buffer)))

    refused_answer : reading_of text (length buffer) ≡ Err (record { refusal = n; line = k })
    unfolding reading_of
    refused_answer = rw e

    refused_left : buffer_of text buffer ≡ buffer
    unfolding buffer_of
    refused_left = rw e

  module _ {v : Seen} (e : walk_of text (length buffer) ≡ accepted v) where
    accepted_answer : reading_of text (length buffer) ≡ Ok (route (count v.points) (length_up_to v.points (count v.points)) v.target)
    unfolding reading_of
    accepted_answer = rw e

    accepted_left : buffer_of text buffer ≡ v.points ++ drop (length v.points) buffer
    unfolding buffer_of
    accepted_left = rw e

-- the paper's numbers of a route
record RoutePaper (n mm : ℕ) (p : ReadingOut) : Type 0 where
  refusal : p.refusal ≡ 0
  line : p.line ≡ 0
  points : p.points ≡ n
  long : p.length ≡ mm

route_paper : (n mm : ℕ) (t : Option ℕ) → RoutePaper n mm (reading_paper (Ok (route n mm t)))
route_paper n mm t = record { refusal = refl; line = refl; points = refl; long = refl }

-- what stands behind the number 0
record Accepted (text : List ℕ) (buffer : List ℤ) : Type 0 where
  v : Seen
  mark : Mark
  lines : List (List ℕ)
  walk : walk_of text (length buffer) ≡ accepted v
  pieces : split LF text ≡ header_text mark ∷ (lines ++ ([] ∷ []))
  reads : Reads mark fresh lines v
  short : length text ≤ most_bytes
  no_gap : same_kind v.before B.Gap ≡ false
  fits : length v.points ≤ length buffer
  told : RoutePaper (count v.points) (length_up_to v.points (count v.points)) (paper text buffer)

module _ (text : List ℕ) (buffer : List ℤ) where
  all_accepted : {v : Seen} {mark : Mark} {ss : List (List ℕ)} → walk_of text (length buffer) ≡ accepted v → length text ≤ most_bytes → split LF text ≡ header_text mark ∷ ss
      → WalkSays mark (length buffer) 2 fresh ss (accepted v) → Accepted text buffer
  all_accepted {v} {mark} e short p (Laws.all_read {ls = ls} q r g h) =
      record {
        v = v;
        mark = mark;
        lines = ls;
        walk = e;
        pieces = p ∙ ap (λ (l : List (List ℕ)). header_text mark ∷ l) q;
        reads = r;
        short = short;
        no_gap = g;
        fits = h;
        told = rw (accepted_answer text buffer e) (route_paper _ _ v.target);
      }

  text_accepted : {v : Seen} → walk_of text (length buffer) ≡ accepted v → TextSays text (length buffer) (accepted v) → Accepted text buffer
  text_accepted e (Laws.walks mark ss h p f w) = all_accepted e h p w

  accepted_of : (paper text buffer).refusal ≡ 0 → Accepted text buffer
  accepted_of z = go (answer text buffer)
    where
      go : Answer text buffer → Accepted text buffer
      go (refuses n k e) = absurd (omega (arith, some_number n, sym (ap (λ (r : Result Route Refused). (reading_paper r).refusal) (refused_answer text buffer e)) ∙ z))
      go (accepts v e) = text_accepted e (rw e at (text_says text (length buffer)))

-- ---- demand 1, of the reader

pub record RefusedRead (text : List ℕ) (buffer : List ℤ) (n k : ℕ) : Type 0 where
  pub r : Refusal
  pub says : number r ≡ n
  pub answer : reading_of text (length buffer) ≡ Err (record { refusal = r; line = k })
  -- "A refusal gives zero in every value beside its number (and line)"
  pub sent : paper text buffer ≡ record { refusal = n; line = k; points = 0; has_target = 0; length = 0; target = 0 }
  -- "and writes to no lent buffer"
  pub left : buffer_of text buffer ≡ buffer

-- where the paper's number is not 0, it and the line are the refusal's, all else is zero and the buffer is as it was
pub refused_read : (text : List ℕ) (buffer : List ℤ) → 1 ≤ (paper text buffer).refusal
    → RefusedRead text buffer (paper text buffer).refusal (paper text buffer).line
refused_read text buffer h = go (answer text buffer)
  where
    go : Answer text buffer → RefusedRead text buffer (paper text buffer).refusal (paper text buffer).line
    go (refuses n k e) =
        let a = refused_answer text buffer e in
        rw a (record { r = n; says = refl; answer = a; sent = ap reading_paper a; left = refused_left text buffer e })
    go (accepts v e) = absurd (omega (arith, h, (text_accepted text buffer e (rw e at (text_says text (length buffer)))).told.refusal))

-- 0 is the number of no refusal
pub refusal_number : (text : List ℕ) (buffer : List ℤ) {r : Refusal} {k : ℕ} → reading_of text (length buffer) ≡ Err (record { refusal = r; line = k })
    → (paper text buffer).refusal ≡ 0 → ⊥
refusal_number text buffer {r} e z = omega (arith, some_number r, sym (ap (λ (x : Result Route Refused). (reading_paper x).refusal) e) ∙ z)

-- ---- which refusal, and where

-- "(line 0)" stands beside 1 and 10 alone
pub record ZeroLine (n k : ℕ) : Type 0 where
  pub only : k ≡ 0 → (n ≡ 1) ⊎ (n ≡ 10)
  pub text : n ≡ 1 → k ≡ 0
  pub room : n ≡ 10 → k ≡ 0

-- the paper's number and line where it is not 0
record ToldRefusal (text : List ℕ) (buffer : List ℤ) : Type 0 where
  r : Refusal
  k : ℕ
  walk : walk_of text (length buffer) ≡ refused r k
  says : (paper text buffer).refusal ≡ number r
  line : (paper text buffer).line ≡ k

module _ (text : List ℕ) (buffer : List ℤ) where
  refusal_of_lem : 1 ≤ (paper text buffer).refusal → ToldRefusal text buffer
  refusal_of_lem h = go (answer text buffer)
    where
      go : Answer text buffer → ToldRefusal text buffer
      go (refuses n k e) =
          let a = refused_answer text buffer e in
          record { r = n; k = k; walk = e; says = ap (λ (r : Result Route Refused). (reading_paper r).refusal) a; line = ap (λ (r : Result Route Refused). (reading_paper r).line) a }
      go (accepts v e) = absurd (omega (arith, h, (text_accepted text buffer e (rw e at (text_says text (length buffer)))).told.refusal))

  pub refusal_zero_line : 1 ≤ (paper text buffer).refusal → ZeroLine (paper text buffer).refusal (paper text buffer).line
  refusal_zero_line h =
      let r = refusal_of_lem h in
      let w = the_refusal text buffer r.walk in
      rw (r.says, r.line) (record { only = w.only; text = λ e. (w.long e).0; room = w.small })

  -- "text longer than 60,000 bytes"
  pub record TooLong : Type 0 where
    pub only : (paper text buffer).refusal ≡ 1 → 60_000 < length text
    pub whenever : 60_000 < length text → (paper text buffer).refusal ≡ 1

  pub text_exactly : TooLong
  unfolding reading_of
  text_exactly =
      record {
        only = λ e. let r = refusal_of_lem (omega arith) in ((the_refusal text buffer r.walk).long (sym r.says ∙ e)).1;
        whenever = λ h. rw (too_long text (length buffer) h);
      }

-- a text's line of a refusal, and what stands there
pub data RefusedAt (text : List ℕ) (n k : ℕ) : Type 0 where
  -- "line 1 missing, without LF or other than the two headers"
  header : n ≡ 2 → k ≡ 1 → NoHeader text → RefusedAt text n k
  -- the lines before line k were all read; it has an LF, and judged after them it gives n
  line : {r : Refusal} {mark : Mark} {ls : List (List ℕ)} {v : Seen} (s t : List ℕ) (more : List (List ℕ))
      → split LF text ≡ header_text mark ∷ (ls ++ (s ∷ (t ∷ more))) → k ≡ 2 + length ls → Reads mark fresh ls v → line_of mark v s ≡ Err r
      → n ≡ number r → RefusedAt text n k
  -- they were, and it has no LF
  no_lf : {mark : Mark} {ls : List (List ℕ)} {v : Seen} (x : ℕ) (s : List ℕ)
      → split LF text ≡ header_text mark ∷ (ls ++ ((x ∷ s) ∷ [])) → k ≡ 2 + length ls → Reads mark fresh ls v → n ≡ 3 → RefusedAt text n k
  -- all lines were read, and the last is a `g`: "a last `g` names its own line"
  last_gap : {mark : Mark} {ls : List (List ℕ)} {v : Seen}
      → split LF text ≡ header_text mark ∷ (ls ++ ([] ∷ [])) → k ≡ 1 + length ls → Reads mark fresh ls v → is_g_line (last ls) ≡ true → n ≡ 8 → RefusedAt text n k

-- the last of the lines, where some were read
last_line : {mark : Mark} {ls : List (List ℕ)} {v : Seen} → Reads mark fresh ls v → v.before ≡ B.Gap → is_g_line (last ls) ≡ true
last_line {mark} {ls} {v} r g = go ls (last_told r (header_told mark))
  where
    go : (l : List (List ℕ)) → Told v (last (header_text mark ∷ l)) → is_g_line (last l) ≡ true
    go [] t = clash (same_kind_same v.before B.Gap g) (sym t.g ∙ (header_told mark).g)
    go (s ∷ l) t = t.g ∙ same_kind_same v.before B.Gap g

module _ (text : List ℕ) where
  walk_at : {room k : ℕ} {n : Refusal} {mark : Mark} {ss : List (List ℕ)} → WalkSays mark room 2 fresh ss (refused n k) → split LF text ≡ header_text mark ∷ ss
      → 0 < length ss → (k ≡ 0 → ⊥) → RefusedAt text (number n) k
  walk_at (Laws.nothing e) p f z = absurd (omega (arith, f, ap length e))
  walk_at {mark = mark} (Laws.bad_line s t more e a r q o) p f z = line s t more (p ∙ ap (λ (l : List (List ℕ)). header_text mark ∷ l) e) a r q refl
  walk_at {mark = mark} (Laws.no_lf x s e a r) p f z = no_lf x s (p ∙ ap (λ (l : List (List ℕ)). header_text mark ∷ l) e) a r refl
  walk_at {mark = mark} (Laws.last_gap {ls = ls} e a r g) p f z =
      last_gap {ls = ls} (p ∙ ap (λ (l : List (List ℕ)). header_text mark ∷ l) e) (omega arith) r (last_line r g) refl
  walk_at (Laws.no_room e r g h) p f z = absurd (z refl)

  text_at : {room k : ℕ} {n : Refusal} → TextSays text room (refused n k) → (k ≡ 0 → ⊥) → RefusedAt text (number n) k
  text_at (Laws.too_long h) z = absurd (z refl)
  text_at (Laws.no_header h f) z = header refl refl f
  text_at (Laws.walks mark ss h e f w) z = walk_at w e f z

-- where a text is refused with a line, the lines before it were all read, and that line gives the number
pub refusal_line : (text : List ℕ) (buffer : List ℤ) → 1 ≤ (paper text buffer).line → RefusedAt text (paper text buffer).refusal (paper text buffer).line
refusal_line text buffer h = go (answer text buffer)
  where
    go : Answer text buffer → RefusedAt text (paper text buffer).refusal (paper text buffer).line
    go (refuses n k e) =
        let a = refused_answer text buffer e in
        let z : 1 ≤ k = rw a at h in
        rw a (text_at text (rw e at (text_says text (length buffer))) (λ q. omega arith))
    go (accepts v e) = absurd (omega (arith, h, (text_accepted text buffer e (rw e at (text_says text (length buffer)))).told.line))

-- ---- the lines of an accepted text

joined_onto : (b x : ℕ) (ps : List (List ℕ)) → joined b (onto x ps) ≡ x ∷ joined b ps
joined_onto b x [] = refl
joined_onto b x (p ∷ []) = refl
joined_onto b x (p ∷ (q ∷ ps)) = refl

joined_cut : (b : ℕ) (ps : List (List ℕ)) → 0 < length ps → joined b ([] ∷ ps) ≡ b ∷ joined b ps
joined_cut b [] h = absurd (omega arith)
joined_cut b (p ∷ ps) h = refl

-- no byte is lost between the pieces, and the pieces are without b
pub joined_split : (b : ℕ) (s : List ℕ) → joined b (split b s) ≡ s
joined_split b [] = refl
joined_split b (x ∷ s) =
    by_test (eqb x b)
    (λ t. rw (t, joined_cut b (split b s) (split_some b s), joined_split b s, eqb-true x b t))
    (λ t. rw (t, joined_onto b x (split b s), joined_split b s))

none_longer : (b x : ℕ) (p : List ℕ) → eqb x b ≡ false → holds b p ≡ false → holds b (x ∷ p) ≡ false
none_longer b x p t h = rw t h

without_onto : (b x : ℕ) (ps : List (List ℕ)) → eqb x b ≡ false → without b ps ≡ true → without b (onto x ps) ≡ true
without_onto b x [] t h = rw t
without_onto b x (p ∷ ps) t h =
    let q = and_true (not (holds b p)) (without b ps) h in
    rw (none_longer b x p t (not-true (holds b p) q.0)) q.1

pub without_split : (b : ℕ) (s : List ℕ) → without b (split b s) ≡ true
without_split b [] = refl
without_split b (x ∷ s) =
    by_test (eqb x b)
    (λ t. rw t (without_split b s))
    (λ t. rw t (without_onto b x (split b s) t (without_split b s)))

pub record NothingSkipped (text : List ℕ) : Type 0 where
  -- the pieces are what stands between the LFs, and no byte is lost
  pub parted : without LF (split LF text) ≡ true
  pub whole : joined LF (split LF text) ≡ text
  -- line 1 is a header, then come lines, and nothing stands after the last LF
  pub mark : Mark
  pub lines : List (List ℕ)
  pub pieces : split LF text ≡ header_text mark ∷ (lines ++ ([] ∷ []))
  -- each line is read as a target, a point or a gap, and the last is no `g`
  pub seen : Seen
  pub read : Reads mark fresh lines seen
  pub no_gap : is_g_line (last lines) ≡ false

no_last : {mark : Mark} {ls : List (List ℕ)} {v : Seen} → Reads mark fresh ls v → same_kind v.before B.Gap ≡ false → is_g_line (last ls) ≡ false
no_last {mark} {ls} {v} r g = go ls (last_told r (header_told mark))
  where
    go : (l : List (List ℕ)) → Told v (last (header_text mark ∷ l)) → is_g_line (last l) ≡ false
    go [] t = refl
    go (s ∷ l) t = t.g ∙ g

no_p_header : (mark : Mark) → is_p_line (header_text mark) ≡ false
no_p_header M.Point = refl
no_p_header M.Comma = refl

end_no_p : (ls : List (List ℕ)) → p_lines_of (ls ++ ([] ∷ [])) ≡ p_lines_of ls
end_no_p [] = refl
end_no_p (s ∷ ls) = rw (end_no_p ls)

pub record PointsThenRest (text : List ℕ) (buffer : List ℤ) : Type 0 where
  pub line : (paper text buffer).line ≡ 0
  pub room : numbers * (paper text buffer).points ≤ length buffer
  -- the globe refuses none of the numbers that are written, and measures them as long as is answered
  pub unrefused : buffer_refusal (take (numbers * (paper text buffer).points) (buffer_of text buffer)) ≡ fine
  pub measured : measure_of (take (numbers * (paper text buffer).points) (buffer_of text buffer)) ≡ Ok (paper text buffer).length
  -- "The rest of the buffer is unchanged."
  pub rest : drop (numbers * (paper text buffer).points) (buffer_of text buffer) ≡ drop (numbers * (paper text buffer).points) buffer
  pub as_long : length (buffer_of text buffer) ≡ length buffer

-- point i of the buffer is the `p` line s that i of them stand before, ls being the lines before it
pub record PointOfLine (text : List ℕ) (buffer : List ℤ) (ls : List (List ℕ)) (s : List ℕ) : Type 0 where
  pub mark : Mark
  pub header : piece 0 (split LF text) ≡ header_text mark
  pub latitude : number_of K.Latitude mark (field 1 s) ≡ Ok (latitude_at (buffer_of text buffer) (p_lines_of ls))
  pub longitude : number_of K.Longitude mark (field 2 s) ≡ Ok (longitude_at (buffer_of text buffer) (p_lines_of ls))
  -- "1 for the first point and after `g`, else 0"
  pub third : third_at (buffer_of text buffer) (p_lines_of ls) ≡ (if eqb (p_lines_of ls) 0 || is_g_line (last ls) then pos 1 else pos 0)

-- "whether there is a target and its millimetres (0 if none)": what line 2 says
pub data TargetOf (text : List ℕ) (p : ReadingOut) : Type 0 where
  some : (mark : Mark) (metres : ℤ) → piece 0 (split LF text) ≡ header_text mark → is_t_line (piece 1 (split LF text)) ≡ true
      → number_of K.Target mark (field 1 (piece 1 (split LF text))) ≡ Ok metres → p.has_target ≡ 1 → p.target ≡ 1_000 * nat_abs metres → TargetOf text p
  none : is_t_line (piece 1 (split LF text)) ≡ false → p.has_target ≡ 0 → p.target ≡ 0 → TargetOf text p

module _ (text : List ℕ) (buffer : List ℤ) (z : (paper text buffer).refusal ≡ 0) where
  abbrev a : Accepted text buffer
  a = accepted_of text buffer z

  -- every byte of an accepted text is in a line that was read
  pub nothing_skipped : NothingSkipped text
  nothing_skipped =
      record {
        parted = without_split LF text;
        whole = joined_split LF text;
        mark = a.mark;
        lines = a.lines;
        pieces = a.pieces;
        seen = a.v;
        read = a.reads;
        no_gap = no_last a.reads a.no_gap;
      }

  -- "A point count not equal to the `p` lines dies on demand 2."
  pub count_of_p : (paper text buffer).points ≡ p_lines_of (split LF text)
  count_of_p = a.told.points ∙ reads_count a.reads ∙ rw (a.pieces, no_p_header a.mark, end_no_p a.lines) (omega arith)

  -- "at most 1,000 such lines"
  pub at_most_1000 : (paper text buffer).points ≤ 1_000
  at_most_1000 = omega (arith, a.told.points, (reads_sound a.reads fresh_sound).few)

  n_numbers : length a.v.points ≡ numbers * (paper text buffer).points
  n_numbers = omega (arith, a.told.points, (reads_sound a.reads fresh_sound).whole)

  left : buffer_of text buffer ≡ a.v.points ++ drop (numbers * (paper text buffer).points) buffer
  left = accepted_left text buffer a.walk ∙ ap (λ (n : ℕ). a.v.points ++ drop n buffer) n_numbers

  written : take (numbers * (paper text buffer).points) (buffer_of text buffer) ≡ a.v.points
  written = ap (take (numbers * (paper text buffer).points)) left ∙ take_at a.v.points _ _ n_numbers

  -- an accepted text leaves its points, which the globe accepts and measures, then the rest of the buffer as it was
  pub points_then_rest : PointsThenRest text buffer
  points_then_rest =
      record {
        line = a.told.line;
        room = omega (arith, n_numbers, a.fits);
        unrefused = ap buffer_refusal written ∙ unrefused a.reads;
        measured = ap measure_of written ∙ measured a.reads ∙ ap (λ (n : ℕ). Ok n) (sym a.told.long);
        rest = ap (drop (numbers * (paper text buffer).points)) left ∙ drop_at a.v.points _ _ n_numbers;
        as_long = ap length left ∙ simp (length-append, length-drop) (omega (arith, n_numbers, a.fits));
      }

  -- the number that stands k behind the first of a point: us are the numbers before the point, ps its own
  part : (us ps more : List ℤ) (i : ℕ) → a.v.points ≡ us ++ (ps ++ more) → length us ≡ numbers * i → (k : ℕ)
      → get_or (buffer_of text buffer) (numbers * i + k) (pos 0) ≡ get_or (ps ++ (more ++ drop (numbers * (paper text buffer).points) buffer)) k (pos 0)
  part us ps more i e n k =
      let rest = drop (numbers * (paper text buffer).points) buffer in
      let q = left ∙ ap (λ (l : List ℤ). l ++ rest) e ∙ append_assoc us (ps ++ more) rest ∙ ap (λ (l : List ℤ). us ++ l) (append_assoc ps more rest) in
      ap (λ (l : List ℤ). get_or l (numbers * i + k) (pos 0)) q ∙
      ap (λ (j : ℕ). get_or (us ++ (ps ++ (more ++ rest))) (j + k) (pos 0)) (sym n) ∙
      get_or-append-add us (ps ++ (more ++ rest)) k (pos 0)

  -- s stands behind line 1 and the lines ls
  line_point : (ls : List (List ℕ)) (s : List ℕ) (h : List ℕ) → header_text a.mark ≡ h → AtPoint a.mark fresh a.v (header_text a.mark) ls s
      → PointOfLine text buffer (h ∷ ls) s
  line_point ls s h e p =
      let i = p_lines_of ls in
      let n : count p.u.points ≡ i = omega (arith, p.counted) in
      let c : p_lines_of (header_text a.mark ∷ ls) ≡ i = rw (no_p_header a.mark) (omega arith) in
      let w : length p.u.points ≡ numbers * i = omega (arith, n, p.sound.whole) in
      let third = third_of p.u.before in
      let at = part p.u.points (point_numbers p.lat p.lon third) p.more i p.all w in
      rw (← e)
      (record {
        mark = a.mark;
        header = rw a.pieces;
        latitude = rw c (p.latitude ∙ ap (λ (z : ℤ). Ok z) (sym (at 0)));
        longitude = rw c (p.longitude ∙ ap (λ (z : ℤ). Ok z) (sym (at 1)));
        third = rw c (at 2 ∙ third_number p.u (last (header_text a.mark ∷ ls)) i p.sound p.told n);
      })

  -- each `p` line is a point of the buffer, and each point is so a `p` line
  pub points_of_lines : (ls : List (List ℕ)) (s : List ℕ) (more : List (List ℕ)) → split LF text ≡ ls ++ (s ∷ more) → is_p_line s ≡ true
      → PointOfLine text buffer ls s
  points_of_lines [] s more e i =
      clash i (ap is_p_line (sym (ap (piece 0) (sym a.pieces ∙ e))) ∙ no_p_header a.mark)
  points_of_lines (h ∷ ls) s more e i =
      let q = sym a.pieces ∙ e in
      line_point ls s h (ap (piece 0) q) (at_point s more i a.reads fresh_sound (header_told a.mark) ls (ap past q))

  target_said : {t : Option ℕ} → a.v.target ≡ t → TargetIs a.mark (piece 1 (split LF text)) t → TargetOf text (paper text buffer)
  target_said e (Lines.some i q) =
      let r = accepted_answer text buffer a.walk ∙ ap (λ (t : Option ℕ). Ok (route (count a.v.points) (length_up_to a.v.points (count a.v.points)) t)) e in
      some a.mark q.metres (rw a.pieces) i q.number (ap (λ (x : Result Route Refused). (reading_paper x).has_target) r)
      (ap (λ (x : Result Route Refused). (reading_paper x).target) r ∙ q.millimetres)
  target_said e (Lines.none i) =
      let r = accepted_answer text buffer a.walk ∙ ap (λ (t : Option ℕ). Ok (route (count a.v.points) (length_up_to a.v.points (count a.v.points)) t)) e in
      none i (ap (λ (x : Result Route Refused). (reading_paper x).has_target) r) (ap (λ (x : Result Route Refused). (reading_paper x).target) r)

  -- the target that is answered is what line 2 says, and none where it says none
  pub target_of_line_2 : TargetOf text (paper text buffer)
  target_of_line_2 = target_said refl (rw a.pieces (target_is a.reads))

-- ---- the room

-- "buffer shorter than 3n" of a text that is accepted with another
pub record TooShort (text : List ℕ) (buffer : List ℤ) : Type 0 where
  pub other : List ℤ
  pub accepted : (paper text other).refusal ≡ 0
  pub less : length buffer < numbers * (paper text other).points

pub record RoomExactly (text : List ℕ) (buffer : List ℤ) : Type 0 where
  pub only : (paper text buffer).refusal ≡ 10 → TooShort text buffer
  pub whenever : TooShort text buffer → (paper text buffer).refusal ≡ 10
  -- and a buffer that has the room changes nothing
  pub enough : (other : List ℤ) → (paper text other).refusal ≡ 0 → numbers * (paper text other).points ≤ length buffer → paper text buffer ≡ paper text other

abbrev seen_by : Walk → Seen
seen_by (refused n k) = fresh
seen_by (accepted v) = v

-- all lines of a text are read
record Whole (text : List ℕ) (room : ℕ) : Type 0 where
  v : Seen
  long : room < length v.points
  fitting : (other : ℕ) → length v.points ≤ other → walk_of text other ≡ accepted v

whole_walk : {text : List ℕ} {room k : ℕ} {n : Refusal} {mark : Mark} {ss : List (List ℕ)} → length text ≤ most_bytes → split LF text ≡ header_text mark ∷ ss
    → WalkSays mark room 2 fresh ss (refused n k) → number n ≡ 10 → Whole text room
whole_walk h e (Laws.nothing q) t = absurd (omega arith)
whole_walk h e (Laws.bad_line s u more q a r l o) t = absurd ((line_number _ o).1 t)
whole_walk h e (Laws.no_lf x s q a r) t = absurd (omega arith)
whole_walk h e (Laws.last_gap q a r g) t = absurd (omega arith)
whole_walk {text = text} {mark = mark} h e (Laws.no_room {v = v} q r g l) t =
    record {
      v = v;
      long = l;
      fitting = λ other f.
          text_walk text other h (e ∙ ap (λ (x : List (List ℕ)). header_text mark ∷ x) q) r g ∙ rw (le-leb (length v.points) other f);
    }

whole_text : {text : List ℕ} {room k : ℕ} {n : Refusal} → TextSays text room (refused n k) → number n ≡ 10 → Whole text room
whole_text (Laws.too_long h) t = absurd (omega arith)
whole_text (Laws.no_header h f) t = absurd (omega arith)
whole_text (Laws.walks mark ss h e f w) t = whole_walk h e w t

module _ (text : List ℕ) (buffer : List ℤ) where
  whole_short : Whole text (length buffer) → TooShort text buffer
  whole_short w =
      let b = w.v.points in
      let e = w.fitting (length b) (omega arith) in
      let z = ap (λ (r : Result Route Refused). (reading_paper r).refusal) (accepted_answer text b e) in
      let same = ap (λ (x : Walk). length (seen_by x).points) (sym (accepted_of text b z).walk ∙ e) in
      record { other = b; accepted = z; less = omega (arith, w.long, n_numbers text b z, same) }

  too_short : (paper text buffer).refusal ≡ 10 → TooShort text buffer
  too_short t =
      let r = refusal_of_lem text buffer (omega arith) in
      whole_short (whole_text (rw r.walk at (text_says text (length buffer))) (sym r.says ∙ t))

  module _ (other : List ℤ) (z : (paper text other).refusal ≡ 0) where
    again : walk_of text (length buffer) ≡ unless (leb (numbers * (paper text other).points) (length buffer)) (refused R.Room 0) (accepted (accepted_of text other z).v)
    again =
        let a = accepted_of text other z in
        text_walk text (length buffer) a.short a.pieces a.reads a.no_gap ∙
        ap (λ (n : ℕ). unless (leb n (length buffer)) (refused R.Room 0) (accepted a.v)) (n_numbers text other z)

    no_room : length buffer < numbers * (paper text other).points → walk_of text (length buffer) ≡ refused R.Room 0
    no_room h = again ∙ rw (lt-leb (numbers * (paper text other).points) (length buffer) h)

    same_walk : numbers * (paper text other).points ≤ length buffer → walk_of text (length buffer) ≡ accepted (accepted_of text other z).v
    same_walk h = again ∙ rw (le-leb (numbers * (paper text other).points) (length buffer) h)

  -- 10 is answered exactly where the text is accepted and its points do not fit
  pub room_exactly : RoomExactly text buffer
  unfolding reading_of
  room_exactly =
      record {
        only = too_short;
        whenever = λ s. rw (no_room s.other s.accepted s.less);
        enough = λ other z h. rw (same_walk other z h, (accepted_of text other z).walk);
      }
