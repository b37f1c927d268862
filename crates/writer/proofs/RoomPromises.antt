-- What is promised of the room that a route's text needs, in the paper's own numbers: its length as the writing has it, the most that so many points need, and points that need as much.
-- Assumes nothing.
use Rattle.std.specs.Prelude.{◌≡◌, refl, true, List, [], ◌++◌, ℕ, zero, suc, ◌+◌, ◌-◌, ◌*◌, ◌≤◌, ◌<◌, leb, ℤ, pos, neg_ℤ, Option, Some, Ok, Err}
use Rattle.std.proofs.Common.{sym, ap, arith, le-leb, leb-true, leb-false}
use Rattle.std.proofs.Math.ListN.{length}
use Rattle.refusals.specs.declared.Refusal.{Refusal}
use Rattle.refusals.specs.Refusal.{number}
use Rattle.refusals.specs.Choice.{Check, fine, sent, answered}
use Rattle.refusals.specs.Tests.{by_test, true_and, some_number}
use Rattle.ticks.specs.Ticks.{is_latitude, is_longitude, point_refusal}
use Rattle.points.specs.Points.{point_numbers, latitude_at, longitude_at, third_at, count}
use Rattle.points.proofs.PointLaws.{accepted, Points, none, next, behind, points_accepted}
use Rattle.points.proofs.Promises as Q
use Rattle.numbers.specs.declared.Mark.{Mark}
use Rattle.numbers.specs.declared.Mark.TheVariants as M
use Rattle.numbers.specs.declared.Kind.TheVariants as K
use Rattle.numerals.specs.Numeral.{numeral_of}
use Rattle.numerals.specs.declared.WritingOut.{WritingOut}
use Rattle.numerals.specs.Output.{writing_of}
use Rattle.numerals.proofs.OutputLaws.{text_refused, room_refused, text_written}
use Rattle.numerals.specs.Paper.{writing_paper}
use Rattle.writer.specs.RouteText.{point_lines, ended, route_text, target_refusal, text_refusal}
use Rattle.writer.proofs.RouteTextLaws.{target_length, text_length, text_most, text_accepted}
use Rattle.writer.specs.TextSteps.{has_gap, point_text}
use Rattle.writer.proofs.TextSteps.{size_with, size_without, points_size}
use Rattle.writer.specs.Room.{size_of, most_text}
use Rattle.writer.proofs.RoomLaws.{size_refused, size_told}
use Rattle.writer.specs.Paper.{sized, answer}
use Rattle.writer.proofs.Promises.{TextJudged, text_judged}
use Rattle.writer.proofs.Promises as P

-- ---- the length without writing

module _ (mark : Mark) (target : Option ℕ) (points : List ℤ) where
  -- n is what refuses the text itself: "with R-1's refusals but 15"
  pub record SizeJudged : Type 0 where
    pub n : Check
    pub text : TextJudged target points n
    -- "A refusal gives zero in every value beside its number"
    pub refused : {r : Refusal} → n ≡ Err r → sized mark target points ≡ record { refusal = number r; bytes = 0 }
    pub told : n ≡ fine → sized mark target points ≡ record { refusal = 0; bytes = length (route_text mark target points) }

  pub size_judged : SizeJudged
  size_judged = record {
    n = text_refusal target points;
    text = text_judged target points;
    refused = λ h. ap writing_paper (size_refused mark target points h);
    told = λ z. ap writing_paper (size_told mark target points z);
  }

-- ---- "Given none of these, 15 comes exactly when the output from the place on is shorter."

point_most : (lat lon : ℤ) → sent (point_refusal lat lon) ≤ 7
unfolding point_refusal
point_most lat lon =
    by_test (is_latitude lat)
    (λ t. by_test (is_longitude lon) (λ u. rw (t, u) (omega arith)) (λ u. rw (t, u) (omega arith)))
    (λ t. rw t (omega arith))

not_15 : (target : Option ℕ) (points : List ℤ) {n : Check} → TextJudged target points n → sent n ≡ 15 → ⊥
not_15 target points (P.bad_points (Q.unformed f z)) e = omega arith
not_15 target points (P.bad_points (Q.many f m z)) e = omega arith
not_15 target points (P.bad_points (Q.refused f m r)) e = omega (arith, rw r.here at (point_most (latitude_at points r.i) (longitude_at points r.i)))
not_15 target points (P.bad_target j a z) e = omega arith
not_15 target points (P.accepted j a) e = omega arith

-- of a size, and of what is answered where there is so much room
pub record Lent (room : ℕ) (size answer : WritingOut) : Type 0 where
  pub only : answer.refusal ≡ 15 → (size.refusal ≡ 0) × (room < size.bytes)
  pub whenever : size.refusal ≡ 0 → room < size.bytes → answer ≡ record { refusal = 15; bytes = 0 }
  -- any other refusal is the size's own, and without one so many bytes are written
  pub otherwise : (answer.refusal ≡ 15 → ⊥) → answer ≡ size

module _ (text : List ℕ) (place : ℕ) (out : List ℕ) where
  abbrev room : ℕ
  room = length out - place

  lent_by : (n : Check) → (sent n ≡ 15 → ⊥) → Lent room (writing_paper (answered n (length text))) (writing_paper (writing_of n text place out))
  lent_by (Ok tt) h =
      by_test (leb (length text) room)
      (λ t.
      let l = leb-true (length text) room t in
      rw (text_written fine text place out refl l) (record { only = λ e. absurd (omega arith); whenever = λ z s. absurd (omega (arith, l)); otherwise = λ e. refl }))
      (λ t.
      let l = leb-false (length text) room t in
      rw (room_refused fine text place out refl l) (record { only = λ e. (refl, l); whenever = λ z s. refl; otherwise = λ e. absurd (e refl) }))
  lent_by (Err r) h =
      rw (text_refused r text place out) (record { only = λ e. absurd (h e); whenever = λ z s. absurd (omega (arith, some_number r)); otherwise = λ e. refl })

pub lent : (mark : Mark) (target : Option ℕ) (points : List ℤ) (place : ℕ) (out : List ℕ)
    → Lent (length out - place) (sized mark target points) (answer mark target points place out)
unfolding size_of
lent mark target points place out = lent_by (route_text mark target points) place out (text_refusal target points) (not_15 target points (text_judged target points))

-- ---- the most that n points need

pub record MostIs : Type 0 where
  pub none : most_text 0 ≡ 22
  pub some : (n : ℕ) → 0 < n → most_text n ≡ 20 + 29 * n
  pub thousand : most_text 1_000 ≡ 29_020

pub most_is : MostIs
most_is = record { none = refl; some = λ n h. omega arith; thousand = refl }

module _ (mark : Mark) (target : Option ℕ) (points : List ℤ) where
  pub record NeverMore : Type 0 where
    -- "n points need at most 22 + 29n bytes"
    pub figure : (sized mark target points).bytes ≤ 22 + 29 * count points
    pub by_points : (sized mark target points).bytes ≤ most_text (count points)
    pub by_all : (sized mark target points).bytes ≤ most_text 1_000

  pub never_more : NeverMore
  never_more = go (text_refusal target points) refl
    where
      go : (n : Check) → text_refusal target points ≡ n → NeverMore
      go (Ok tt) z =
          let most = text_most mark target points z in
          let e = size_told mark target points z in
          let few = (accepted points (text_accepted target points z).0).few in
          record { figure = rw e (omega (arith, most)); by_points = rw e most; by_all = rw e (omega (arith, most, few)) }
      go (Err r) z =
          let e = size_refused mark target points z in
          record { figure = rw e (omega arith); by_points = rw e (omega arith); by_all = rw e (omega arith) }

  -- with so much room from the place on 15 never comes
  pub record Enough (room : ℕ) (answer : WritingOut) : Type 0 where
    pub by_points : most_text (count points) ≤ room → answer ≡ sized mark target points
    pub by_all : most_text 1_000 ≤ room → answer ≡ sized mark target points

  pub room_enough : (place : ℕ) (out : List ℕ) → Enough (length out - place) (answer mark target points place out)
  room_enough place out =
      let l = lent mark target points place out in
      record {
        by_points = λ h. l.otherwise (λ e. omega (arith, h, (l.only e).1, never_more.by_points));
        by_all = λ h. l.otherwise (λ e. omega (arith, h, (l.only e).1, never_more.by_all));
      }

-- ---- points that need as much

-- a latitude and a longitude that no other is longer than
abbrev south : ℤ
south = neg_ℤ (pos 899_999_999)

abbrev west : ℤ
west = neg_ℤ (pos 1_799_999_999)

-- n such points, the pen up before each
abbrev longest : ℕ → List ℤ
longest zero = []
longest (suc n) = point_numbers south west (pos 1) ++ longest n

longest_points : (k n : ℕ) → Points k (longest n)
longest_points k zero = none
longest_points k (suc n) = next refl refl refl (longest_points (k + 1) n)

longest_length : (n : ℕ) → length (longest n) ≡ 3 * n
longest_length zero = refl
longest_length (suc n) = omega (arith, longest_length n)

record Longest (b : List ℤ) (i : ℕ) : Type 0 where
  latitude : latitude_at b i ≡ south
  longitude : longitude_at b i ≡ west
  third : third_at b i ≡ pos 1

longest_at : (n i : ℕ) → i < n → Longest (longest n) i
longest_at zero i h = absurd (omega arith)
longest_at (suc n) zero h = record { latitude = refl; longitude = refl; third = refl }
longest_at (suc n) (suc i) h =
    let p = longest_at n i (omega arith) in
    let at = behind south west (pos 1) (longest n) i in
    record { latitude = rw (at 0) p.latitude; longitude = rw (at 1) p.longitude; third = rw (at 2) p.third }

-- latitude, longitude and target
record LongestNumbers (mark : Mark) : Type 0 where
  latitude : 11 ≡ length (numeral_of K.Latitude mark south)
  longitude : 12 ≡ length (numeral_of K.Longitude mark west)
  target : 7 ≡ length (numeral_of K.Target mark (pos 999_999))

longest_numbers : (mark : Mark) → LongestNumbers mark
unfolding numeral_of
longest_numbers M.Point = record { latitude = refl; longitude = refl; target = refl }
longest_numbers M.Comma = record { latitude = refl; longitude = refl; target = refl }

module _ (mark : Mark) (n : ℕ) where
  longest_point : (i : ℕ) → i < n → length (point_text mark (longest n) i) ≡ 29 - (2 - 2 * i)
  longest_point i h = go i (longest_at n i h)
    where
      m : LongestNumbers mark
      m = longest_numbers mark

      go : (i : ℕ) → Longest (longest n) i → length (point_text mark (longest n) i) ≡ 29 - (2 - 2 * i)
      go zero p = sym (size_without mark (longest n) 0 {y = 11} {x = 12} (rw p.latitude m.latitude) (rw p.longitude m.longitude) refl)
      go (suc i) p =
          let gap : has_gap (longest n) (suc i) ≡ true = true_and (le-leb 1 (suc i) (omega arith)) (rw p.third refl) in
          let e = size_with mark (longest n) (suc i) {y = 11} {x = 12} (rw p.latitude m.latitude) (rw p.longitude m.longitude) gap in
          omega (arith, e)

  longest_lines : (i : ℕ) → i ≤ n → length (ended (point_lines mark (longest n) i)) ≡ 29 * i - 2
  longest_lines zero h = refl
  longest_lines (suc i) h =
      let e : i + 1 ≡ suc i = omega arith in
      omega (arith, rw e at (points_size mark (longest n) i), longest_lines i (omega arith), longest_point i h)

  pub record Needs : Type 0 where
    pub target : Option ℕ
    pub points : List ℤ
    pub many : count points ≡ n
    pub size : sized mark target points ≡ record { refusal = 0; bytes = most_text n }

  -- for every n from 1 to 1,000, and for none, under either mark
  pub as_much : n ≤ 1_000 → Needs
  unfolding text_refusal target_refusal
  as_much h =
      let target = Some 999_999_000 in
      let many : count (longest n) ≡ n = omega (arith, longest_length n) in
      let z : text_refusal target (longest n) ≡ fine = rw (points_accepted (longest_points 0 n) (omega (arith, many))) in
      let long : length (route_text mark target (longest n)) ≡ most_text n =
      omega (arith, rw many at (text_length mark target (longest n)), target_length mark 999_999_000, (longest_numbers mark).target, longest_lines n (omega arith)) in
      record { target = target; points = longest n; many = many; size = rw (size_told mark target (longest n) z, long) }

-- 22 + 29n is the best of its kind: no a + bn that is enough for all has a below 22, nor b below 29 beside 22
pub best : (a b : ℕ) → ((mark : Mark) (target : Option ℕ) (points : List ℤ) → (sized mark target points).bytes ≤ a + b * count points) → (22 ≤ a) × (a ≡ 22 → 29 ≤ b)
best a b h = (omega (arith, need 0 (omega arith)), λ e. omega (arith, need 1_000 (omega arith)))
  where
    need : (n : ℕ) → n ≤ 1_000 → most_text n ≤ a + b * n
    need n l = let m = as_much M.Point n l in rw (m.size, m.many) at (h M.Point m.target m.points)
