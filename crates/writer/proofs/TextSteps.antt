-- The text of a route as code counts and writes it: point by point, and as long under either mark.
-- Assumes nothing.
use Rattle.std.specs.Prelude.{◌≡◌, refl, true, false, List, [], ◌∷◌, ◌++◌, ℕ, zero, suc, ◌+◌, ◌/◌, ◌≤◌, ◌<◌, leb, ℤ, pos, length, Option, Some, None}
use Rattle.std.proofs.Common.{sym, ap, ◌∙◌, arith, leb-true, leb-false, length-append, to_z-of_z, to_z, of_z, w32}
use Prim.Native.Char.{code}
use Rattle.refusals.specs.Choice.{fine}
use Rattle.refusals.specs.Tests.{by_test}
use Rattle.points.specs.Points.{latitude_at, longitude_at, count, buffer_refusal}
use Rattle.points.proofs.PointLaws.{point_of_lem}
use Rattle.numbers.specs.declared.Mark.{Mark}
use Rattle.numbers.specs.declared.Mark.TheVariants as M
use Rattle.numbers.specs.declared.Kind.TheVariants as K
use Rattle.numbers.specs.Pieces.{LF}
use Rattle.numerals.specs.Numeral.{numeral_of}
use Rattle.numerals.proofs.OneWayLaws.{numeral_most, numeral_either}
use Rattle.route.specs.Line.{metre}
use Rattle.writer.specs.RouteText.{field_of, target_lines, gap_before, point_line, point_lines, ended, route_text, target_refusal}
use Rattle.writer.proofs.RouteTextLaws.{points_next, target_length, target_accepted, target_most, point_length, text_length}
use Rattle.writer.specs.TextSteps.{has_gap, point_text, metres_of}

module _ (mark : Mark) (b : List ℤ) (i : ℕ) where
  abbrev line : List ℕ
  line = point_line mark (latitude_at b i) (longitude_at b i) ++ (LF ∷ [])

  pub with_gap : has_gap b i ≡ true → point_text mark b i ≡ code "g" ∷ (LF ∷ line)
  with_gap t = rw t

  pub without_gap : has_gap b i ≡ false → point_text mark b i ≡ line
  without_gap t = rw t

  -- from the lengths of its numbers
  module _ {y x : ℕ} (e : y ≡ length (numeral_of K.Latitude mark (latitude_at b i))) (f : x ≡ length (numeral_of K.Longitude mark (longitude_at b i))) where
    pub size_with : has_gap b i ≡ true → 2 + (4 + y + x) ≡ length (point_text mark b i)
    size_with t = omega (arith, e, f, ap length (with_gap t), point_length mark (latitude_at b i) (longitude_at b i))

    pub size_without : has_gap b i ≡ false → 4 + y + x ≡ length (point_text mark b i)
    size_without t = omega (arith, e, f, ap length (without_gap t), point_length mark (latitude_at b i) (longitude_at b i))

  module _ (a : buffer_refusal b ≡ fine) (h : i < count b) where
    pub latitude_most : length (numeral_of K.Latitude mark (latitude_at b i)) ≤ 11
    latitude_most = numeral_most K.Latitude mark (latitude_at b i) (point_of_lem b a i h).latitude

    pub longitude_most : length (numeral_of K.Longitude mark (longitude_at b i)) ≤ 12
    longitude_most = numeral_most K.Longitude mark (longitude_at b i) (point_of_lem b a i h).longitude

-- a target's line, from its number
module _ (mark : Mark) where
  pub target_text : (target : Option ℕ) {m : ℤ} → metres_of target ≡ Some m → ended (target_lines mark target) ≡ code "t" ∷ (field_of K.Target mark m ++ (LF ∷ []))
  target_text None e = absurd (grind arith)
  target_text (Some mm) {m} e = let f : pos (mm / metre) ≡ m = cc in rw f

  pub target_size : (target : Option ℕ) {m : ℤ} → metres_of target ≡ Some m → length (ended (target_lines mark target)) ≡ 3 + length (numeral_of K.Target mark m)
  target_size target {m} e = omega (arith, ap length (target_text target e), length-append (field_of K.Target mark m) (LF ∷ []))

  pub target_short : (target : Option ℕ) {m : ℤ} → metres_of target ≡ Some m → target_refusal target ≡ fine → length (numeral_of K.Target mark m) ≤ 7
  target_short target e h = omega (arith, target_size target e, target_most mark target h)

-- the machine reads the number back
pub target_read : (target : Option ℕ) {m : ℤ} → metres_of target ≡ Some m → target_refusal target ≡ fine → to_z w32 (of_z w32 m) ≡ m
target_read None e h = absurd (grind arith)
target_read (Some mm) {m} e h =
    let f : pos (mm / metre) ≡ m = cc in
    rw (← f) (to_z-of_z {w = w32} {z = pos (mm / metre)} (record { sfits = omega (arith, (target_accepted mm h).most) }))

-- one point more
pub points_more : (mark : Mark) (b : List ℤ) (i : ℕ) → ended (point_lines mark b i) ++ point_text mark b i ≡ ended (point_lines mark b (i + 1))
points_more mark b i = let e : i + 1 ≡ suc i = omega arith in rw e (sym (points_next mark b i))

pub points_size : (mark : Mark) (b : List ℤ) (i : ℕ) → length (ended (point_lines mark b i)) + length (point_text mark b i) ≡ length (ended (point_lines mark b (i + 1)))
points_size mark b i = sym (length-append (ended (point_lines mark b i)) (point_text mark b i)) ∙ ap length (points_more mark b i)

-- the first points are no longer than all of them
pub points_grow : (mark : Mark) (b : List ℤ) (i n : ℕ) → i ≤ n → length (ended (point_lines mark b i)) ≤ length (ended (point_lines mark b n))
points_grow mark b i zero h = let e : i ≡ 0 = omega arith in rw e (omega arith)
points_grow mark b i (suc n) h =
    let next : length (ended (point_lines mark b n)) ≤ length (ended (point_lines mark b (suc n))) =
    omega (arith, ap length (points_next mark b n), length-append (ended (point_lines mark b n)) (point_text mark b n)) in
    by_test (leb i n)
    (λ t. omega (arith, next, points_grow mark b i n (leb-true i n t)))
    (λ t. let e : i ≡ suc n = omega (arith, leb-false i n t) in rw e (omega arith))

-- ---- as long under either mark

point_either : (mark : Mark) (b : List ℤ) (i : ℕ) → length (point_text M.Point b i) ≡ length (point_text mark b i)
point_either mark b i =
    let lat = latitude_at b i in
    let lon = longitude_at b i in
    omega (
      arith,
      length-append (ended (gap_before b i)) (line M.Point b i),
      length-append (ended (gap_before b i)) (line mark b i),
      point_length M.Point lat lon,
      point_length mark lat lon,
      numeral_either K.Latitude M.Point mark lat,
      numeral_either K.Longitude M.Point mark lon,
    )

points_either : (mark : Mark) (b : List ℤ) (n : ℕ) → length (ended (point_lines M.Point b n)) ≡ length (ended (point_lines mark b n))
points_either mark b zero = refl
points_either mark b (suc i) =
    let e : i + 1 ≡ suc i = omega arith in
    let both : length (ended (point_lines M.Point b (i + 1))) ≡ length (ended (point_lines mark b (i + 1))) =
    omega (arith, points_either mark b i, point_either mark b i, points_size M.Point b i, points_size mark b i) in
    rw e at both

target_either : (mark : Mark) (target : Option ℕ) → length (ended (target_lines M.Point target)) ≡ length (ended (target_lines mark target))
target_either mark None = refl
target_either mark (Some mm) =
    omega (arith, target_length M.Point mm, target_length mark mm, numeral_either K.Target M.Point mark (pos (mm / metre)))

pub text_either : (mark : Mark) (target : Option ℕ) (b : List ℤ) → length (route_text M.Point target b) ≡ length (route_text mark target b)
text_either mark target b =
    omega (arith, text_length M.Point target b, text_length mark target b, target_either mark target, points_either mark b (count b))
