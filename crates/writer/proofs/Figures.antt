-- The document's rules of a written route as figures: short buffers and their texts, refusals and outputs. The numbers are the document's own, without names.
-- Assumes nothing.
use Rattle.std.specs.Prelude.{◌≡◌, refl, List, [], ◌∷◌, ℕ, ℤ, pos, neg_ℤ, Option, Some, None, Err}
use Prim.Native.String.{String}
use Rattle.refusals.specs.declared.Refusal.TheVariants as R
use Rattle.refusals.specs.Choice.{Check, fine, sent}
use Rattle.ticks.specs.Ticks.{point_refusal}
use Rattle.points.specs.Points.{thirds_fit, points_refusal, buffer_refusal}
use Rattle.numbers.specs.declared.Mark.{Mark}
use Rattle.numbers.specs.declared.Mark.TheVariants as M
use Rattle.numerals.specs.Numeral.{numeral_of}
use Rattle.numerals.specs.Output.{writing_of, output_of}
use Rattle.numbers.specs.Text.{bytes}
use Rattle.writer.specs.RouteText.{route_text, target_refusal, text_refusal}
use Rattle.writer.specs.Paper.{answer, left}

abbrev pub Writes : Mark → Option ℕ → List ℤ → String → Type 0
Writes mark target points text = route_text mark target points ≡ bytes text

-- "Each number is written one way: no leading zeros but a lone 0, no decimals that end in zero, no bare mark, no minus on zero."
pub record Texts : Type 0 where
  pub no_points : Writes M.Point (Some 0) [] "route\tpoint\nt\t0\n"
  -- "A `g` line precedes every point after the first whose third number is 1."
  pub gap : Writes M.Comma (Some 2_500_000) (pos 105_000_000 ∷ neg_ℤ (pos 1) ∷ pos 1 ∷ neg_ℤ (pos 900_000_000) ∷ neg_ℤ (pos 1_800_000_000) ∷ pos 1 ∷ [])
      "route\tcomma\nt\t2,5\np\t10,5\t-0,0000001\ng\np\t-90\t-180\n"
  pub leg : Writes M.Point None (neg_ℤ (pos 1) ∷ pos 0 ∷ pos 1 ∷ pos 1_000_000 ∷ pos 1_799_999_999 ∷ pos 0 ∷ []) "route\tpoint\np\t-0.0000001\t0\np\t0.1\t179.9999999\n"

pub texts : Texts
unfolding route_text numeral_of
texts = record { no_points = refl; gap = refl; leg = refl }

-- what refuses a text, and the number that is sent back
abbrev pub Sends : Option ℕ → List ℤ → Check → ℕ → Type 0
Sends target points c n = (text_refusal target points ≡ c) × (sent (text_refusal target points) ≡ n)

-- "order 17, 9, 6 and 7 by point, 16, 15"
pub record Refusals : Type 0 where
  pub part_metre : Sends (Some 2_500_001) [] (Err R.Target) 16
  pub greatest : Sends (Some 999_999_000) [] fine 0
  pub above : Sends (Some 1_000_000_000) [] (Err R.Target) 16
  pub buffer_first : Sends (Some 1) (pos 0 ∷ pos 0 ∷ []) (Err R.Buffer) 17
  pub point_first : Sends (Some 1) (pos 900_000_001 ∷ pos 0 ∷ pos 1 ∷ []) (Err R.Latitude) 6

pub refusals : Refusals
unfolding text_refusal target_refusal buffer_refusal thirds_fit points_refusal point_refusal
refusals = record { part_metre = (refl, refl); greatest = (refl, refl); above = (refl, refl); buffer_first = (refl, refl); point_first = (refl, refl) }

-- a route of no points, which takes 12 bytes, into an output of 16 from a place onward
abbrev pub Answers : ℕ → ℕ → ℕ → Type 0
Answers place n bytes-written = answer M.Point None [] place (bytes "abcdefghijklmnop") ≡ record { refusal = n; bytes = bytes-written }

abbrev pub Leaves : ℕ → String → Type 0
Leaves place text = left M.Point None [] place (bytes "abcdefghijklmnop") ≡ bytes text

-- "nothing before or after them changing"; "a place past its end leaves none"
pub record Outputs : Type 0 where
  pub within : Leaves 2 "abroute\tpoint\nop"
  pub at_the_end : Leaves 4 "abcdroute\tpoint\n"
  pub short : Leaves 5 "abcdefghijklmnop"
  pub within_bytes : Answers 2 0 12
  pub at_the_end_bytes : Answers 4 0 12
  pub short_by_one : Answers 5 15 0
  pub past : Answers 17 15 0

pub outputs : Outputs
unfolding text_refusal target_refusal buffer_refusal thirds_fit points_refusal route_text writing_of output_of
outputs = record { within = refl; at_the_end = refl; short = refl; within_bytes = refl; at_the_end_bytes = refl; short_by_one = refl; past = refl }
