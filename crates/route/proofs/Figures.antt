-- The document's rules of the route text as figures: short texts and what the paper says of them. The numbers are the document's own, without names.
-- Assumes nothing.
use Rattle.std.specs.Prelude.{◌≡◌, refl, [], ◌∷◌, ℕ, pos, neg_ℤ, Ok, Err}
use Prim.Native.String.{String}
use Rattle.refusals.specs.declared.Refusal.TheVariants as R
use Rattle.refusals.specs.Refusal.{number}
use Rattle.points.specs.Points.{count}
use Rattle.globe.specs.Measure.{length_up_to, leg_into}
use Rattle.numbers.specs.declared.Mark.TheVariants as M
use Rattle.numbers.specs.Number.{number_of}
use Rattle.route.specs.declared.lines.Line.TheVariants as L
use Rattle.numbers.specs.Text.{bytes}
use Rattle.route.specs.Line.{Seen, line_of, gap_of, target_of, point_of}
use Rattle.route.specs.Route.{walk_of, reading_of, buffer_of}
use Rattle.route.specs.Paper.{reading_paper}

-- a text with room for so many numbers is refused with n at line k
abbrev pub Refuses : ℕ → String → ℕ → ℕ → Type 0
Refuses room text n k = reading_paper (reading_of (bytes text) room) ≡ record { refusal = n; line = k; points = 0; has_target = 0; length = 0; target = 0 }

-- a text with no legs is accepted: so many points, and a target or none
abbrev pub Accepts : String → ℕ → ℕ → ℕ → Type 0
Accepts text n has target = reading_paper (reading_of (bytes text) 6) ≡ record { refusal = 0; line = 0; points = n; has_target = has; length = 0; target = target }

-- "line 1 missing, without LF or other than the two headers"
pub record Headers : Type 0 where
  pub point : Accepts "route\tpoint\n" 0 0 0
  pub comma : Accepts "route\tcomma\n" 0 0 0
  pub missing : Refuses 6 "" 2 1
  pub no_lf : Refuses 6 "route\tpoint" 2 1
  pub empty : Refuses 6 "\nroute\tpoint\n" 2 1
  pub space : Refuses 6 "route point\n" 2 1
  pub longer : Refuses 6 "route\tpoint\t\n" 2 1
  pub return : Refuses 6 "route\tcomma\r\n" 2 1

pub headers : Headers
unfolding reading_of walk_of length_up_to
headers = record { point = refl; comma = refl; missing = refl; no_lf = refl; empty = refl; space = refl; longer = refl; return = refl }

-- "another line has an unknown kind, the wrong number of fields, or no LF"
pub record Kinds : Type 0 where
  pub unknown : Refuses 6 "route\tpoint\nx\n" 3 2
  pub empty : Refuses 6 "route\tpoint\n\n" 3 2
  pub longer : Refuses 6 "route\tpoint\npp\t0\t0\n" 3 2
  pub two_fields : Refuses 6 "route\tpoint\np\t0\n" 3 2
  pub four_fields : Refuses 6 "route\tpoint\np\t0\t0\t\n" 3 2
  pub no_target : Refuses 6 "route\tpoint\nt\n" 3 2
  pub two_targets : Refuses 6 "route\tpoint\nt\t1\t1\n" 3 2
  pub gap_with_field : Refuses 6 "route\tpoint\np\t0\t0\ng\t\np\t0\t0\n" 3 3
  pub no_lf : Refuses 6 "route\tpoint\np\t0\t0\np\t0\t0" 3 3

pub kinds : Kinds
unfolding reading_of walk_of line_of gap_of target_of point_of number_of
kinds =
    record {
      unknown = refl;
      empty = refl;
      longer = refl;
      two_fields = refl;
      four_fields = refl;
      no_target = refl;
      two_targets = refl;
      gap_with_field = refl;
      no_lf = refl;
    }

-- "`t` or `g` in a wrong place; a last `g` names its own line"
pub record Places : Type 0 where
  pub t_twice : Refuses 6 "route\tpoint\nt\t1\nt\t1\n" 8 3
  pub t_after_p : Refuses 6 "route\tpoint\np\t0\t0\nt\t1\n" 8 3
  pub g_first : Refuses 6 "route\tpoint\ng\np\t0\t0\n" 8 2
  pub g_after_t : Refuses 6 "route\tpoint\nt\t1\ng\np\t0\t0\n" 8 3
  pub g_after_g : Refuses 6 "route\tpoint\np\t0\t0\ng\ng\np\t0\t0\n" 8 4
  -- "what follows it is judged as its own line"
  pub t_after_g : Refuses 6 "route\tpoint\np\t0\t0\ng\nt\t1\n" 8 4
  pub g_last : Refuses 6 "route\tpoint\np\t0\t0\ng\n" 8 3

pub places : Places
unfolding reading_of walk_of line_of gap_of target_of point_of number_of
places = record { t_twice = refl; t_after_p = refl; g_first = refl; g_after_t = refl; g_after_g = refl; t_after_g = refl; g_last = refl }

-- "the first bad line from the top; in a line 3, 8, 9, then the fields from the left, each 5, 4, then 6 or 7; after all lines a last `g`; then 10"
pub record Orders : Type 0 where
  pub first_line : Refuses 6 "route\tpoint\np\t91\t0\nx\n" 6 2
  pub three_eight : Refuses 6 "route\tpoint\ng" 3 2
  pub eight_fields : Refuses 6 "route\tpoint\np\t0\t0\nt\tx\n" 8 3
  pub six_five : Refuses 6 "route\tpoint\np\t91\t1,5\n" 6 2
  pub four_seven : Refuses 6 "route\tpoint\np\tx\t180\n" 4 2
  pub five_four : Refuses 6 "route\tpoint\np\tx,5\t0\n" 5 2
  pub seven : Refuses 6 "route\tpoint\np\t90\t180\n" 7 2
  pub target_five : Refuses 6 "route\tpoint\nt\t2,500\n" 5 2
  pub target_four : Refuses 6 "route\tpoint\nt\t-1\n" 4 2
  pub line_ten : Refuses 2 "route\tpoint\np\t0\t0\nx\n" 3 3
  pub gap_ten : Refuses 2 "route\tpoint\np\t0\t0\ng\n" 8 3
  pub ten : Refuses 2 "route\tpoint\np\t0\t0\n" 10 0

pub orders : Orders
unfolding reading_of walk_of line_of gap_of target_of point_of number_of
orders =
    record {
      first_line = refl;
      three_eight = refl;
      eight_fields = refl;
      six_five = refl;
      four_seven = refl;
      five_four = refl;
      seven = refl;
      target_five = refl;
      target_four = refl;
      line_ten = refl;
      gap_ten = refl;
      ten = refl;
    }

-- "at most 1,000 such lines", and 9 before the fields
pub record Thousand (w : Seen) : Type 0 where
  pub the_1000th : count w.points ≡ 999 → line_of M.Point w (bytes "p\t0\t0") ≡ Ok (L.Point (pos 0) (pos 0))
  pub the_1001st : count w.points ≡ 1_000 → (line_of M.Point w (bytes "p\tx\t0") ≡ Err R.Points) × (number R.Points ≡ 9)

pub thousand : (w : Seen) → Thousand w
unfolding line_of point_of number_of
thousand w = record { the_1000th = λ e. rw e; the_1001st = λ e. (rw e, refl) }

-- "Decimals are exact: a seventh decimal is a tick, a target's third is a metre"
pub record Decimals : Type 0 where
  pub metre : Accepts "route\tpoint\nt\t0.001\n" 0 1 1_000
  pub kilometres : Accepts "route\tcomma\nt\t2,500\n" 0 1 2_500_000
  pub nothing : Accepts "route\tcomma\nt\t0\np\t0\t0\n" 1 1 0
  pub apart : Accepts "route\tpoint\np\t0\t0\ng\np\t1\t1\n" 2 0 0
  pub tick : buffer_of (bytes "route\tpoint\np\t-0.0000001\t-180\n") (pos 7 ∷ pos 7 ∷ pos 7 ∷ pos 7 ∷ []) ≡ neg_ℤ (pos 1) ∷ neg_ℤ (pos 1_800_000_000) ∷ pos 1 ∷ pos 7 ∷ []

pub decimals : Decimals
unfolding reading_of buffer_of walk_of line_of gap_of target_of point_of number_of length_up_to leg_into
decimals = record { metre = refl; kilometres = refl; nothing = refl; apart = refl; tick = refl }
