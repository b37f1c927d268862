-- Whether a point buffer meets a target, and how many of its points are looked at.
-- Assumes nothing.
use Rattle.std.specs.Prelude.{Bool, List, ℕ, leb, ℤ, if◌then◌else◌, Result, Err}
use Rattle.refusals.specs.declared.Refusal.{Refusal}
use Rattle.refusals.specs.declared.Refusal.TheVariants as R
use Rattle.refusals.specs.Choice.{unless, fine, first_of, answered}
use Rattle.sines.specs.Least.{least}
use Rattle.points.specs.Points.{count, buffer_refusal}
use Rattle.globe.specs.declared.Met.{Met}
use Rattle.globe.specs.declared.Met.TheVariants.{Yes, No}
use Rattle.globe.specs.Measure.{length_up_to}

-- the greatest target, in millimetres
abbrev pub most_target : ℕ
most_target = 999_999_000

-- the length of the beginning of k points reaches the target: it "is at least the target"
abbrev pub reaches : List ℤ → ℕ → ℕ → Bool
reaches b target k = leb target (length_up_to b k)

-- "the shortest beginning (none, for target 0) whose length reaches it, or n if none does"
abbrev pub looked_at : List ℤ → ℕ → ℕ
looked_at b target = least (reaches b target) (count b)

-- "Yes holds exactly when the full length is at least the target"
unfoldable pub walked : List ℤ → ℕ → Met
walked b target = if reaches b target (count b) then Yes (looked_at b target) else No (looked_at b target)

-- "Refusals: R-1's for the buffer, all found before any leg is measured, then 16 only for a target above 999,999,000."
unfoldable pub met_of : List ℤ → ℕ → Result Met Refusal
met_of b target = answered (first_of (buffer_refusal b) (unless (leb target most_target) (Err R.Target) fine)) (walked b target)
