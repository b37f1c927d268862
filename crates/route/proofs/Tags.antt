-- What a line tells that was not refused.
-- Assumes nothing.
use Rattle.std.proofs.Common.{◌≡◌, refl, List, [], ℕ, ℤ, ◌≤◌, length, Ok}
use Rattle.route.specs.declared.lines.Line.{Line}
use Rattle.route.specs.declared.lines.Line.TheVariants as L
use Rattle.route.specs.declared.lines.State.{State}
use Rattle.numbers.specs.Pieces.{TAB, index_of}
use Rattle.route.specs.LineLaws.{numbers_of, LastSays, read}

-- the line is no point
pub no_numbers : (st : State) (l : Line) → ((lat lon : ℤ) → l ≡ L.Point lat lon → ⊥) → numbers_of st l ≡ []
no_numbers st (L.Target mm) h = refl
no_numbers st (L.Point lat lon) h = absurd (h lat lon refl)
no_numbers st L.Gap h = refl

-- its last field has no tab
pub last_free : {t : List ℕ} {l : Line} → LastSays t (Ok l) → length t ≤ index_of TAB t
last_free (read e) = e
