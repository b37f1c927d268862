-- Demand 3 proved once for every sheet whose latitudes come back from their heights, and so for both sheets; that two ways back which
-- meet it agree; and the way back as it is worked out.
-- Assumes nothing.
use Rattle.std.specs.Prelude.{◌≡◌, Bool, ℕ, leb, ℤ, pos, ◌+ℤ◌, ◌*ℤ◌, if◌then◌else◌, Result, Ok, Err}
use Rattle.std.proofs.Math.Bool.{true}
use Rattle.std.proofs.Math.Dec.{eqb}
use Rattle.std.specs.Int.Signed.{quot_z}
use Rattle.signed.specs.Tests.{eq_z}
use Rattle.sines.specs.Sine.{quarter, long_sine}
use Rattle.sines.specs.Greatest.{greatest}
use Rattle.globe.specs.declared.Point.{Point}
use Rattle.refusals.specs.declared.Refusal.{Refusal}
use Rattle.refusals.specs.declared.Refusal.TheVariants as R
use Rattle.refusals.specs.Choice.{unless}
use Rattle.ticks.specs.Ticks.{is_latitude, is_longitude, turned}
use Rattle.globe.specs.Sheet.{Sheet, place_of, is_at, point}

-- the latitude comes back from its height
pub record Invertible (s : Sheet) : Type 0 where
  pub back : (lat : ℤ) → is_latitude lat ≡ true → s.latitude (s.height lat) ≡ lat

-- the greatest angle whose long sine is at most y
abbrev pub angle_up_to : ℕ → ℕ
angle_up_to y = greatest (λ a. leb (long_sine a) y) quarter

-- ---- the way back as it is worked out

-- where no offset moves x
abbrev pub at_pole : ℤ → ℤ → ℤ → Result Point Refusal
at_pole lat x meridian = unless (eq_z (pos 0) x) (Err R.Place) (Ok (point lat meridian))

-- elsewhere x is the offset times a width w: the quotient, which must be exact and in the longitude range
abbrev pub is_exact : ℤ → ℕ → Bool
is_exact x w = eq_z (quot_z x (pos w) *ℤ pos w) x

abbrev pub off_pole : ℤ → ℕ → ℤ → ℤ → Result Point Refusal
off_pole lat w x meridian =
    unless (is_exact x w) (Err R.Place)
    (unless (is_longitude (quot_z x (pos w))) (Err R.Place)
    (Ok (point lat (turned (meridian +ℤ quot_z x (pos w))))))

abbrev pub point_at : ℤ → ℕ → ℤ → ℤ → Result Point Refusal
point_at lat w x meridian = if eqb w 0 then at_pole lat x meridian else off_pole lat w x meridian

-- a point, if it goes there
abbrev pub if_there : Sheet → ℤ → ℤ → ℤ → ℤ → ℤ → Result Point Refusal
if_there s x y meridian lat lon = unless (is_at x y (place_of s lat lon meridian)) (Err R.Place) (Ok (point lat lon))
