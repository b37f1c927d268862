-- Demand 3 in the paper's own numbers, said once over a sheet: where a point goes, which point a place comes back as, and at which latitudes
-- the sheet lets all longitudes share one place.
-- Assumes nothing.
use Rattle.std.specs.Prelude.{◌≡◌, ◌↔◌, ◌⊎◌, true, false, ℤ, pos}
use Rattle.globe.specs.declared.PlaceOut.{PlaceOut}
use Rattle.globe.specs.declared.PointOut.{PointOut}
use Rattle.refusals.specs.declared.Refusal.{Refusal}
use Rattle.refusals.specs.declared.Refusal.TheVariants as R
use Rattle.refusals.specs.Refusal.{number}
use Rattle.ticks.specs.Ticks.{is_longitude, accepted, offset_of}

-- the place x, y, with nothing refused
abbrev pub there : ℤ → ℤ → PlaceOut
there x y = record { refusal = 0; x = x; y = y }

-- "A refusal gives zero in every value beside its number"
abbrev pub no_place : Refusal → PlaceOut
no_place r = record { refusal = number r; x = pos 0; y = pos 0 }

abbrev pub no_point : Refusal → PointOut
no_point r = record { refusal = number r; latitude = pos 0; longitude = pos 0 }

pub record Demand3 (place : ℤ → ℤ → ℤ → PlaceOut) (back : ℤ → ℤ → ℤ → PointOut) (merges : ℤ → Type 0) : Type 0 where
  -- "A point is accepted exactly when its latitude and longitude lie in these ranges."
  pub by_range : (lat lon meridian : ℤ) → is_longitude meridian ≡ true → (accepted lat lon ≡ true) ↔ ((place lat lon meridian).refusal ≡ 0)
  -- "Two accepted points share a place only if they are the same point, or the same pole on the sinusoidal sheet."
  pub one_point : (lat lon lat' lon' meridian x y : ℤ) → is_longitude meridian ≡ true
      → place lat lon meridian ≡ there x y → place lat' lon' meridian ≡ there x y
      → (lat ≡ lat') × ((lon ≡ lon') ⊎ merges lat)
  -- "From any two 64-bit numbers the way back gives the accepted point whose place they are, with offset zero at a sinusoidal pole"
  pub right : (x y meridian : ℤ) → is_longitude meridian ≡ true → let p = back x y meridian in p.refusal ≡ 0
      → (accepted p.latitude p.longitude ≡ true)
      × (place p.latitude p.longitude meridian ≡ there x y)
      × (merges p.latitude → offset_of p.longitude meridian ≡ pos 0)
  -- "and refuses exactly when there is none"
  pub none : (x y meridian : ℤ) → is_longitude meridian ≡ true
      → (back x y meridian ≡ no_point R.Place) ↔ ((lat lon : ℤ) → accepted lat lon ≡ true → place lat lon meridian ≡ there x y → ⊥)
  -- with no other refusal where the meridian is in range
  pub answers : (x y meridian : ℤ) → is_longitude meridian ≡ true → ((back x y meridian).refusal ≡ 0) ⊎ (back x y meridian ≡ no_point R.Place)
  -- and 14 before all else where it is not
  pub no_place_lem : (lat lon meridian : ℤ) → is_longitude meridian ≡ false → place lat lon meridian ≡ no_place R.Meridian
  pub no_point_lem : (x y meridian : ℤ) → is_longitude meridian ≡ false → back x y meridian ≡ no_point R.Meridian
