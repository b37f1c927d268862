-- Each answer in the paper's own numbers: its refusal, 0 where there is none, and its values, 0 beside a refusal.
-- Assumes nothing.
use Rattle.std.specs.Prelude.{ℕ, ℤ, pos, Result, Ok, Err}
use Rattle.refusals.specs.declared.Refusal.{Refusal}
use Rattle.refusals.specs.Refusal.{number}
use Rattle.globe.specs.declared.SineOut.{SineOut}
use Rattle.globe.specs.declared.Place.{Place}
use Rattle.globe.specs.declared.PlaceOut.{PlaceOut}
use Rattle.globe.specs.declared.Point.{Point}
use Rattle.globe.specs.declared.PointOut.{PointOut}
use Rattle.globe.specs.declared.LengthOut.{LengthOut}
use Rattle.globe.specs.declared.DirectionOut.{DirectionOut}
use Rattle.globe.specs.declared.Met.{Met}
use Rattle.globe.specs.declared.Met.TheVariants as M
use Rattle.globe.specs.declared.MetOut.{MetOut}

abbrev pub sine_paper : Result ℤ Refusal → SineOut
sine_paper (Ok v) = record { refusal = 0; value = v }
sine_paper (Err r) = record { refusal = number r; value = pos 0 }

abbrev pub place_paper : Result Place Refusal → PlaceOut
place_paper (Ok p) = record { refusal = 0; x = p.x; y = p.y }
place_paper (Err r) = record { refusal = number r; x = pos 0; y = pos 0 }

abbrev pub point_paper : Result Point Refusal → PointOut
point_paper (Ok p) = record { refusal = 0; latitude = p.latitude; longitude = p.longitude }
point_paper (Err r) = record { refusal = number r; latitude = pos 0; longitude = pos 0 }

abbrev pub length_paper : Result ℕ Refusal → LengthOut
length_paper (Ok n) = record { refusal = 0; millimetres = n }
length_paper (Err r) = record { refusal = number r; millimetres = 0 }

abbrev pub direction_paper : Result ℕ Refusal → DirectionOut
direction_paper (Ok n) = record { refusal = 0; ticks = n }
direction_paper (Err r) = record { refusal = number r; ticks = 0 }

-- 1 is yes, 0 no
abbrev pub met_paper : Result Met Refusal → MetOut
met_paper (Ok (M.Yes n)) = record { refusal = 0; met = 1; points = n }
met_paper (Ok (M.No n)) = record { refusal = 0; met = 0; points = n }
met_paper (Err r) = record { refusal = number r; met = 0; points = 0 }
