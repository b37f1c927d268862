-- The figures that the document marks P, those of legs as R-4 has them, and the leg of its report, proved about the definitions: one list under one claim, in the paper's own
-- numbers.
-- Assumes nothing.
use Rattle.std.specs.Prelude.{◌≡◌, pos, neg_ℤ}
use Rattle.std.proofs.Common.{refl}
use Rattle.refusals.specs.Refusal.{number}
use Rattle.refusals.specs.declared.Refusal.TheVariants as R
use Rattle.sines.specs.Table.{entry}
use Rattle.sines.proofs.Rules.{first, last}
use Rattle.sines.proofs.Figures.{entry_1, entry_1500}
use Rattle.globe.specs.Angle.{long_sine_of, short_sine_of}
use Rattle.globe.specs.Sheet.{cylindrical_of, sinusoidal_of, cylindrical_back_of, sinusoidal_back_of}
use Rattle.globe.specs.Leg.{leg_of}
use Rattle.globe.specs.Paper.{sine_paper, place_paper, point_paper, length_paper}
use Rattle.globe.proofs.Figures as G

pub record Figures : Type 0 where
  -- "entry 0 is 0, entry 1 is 3,490,658,433, entry 1500 is 5×10^12, entry 4500 is 10^13"
  pub entry_0 : entry 0 ≡ 0
  pub entry_1 : entry 1 ≡ 3_490_658_433
  pub entry_1500 : entry 1_500 ≡ 5_000_000_000_000
  pub entry_4500 : entry 4_500 ≡ 10_000_000_000_000
  -- "long sine of 1 tick is 17,453; short sine 1"
  pub long_sine_lem : sine_paper (long_sine_of (pos 1)) ≡ record { refusal = 0; value = pos 17_453 }
  pub short_sine_lem : sine_paper (short_sine_of (pos 1)) ≡ record { refusal = 0; value = pos 1 }
  -- "cylindrical, meridian 0, 30° N 10° E: x 100,000,000, y 5×10^12"
  pub cylindrical : place_paper (cylindrical_of (pos 300_000_000) (pos 100_000_000) (pos 0)) ≡ record { refusal = 0; x = pos 100_000_000; y = pos 5_000_000_000_000 }
  -- "cylindrical back, (0, 17,453): 1 tick north", "(0, 17,454): 11"
  pub cylindrical_back : point_paper (cylindrical_back_of (pos 0) (pos 17_453) (pos 0)) ≡ record { refusal = 0; latitude = pos 1; longitude = pos 0 }
  pub cylindrical_nobody : point_paper (cylindrical_back_of (pos 0) (pos 17_454) (pos 0)) ≡ record { refusal = 11; latitude = pos 0; longitude = pos 0 }
  -- "sinusoidal, 60° N 10° E: x 5×10^16, y 600,000,000", "back with x one more: 11"
  pub sinusoidal : place_paper (sinusoidal_of (pos 600_000_000) (pos 100_000_000) (pos 0)) ≡ record { refusal = 0; x = pos 50_000_000_000_000_000; y = pos 600_000_000 }
  pub sinusoidal_nobody : point_paper (sinusoidal_back_of (pos 50_000_000_000_000_001) (pos 600_000_000) (pos 0)) ≡ record { refusal = 11; latitude = pos 0; longitude = pos 0 }
  -- "sinusoidal back (0, 900,000,000), meridian 5° E: 90° N 5° E", "(1, 900,000,000): 11"
  pub pole : point_paper (sinusoidal_back_of (pos 0) (pos 900_000_000) (pos 50_000_000)) ≡ record { refusal = 0; latitude = pos 900_000_000; longitude = pos 50_000_000 }
  pub pole_nobody : point_paper (sinusoidal_back_of (pos 1) (pos 900_000_000) (pos 50_000_000)) ≡ record { refusal = 11; latitude = pos 0; longitude = pos 0 }
  -- "One tick north is then 11 mm, two are 22, and equal points 0."
  pub one_tick_north : length_paper (leg_of (pos 0) (pos 0) (pos 1) (pos 0)) ≡ record { refusal = 0; millimetres = 11 }
  pub two_ticks_north : length_paper (leg_of (pos 0) (pos 0) (pos 2) (pos 0)) ≡ record { refusal = 0; millimetres = 22 }
  pub equal_points : length_paper (leg_of (pos 0) (pos 0) (pos 0) (pos 0)) ≡ record { refusal = 0; millimetres = 0 }
  -- "0, 179.9° E to 0, 179.9° W: 22,238,985. Pole to pole: 20,015,086,860."
  pub across_the_date_line : length_paper (leg_of (pos 0) (pos 1_799_000_000) (pos 0) (neg_ℤ (pos 1_799_000_000))) ≡ record { refusal = 0; millimetres = 22_238_985 }
  pub pole_to_pole : length_paper (leg_of (pos 900_000_000) (pos 0) (neg_ℤ (pos 900_000_000)) (pos 0)) ≡ record { refusal = 0; millimetres = 20_015_086_860 }
  -- not marked P: the leg in the report, a quarter of the equator, "length→10007543430"
  pub quarter : length_paper (leg_of (pos 0) (pos 0) (pos 0) (pos 900_000_000)) ≡ record { refusal = 0; millimetres = 10_007_543_430 }

pub figures : Figures
figures = record {
  entry_0 = first;
  entry_1 = entry_1;
  entry_1500 = entry_1500;
  entry_4500 = last;
  long_sine_lem = G.long_1;
  short_sine_lem = G.short_1;
  cylindrical = G.cylindrical_30_10;
  cylindrical_back = G.cylindrical_back_17453;
  cylindrical_nobody = G.cylindrical_back_17454;
  sinusoidal = G.sinusoidal_60_10_paper;
  sinusoidal_nobody = G.sinusoidal_back_one_more;
  pole = G.sinusoidal_back_pole;
  pole_nobody = G.sinusoidal_back_beside_pole;
  one_tick_north = G.length_1_north;
  two_ticks_north = G.length_2_north;
  equal_points = G.length_equal;
  across_the_date_line = G.length_across_180;
  pole_to_pole = G.length_pole_to_pole;
  quarter = G.length_quarter;
}

-- "Numbers we send back", which promises say by the names of the refusals
pub record Numbers : Type 0 where
  pub of_text : number R.Text ≡ 1
  pub of_header : number R.Header ≡ 2
  pub of_line : number R.Line ≡ 3
  pub of_number : number R.Number ≡ 4
  pub of_mark : number R.Mark ≡ 5
  pub of_latitude : number R.Latitude ≡ 6
  pub of_longitude : number R.Longitude ≡ 7
  pub of_order : number R.Order ≡ 8
  pub of_points : number R.Points ≡ 9
  pub of_room : number R.Room ≡ 10
  pub of_place : number R.Place ≡ 11
  pub of_window : number R.Window ≡ 12
  pub of_divisor : number R.Divisor ≡ 13
  pub of_meridian : number R.Meridian ≡ 14
  pub of_output : number R.Output ≡ 15
  pub of_target : number R.Target ≡ 16
  pub of_buffer : number R.Buffer ≡ 17
  pub of_course : number R.Course ≡ 18

pub numbers : Numbers
numbers = record { of_text = refl; of_header = refl; of_line = refl; of_number = refl; of_mark = refl; of_latitude = refl; of_longitude = refl; of_order = refl; of_points = refl; of_room = refl; of_place = refl; of_window = refl; of_divisor = refl; of_meridian = refl; of_output = refl; of_target = refl; of_buffer = refl; of_course = refl }
