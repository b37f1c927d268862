-- "Numbers we send back", in the order of the table.
-- Assumes nothing.
use Rattle.std.specs.Prelude.{Bool, true, false, ℕ}
use Rattle.refusals.specs.declared.Refusal.{Refusal}
use Rattle.refusals.specs.declared.Refusal.TheVariants as R

abbrev pub number : Refusal → ℕ
-- "text longer than 60,000 bytes (line 0)"
number R.Text = 1
-- "line 1 missing, without LF or other than the two headers"
number R.Header = 2
-- "another line has an unknown kind, the wrong number of fields, or no LF"
number R.Line = 3
-- "a number breaks its rule"
number R.Number = 4
-- "a number holds the mark that the header did not name"
number R.Mark = 5
-- "latitude (or an angle for sine) out of range"
number R.Latitude = 6
-- "longitude out of range"
number R.Longitude = 7
-- "`t` or `g` in a wrong place; a last `g` names its own line"
number R.Order = 8
-- "the 1,001st `p` line"; of a buffer, more than 1,000 points
number R.Points = 9
-- "buffer shorter than 3n (line 0)"
number R.Room = 10
-- "no accepted point has this place"
number R.Place = 11
-- "an edge is NaN, left is not below right, or bottom is not below top"
number R.Window = 12
-- "divisor outside 1 to 1,000,000"
number R.Divisor = 13
-- "central meridian out of range"
number R.Meridian = 14
-- "the output from that place on is too short (a place past its end leaves none)"
number R.Output = 15
-- "target not a whole number of metres or above 999,999,000 mm"; of the question whether it is met, "only for a target above 999,999,000"
number R.Target = 16
-- "buffer not a multiple of three, a third number other than 0 or 1, or a first one of 0"
number R.Buffer = 17
-- "18 when N and D are both zero"
number R.Course = 18

-- the refusal of a line is none of the two of a text that say line 0
abbrev pub of_line : Refusal → Bool
of_line R.Text = false
of_line R.Room = false
of_line r = true
