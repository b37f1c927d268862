-- A text that goes into a lent output from a given place onward: the answer, and what the output is afterwards. Said once for every text that is written.
-- Assumes nothing.
use Rattle.std.specs.Prelude.{List, ◌++◌, ℕ, ◌+◌, ◌-◌, leb, length, take, drop, Result, Ok, Err}
use Rattle.refusals.specs.declared.Refusal.{Refusal}
use Rattle.refusals.specs.declared.Refusal.TheVariants as R
use Rattle.refusals.specs.Choice.{unless, Check, fine, first_of, answered}

-- "the answer is their number". First comes what refuses the text itself, n; then "15 the output from that place on is too short (a
-- place past its end leaves none)".
unfoldable pub writing_of : Check → List ℕ → ℕ → List ℕ → Result ℕ Refusal
writing_of n text place out = answered (first_of n (unless (leb (length text) (length out - place)) (Err R.Output) fine)) (length text)

abbrev pub output_by : Result ℕ Refusal → List ℕ → ℕ → List ℕ → List ℕ
output_by (Ok n) text place out = take place out ++ (text ++ drop (place + length text) out)
output_by (Err r) text place out = out

-- "The bytes go into the lent output from a given place onward, nothing before or after them changing"; beside a refusal nothing at all
unfoldable pub output_of : Check → List ℕ → ℕ → List ℕ → List ℕ
output_of n text place out = output_by (writing_of n text place out) text place out
