-- The table of 4,501 sines: "Entry k is 10^13 times the sine, to the nearest whole number", at every 0.02 degree from 0 to 90.
-- The sines are reckoned at a scale of 10^30 from that of one step s of 0.02 degree and from its cosine, by
-- sin (k+1)s = 2 cos s · sin ks - sin (k-1)s, and each is rounded once.
-- Assumes nothing.
use Rattle.std.specs.Prelude.{List, [], ◌∷◌, ℕ, zero, suc, ◌+◌, ◌-◌, ◌*◌, ◌/◌, get_or}

-- "10^13 times the sine"
abbrev pub unit : ℕ
unit = 10_000_000_000_000

-- 10^30 times the sine of one step, and 10^30 times twice its cosine
unfoldable pub sine_of_step : ℕ
sine_of_step = 349_065_843_310_096_712_961_605_842

unfoldable pub twice_cosine : ℕ
twice_cosine = 1_999_999_878_153_033_322_540_187_736_396

-- from the scale of 10^30 to the nearest whole number at that of 10^13
unfoldable pub rounded : ℕ → ℕ
rounded b = (b + 50_000_000_000_000_000) / 100_000_000_000_000_000

-- n entries more, where b is the next sine and a the one before it
unfoldable pub sines_from : ℕ → ℕ → ℕ → List ℕ
sines_from zero a b = []
sines_from (suc n) a b = rounded b ∷ sines_from n b (twice_cosine * b / 1_000_000_000_000_000_000_000_000_000_000 - a)

unfoldable pub sines : List ℕ
sines = 0 ∷ sines_from 4500 0 sine_of_step

unfoldable pub entry : ℕ → ℕ
entry k = get_or sines k 0
