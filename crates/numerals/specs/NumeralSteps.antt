-- Digits as code works them out: as the first ones of seven, the next one first, and how many of them are written.
-- Assumes nothing.
use Rattle.std.specs.Prelude.{◌≡◌, Bool, true, List, [], ◌∷◌, ℕ, zero, suc, ◌+◌, ◌-◌, ◌*◌, ◌/◌, ◌%◌, ◌^◌, ◌≤◌, ◌<◌, length, if◌then◌else◌}
use Rattle.numbers.specs.Number.{MINUS}
use Rattle.numerals.specs.Numeral.{digits}

-- a value of 32 bits has no more digits on either side of the mark
abbrev pub most : ℕ
most = 7

-- the first k of seven digits of n
abbrev pub topmost : ℕ → ℕ → List ℕ
topmost zero n = []
topmost (suc k) n = (48 + n / 1_000_000) ∷ topmost k (n % 1_000_000 * 10)

-- n lifted so that c of seven digits stand before what is left: so many hold it, and one fewer would not
pub record Lifted (n x c : ℕ) : Type 0 where
  pub some : 1 ≤ c
  pub few : c ≤ most
  pub value : x ≡ n * 10 ^ (most - c)
  pub needed : 1 < c → 10 ^ (c - 1) ≤ n
  pub small : n < 10 ^ most

-- k digits of n are shorn as many are of m
pub record Shorn (p m k n : ℕ) : Type 0 where
  pub few : k ≤ p
  pub below : n < 10 ^ k
  pub same : length (digits true k n) ≡ length (digits true p m)

abbrev pub sign_text : Bool → List ℕ
sign_text minus = if minus then MINUS ∷ [] else []
