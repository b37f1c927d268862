-- Laws of the pieces of a text: how a search walks it, and how its pieces follow from the place of the first byte that parts them.
-- Assumes nothing.
use Rattle.std.specs.Prelude.{◌≡◌, List, ℕ, ◌+◌, ◌-◌, ◌≤◌, length, take, drop}
use Rattle.numbers.specs.Pieces.{index_of}

-- what `&s[a..]` holds
abbrev pub onward : List ℕ → ℕ → List ℕ
onward s a = take (length s - a) (drop a s)

-- ---- the place of the first b

-- so many bytes are looked at together
abbrev pub stride : ℕ
stride = 8

-- no b stands before i
pub record NoneBefore (b : ℕ) (s : List ℕ) (i : ℕ) : Type 0 where
  pub inside : i ≤ length s
  pub onwards : i + index_of b (drop i s) ≡ index_of b s
