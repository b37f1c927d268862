-- "lines ended by LF, fields parted by tabs": the pieces of a text, and tests of a piece.
-- Assumes nothing.
use Rattle.std.specs.Prelude.{Bool, true, false, ◌&&◌, ◌||◌, List, [], ◌∷◌, ℕ, zero, suc, eqb, if◌then◌else◌}

abbrev pub LF : ℕ
LF = 10

abbrev pub TAB : ℕ
TAB = 9

abbrev pub onto : ℕ → List (List ℕ) → List (List ℕ)
onto x [] = (x ∷ []) ∷ []
onto x (p ∷ ps) = (x ∷ p) ∷ ps

-- the pieces that stand between the bytes b: one more than there are such bytes
abbrev pub split : ℕ → List ℕ → List (List ℕ)
split b [] = [] ∷ []
split b (x ∷ s) = if eqb x b then [] ∷ split b s else onto x (split b s)

-- the place of the first b, or the length where there is none
abbrev pub index_of : ℕ → List ℕ → ℕ
index_of b [] = zero
index_of b (x ∷ s) = if eqb x b then zero else suc (index_of b s)

-- b stands anywhere
abbrev pub holds : ℕ → List ℕ → Bool
holds b [] = false
holds b (x ∷ s) = eqb x b || holds b s

abbrev pub same : List ℕ → List ℕ → Bool
same [] [] = true
same [] (y ∷ t) = false
same (x ∷ s) [] = false
same (x ∷ s) (y ∷ t) = eqb x y && same s t

-- the piece is the one byte b
abbrev pub is_byte : ℕ → List ℕ → Bool
is_byte b s = same s (b ∷ [])
