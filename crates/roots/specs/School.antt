-- "Find the whole-number square root two decimal digits at a time, by the school method": its steps.
-- Assumes nothing.
use Rattle.std.specs.Prelude.{◌≡◌, ℕ, zero, suc, ◌+◌, ◌-◌, ◌*◌, ◌/◌, ◌%◌, ◌^◌, ◌≤◌, max, List, [], ◌∷◌, ◌++◌, length, replicate, leb}
use Rattle.sines.specs.Greatest.{greatest}
use Rattle.roots.specs.declared.Step.{Step}
use Rattle.roots.specs.declared.Working.{Working}
use Rattle.roots.specs.Root.{root_of}

-- how many pairs of digits stand behind the first one, in a number of up to ten pairs; 0 has one pair, as 1 has
unfoldable pub behind_first : ℕ → ℕ
behind_first h = greatest (λ k. leb (100 ^ k) (max h 1)) 9

-- n pairs, from the left
unfoldable pub pairs : ℕ → ℕ → List ℕ
pairs zero h = []
pairs (suc n) h = h / 100 ^ n ∷ pairs n (h % 100 ^ n)

-- what a digit behind the root takes from the rest: "(20 × root + d) × d"
abbrev pub taken : ℕ → ℕ → ℕ
taken root d = (20 * root + d) * d

-- the greatest digit that takes at most the rest
unfoldable pub digit_of : ℕ → ℕ → ℕ
digit_of root rest = greatest (λ d. leb (taken root d) rest) 9

-- from the root and the rest so far: a pair is brought down behind the rest, its digit found, what that takes subtracted, and the digit appended to
-- the root
unfoldable pub steps_from : ℕ → ℕ → List ℕ → List Step
steps_from root rest [] = []
steps_from root rest (pair ∷ later) =
    let brought : ℕ = rest * 100 + pair in
    let digit : ℕ = digit_of root brought in
    let left : ℕ = brought - taken root digit in
    record { pair = pair; digit = digit; rest = left } ∷ steps_from (10 * root + digit) left later

-- all of them, from a root and a rest of 0
unfoldable pub steps_of : ℕ → List Step
steps_of h = steps_from 0 0 (pairs (suc (behind_first h)) h)

-- a place without a step
abbrev pub none : Step
none = record { pair = 0; digit = 0; rest = 0 }

-- the root and its steps, which have room for ten pairs
abbrev pub school_of : ℕ → Working
school_of h = record {
  root = root_of h;
  count = length (steps_of h);
  steps = steps_of h ++ replicate (10 - length (steps_of h)) none;
}

-- the method's invariant: root² + rest is the part brought down so far, and the rest is at most twice the root
pub record Worked (part root rest : ℕ) : Type 0 where
  pub whole : root * root + rest ≡ part
  pub left : rest ≤ 2 * root
