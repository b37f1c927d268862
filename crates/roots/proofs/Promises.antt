-- What the school method promises: every step is as it is taught, the pairs are the number's, and the digits are its root's.
-- Assumes nothing.
use Rattle.std.specs.Prelude.{◌≡◌, refl, List, [], ◌∷◌, ℕ, zero, suc, ◌+◌, ◌-◌, ◌*◌, ◌/◌, ◌%◌, ◌^◌, ◌≤◌, ◌<◌, max, length, take, drop, replicate}
use Rattle.std.proofs.Common.{ap, ◌∙◌, mod-lt, div-add-mod', take_at, drop_at}
use Rattle.std.proofs.Math.Nat.{pow-suc}
use native.Mathlib.Omega.{arith}
use Rattle.roots.specs.declared.Step.{Step}
use Rattle.roots.specs.Root.{root_of}
use Rattle.roots.specs.School.{behind_first, pairs, taken, digit_of, steps_from, steps_of, school_of, Worked}
use Rattle.roots.proofs.PairLaws.{hundred_some, two_digits, behind_few, behind_low, behind_top}
use Rattle.roots.proofs.SchoolLaws.{nothing, found, digit_next, no_ten, stepped, worked_root}

-- a step from the part of the number, the root and the rest so far
pub record Taught (part root rest : ℕ) (s : Step) : Type 0 where
  pub pair : s.pair < 100
  pub digit : s.digit < 10
  pub subtracted : (20 * root + s.digit) * s.digit + s.rest ≡ rest * 100 + s.pair
  pub greatest : rest * 100 + s.pair < (20 * root + s.digit + 1) * (s.digit + 1)
  pub worked : Worked (part * 100 + s.pair) (10 * root + s.digit) s.rest

-- and those that follow it
unfoldable pub AllTaught : ℕ → ℕ → ℕ → List Step → Type 0
AllTaught part root rest [] = Unit {0}
AllTaught part root rest (s ∷ later) = Taught part root rest s × AllTaught (part * 100 + s.pair) (10 * root + s.digit) s.rest later

-- pairs and digits, side by side
unfoldable pub part_of : ℕ → List Step → ℕ
part_of part [] = part
part_of part (s ∷ later) = part_of (part * 100 + s.pair) later

unfoldable pub digits_of : ℕ → List Step → ℕ
digits_of root [] = root
digits_of root (s ∷ later) = digits_of (10 * root + s.digit) later

taught : (n part root rest later : ℕ) → later < 100 ^ n → Worked part root rest → AllTaught part root rest (steps_from root rest (pairs n later))
unfolding pairs steps_from AllTaught
taught zero part root rest later below w = tt
taught (suc m) part root rest later below w =
    let b : ℕ = rest * 100 + later / 100 ^ m in
    let d : ℕ = digit_of root b in
    let f = found root b {d = d} refl in
    let next = digit_next root b (no_ten (two_digits m later below) w) in (
      record {
        pair = two_digits m later below;
        digit = omega (arith, f.0);
        subtracted = omega (arith, f.1);
        greatest = omega (arith, next);
        worked = stepped (two_digits m later below) w;
      },
      taught m (part * 100 + later / 100 ^ m) (10 * root + d) (b - taken root d) (later % 100 ^ m) (mod-lt later (hundred_some m)) (stepped (two_digits m later below) w),
    )

joined : (n part root rest later : ℕ) → later < 100 ^ n → part_of part (steps_from root rest (pairs n later)) ≡ part * 100 ^ n + later
unfolding pairs steps_from part_of
joined zero part root rest later below = omega (arith, below)
joined (suc m) part root rest later below = joined m _ _ _ _ (mod-lt later (hundred_some m)) ∙ rw (pow-suc 100 m) (omega (arith, div-add-mod' later (100 ^ m)))

ends : (n part root rest later : ℕ) → later < 100 ^ n → Worked part root rest
    → (r : ℕ) × Worked (part_of part (steps_from root rest (pairs n later))) (digits_of root (steps_from root rest (pairs n later))) r
unfolding pairs steps_from part_of digits_of
ends zero part root rest later below w = (rest, w)
ends (suc m) part root rest later below w = ends m _ _ _ _ (mod-lt later (hundred_some m)) (stepped (two_digits m later below) w)

so_many : (n root rest later : ℕ) → length (steps_from root rest (pairs n later)) ≡ n
unfolding pairs steps_from
so_many zero root rest later = refl
so_many (suc m) root rest later = ap suc (so_many m _ _ _)

module _ {h : ℕ} (fits : h < 2 ^ 64) where
  -- every step is as it is taught
  pub all_taught : AllTaught 0 0 0 (steps_of h)
  unfolding steps_of
  all_taught = taught (suc (behind_first h)) 0 0 0 h (behind_top h fits) nothing

  -- the pairs side by side are the number
  pub pairs_joined : part_of 0 (steps_of h) ≡ h
  unfolding steps_of
  pairs_joined = joined (suc (behind_first h)) 0 0 0 h (behind_top h fits) ∙ omega arith

  -- the digits side by side are its root
  pub digits_joined : digits_of 0 (steps_of h) ≡ root_of h
  unfolding steps_of
  digits_joined = worked_root (rw pairs_joined at (ends (suc (behind_first h)) 0 0 0 h (behind_top h fits) nothing).1)

  -- there are no more pairs than its digits ask for, at least one, and at most ten
  pub pair_count : (h < 100 ^ length (steps_of h)) × (100 ^ length (steps_of h) ≤ 100 * max h 1) × (1 ≤ length (steps_of h)) × (length (steps_of h) ≤ 10)
  unfolding steps_of
  pair_count = rw (so_many (suc (behind_first h)) 0 0 h) (behind_top h fits, omega (arith, pow-suc 100 (behind_first h), behind_low h), omega arith, omega (arith, behind_few h))

-- what is handed out: the steps, as many as are said, and behind them zeros
pub handed_out : (h : ℕ) → (take (school_of h).count (school_of h).steps ≡ steps_of h)
    × (drop (school_of h).count (school_of h).steps ≡ replicate (10 - (school_of h).count) (record { pair = 0; digit = 0; rest = 0 }))
    × ((school_of h).root ≡ root_of h)
handed_out h = (take_at (steps_of h) _ (length (steps_of h)) refl, drop_at (steps_of h) _ (length (steps_of h)) refl, refl)
