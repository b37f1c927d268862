-- Laws of the root: its square is at most h, that of the next number is not, and no other number is so.
-- Assumes nothing.
use Rattle.std.specs.Prelude.{◌≡◌, ℕ, zero, suc, ◌+◌, ◌*◌, ◌≤◌, ◌<◌, leb}
use Rattle.std.proofs.Common.{lt_of_not-le, le_trans, mul-le-mul, le-mul_of_pos_right, arith, le-leb, leb-true, leb-false}
use Rattle.std.proofs.Math.Decide.{dec_le}
use Rattle.std.proofs.lemmas.Bool.{lt-leb}
use Rattle.sines.specs.Greatest.{IsGreatest}
use Rattle.sines.proofs.GreatestLaws.{greatest_is, greatest_meets}
use Rattle.roots.specs.Root.{root_of}

self_le : (r : ℕ) → r ≤ r * r
self_le zero = omega arith
self_le (suc n) = le-mul_of_pos_right (suc n) (omega arith)

pub root_is : {h r : ℕ} → r * r ≤ h → h < (r + 1) * (r + 1) → r ≡ root_of h
unfolding root_of
root_is {h} {r} l u =
    greatest_is (λ v. leb (v * v) h) (record {
      inside = le_trans (self_le r) l;
      holds = le-leb (r * r) h l;
      later = λ v m _. lt-leb (v * v) h (past v m);
    })
  where
    past : (v : ℕ) → r < v → h < v * v
    past v m = let l : r + 1 ≤ v = omega arith in omega (arith, mul-le-mul l l)

root_meets : (h : ℕ) → IsGreatest (λ r. leb (r * r) h) h (root_of h)
unfolding root_of
root_meets h = greatest_meets (λ r. leb (r * r) h) (le-leb 0 h (omega arith))

pub root_low : (h : ℕ) → root_of h * root_of h ≤ h
root_low h = leb-true (root_of h * root_of h) h (root_meets h).holds

pub root_high : (h : ℕ) → h < (root_of h + 1) * (root_of h + 1)
root_high h = go (dec_le (root_of h + 1) h)
  where
    go : Dec (root_of h + 1 ≤ h) → h < (root_of h + 1) * (root_of h + 1)
    go (yes l) = leb-false _ h ((root_meets h).later (root_of h + 1) (omega arith) l)
    go (no f) = omega (arith, lt_of_not-le f)
