-- Laws of the sine of an angle and of a latitude's cosine.
-- Assumes nothing.
use Rattle.std.specs.Prelude.{◌≡◌, refl, true, ℕ, zero, suc, ◌-◌, ◌≤◌, ◌<◌, ℤ, pos, negsuc, neg_ℤ, nat_abs}
use Rattle.std.proofs.Common.{sym, arith, ltb-true, lt-ltb, le-leb, leb-true}
use Rattle.std.proofs.Math.IntN.{neg_ℤ-neg_ℤ}
use Rattle.std.specs.Int.Signed.{lt_z, le_z}
use Rattle.signed.specs.Sides.{neg_above, neg_below}
use Rattle.signed.specs.Tests.{lt_lt_z}
use Rattle.signed.specs.SignLaws.{as_size}
use Rattle.sines.specs.Table.{unit}
use Rattle.sines.specs.Sine.{quarter, long_sine, short_unit, quarter_halves}
use Rattle.sines.proofs.SineLaws.{long_sine_zero, long_sine_top, long_sine_lt, short_sine_top, short_sine_some}
use Rattle.refusals.specs.Tests.{and_true, clash}
use Rattle.ticks.specs.Ticks.{is_latitude}
use Rattle.ticks.proofs.TickLaws.{latitude_size}
use Rattle.globe.specs.Angle.{signed_long_sine, short_cosine, is_halves}

-- an angle in half ticks from 0 to 90 degrees, by its size
pub halves_size : (z : ℤ) → is_halves z ≡ true → nat_abs z ≤ quarter_halves
halves_size (pos n) e = leb-true n quarter_halves (and_true (le_z (pos 0) (pos n)) (le_z (pos n) (pos quarter_halves)) e).1
halves_size (negsuc n) e = clash e refl

pub cosine_top : (lat : ℤ) → short_cosine lat ≤ short_unit
unfolding short_cosine
cosine_top lat = short_sine_top (omega arith)

-- "The short cosine is at least 1 everywhere off the poles", and 0 at them
pub cosine_off : (lat : ℤ) → nat_abs lat < quarter → 1 ≤ short_cosine lat
unfolding short_cosine
cosine_off lat h = short_sine_some {a = quarter - nat_abs lat} (omega arith) (omega arith)

pub cosine_test : (lat : ℤ) → nat_abs lat < quarter → le_z (pos 1) (pos (short_cosine lat)) ≡ true
cosine_test lat h = le-leb 1 (short_cosine lat) (cosine_off lat h)

pub cosine_pole : (lat : ℤ) → nat_abs lat ≡ quarter → short_cosine lat ≡ 0
unfolding short_cosine
cosine_pole lat e = rw (e, long_sine_zero)

-- one cosine north and south
pub cosine_mirror : (lat : ℤ) → short_cosine (neg_ℤ lat) ≡ short_cosine lat
unfolding short_cosine
cosine_mirror (pos zero) = refl
cosine_mirror (pos (suc n)) = refl
cosine_mirror (negsuc n) = refl

-- "Long sine lies within ±10^13 and is strictly increasing over ticks."
pub long_within : (a : ℤ) → is_latitude a ≡ true → nat_abs (signed_long_sine a) ≤ unit
long_within a h = rw (as_size a (long_sine (nat_abs a))) (long_sine_top (latitude_size a h))

pub long_rising : (a b : ℤ) → is_latitude a ≡ true → is_latitude b ≡ true → lt_z a b ≡ true → lt_z (signed_long_sine a) (signed_long_sine b) ≡ true
long_rising (pos a) (pos b) h k t = lt-ltb (long_sine a) (long_sine b) (long_sine_lt (ltb-true a b t) (latitude_size (pos b) k))
long_rising (pos a) (negsuc b) h k t = let z : ◌≡◌ {A = ℕ} 0 1 = cc in absurd (omega arith)
long_rising (negsuc a) (pos b) h k t =
    let n = pos (long_sine (suc a)) in
    let l = long_sine_lt {a = 0} {b = suc a} (omega arith) (latitude_size (negsuc a) h) in
    lt_lt_z (neg_ℤ n) (pos (long_sine b)) (omega (arith, neg_above n, neg_below n))
long_rising (negsuc a) (negsuc b) h k t =
    let n = pos (long_sine (suc a)) in
    let m = pos (long_sine (suc b)) in
    let u = ltb-true b a t in
    let l = long_sine_lt {a = suc b} {b = suc a} (omega arith) (latitude_size (negsuc a) h) in
    lt_lt_z (neg_ℤ n) (neg_ℤ m) (omega (arith, neg_above n, neg_below n, neg_above m, neg_below m))

-- "A negative angle gives the negative of its opposite."
pub sine_mirror : (a : ℤ) → signed_long_sine (neg_ℤ a) ≡ neg_ℤ (signed_long_sine a)
sine_mirror (pos zero) = rw long_sine_zero
sine_mirror (pos (suc n)) = refl
sine_mirror (negsuc n) = sym (neg_ℤ-neg_ℤ (pos (long_sine (suc n))))
