-- Size and sign apart, for what document 01 says of a size and mirrors: n with the sign of z.
-- Assumes nothing.
use Rattle.std.specs.Prelude.{ℕ, ◌-◌, ◌^◌, min, ℤ, pos, negsuc, neg_ℤ}
use Rattle.std.specs.Int.{Width}
use mir.Val.{hbits}

-- n with the sign of z, where 0 counts as positive
abbrev pub sign_as : ℤ → ℕ → ℤ
sign_as (pos m) n = pos n
sign_as (negsuc m) n = neg_ℤ (pos n)

-- the number nearest to z that a signed number of w bits can be
abbrev pub nearest : Width → ℤ → ℤ
nearest w (pos n) = pos (min n (2 ^ hbits w - 1))
nearest w (negsuc n) = negsuc (min n (2 ^ hbits w - 1))
