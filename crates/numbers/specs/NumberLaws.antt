-- Laws of numbers: how large a number of its kind is, what a number is for each way out of its reading, and what one that was read tells.
-- Assumes nothing.
use Rattle.std.specs.Prelude.{◌≡◌, Bool, not, ◌&&◌, ◌||◌, ℤ, pos, neg_ℤ, take, drop, if◌then◌else◌, Result, Ok, Err, Option, Some, None}
use Rattle.std.proofs.Math.Bool.{true, false}
use mathlib.Core.List.{List, ◌++◌}
use Prim.Native.Nat.{ℕ, suc, ◌-◌, ◌*◌, ◌^◌}
use Rattle.std.proofs.Math.ListN.{length}
use Rattle.refusals.specs.declared.Refusal.{Refusal}
use Rattle.refusals.specs.declared.Refusal.TheVariants as R
use Rattle.refusals.specs.Refusal.{of_line}
use Rattle.refusals.specs.Choice.{unless, Check, fine}
use Rattle.numbers.specs.declared.Mark.{Mark}
use Rattle.numbers.specs.declared.Kind.{Kind}
use Rattle.numbers.specs.Pieces.{index_of, holds, is_byte}
use Rattle.numbers.specs.Number.{MINUS, named_byte, other_byte, places, takes_minus, ranged, are_digits, value_of}

-- ---- the number, taken apart

-- "one to three digits"
abbrev pub wholes : ℕ
wholes = 3

-- what is refused, whatever the value is
abbrev pub refusal_of : Result ℤ Refusal → Check
refusal_of (Ok v) = fine
refusal_of (Err r) = Err r

-- whether the value is in range
abbrev pub range_refusal : Kind → ℤ → Check
range_refusal kind v = refusal_of (ranged kind v)

-- what stands before the first b, and what stands behind it
abbrev pub before : ℕ → List ℕ → List ℕ
before b s = take (index_of b s) s

abbrev pub behind : ℕ → List ℕ → List ℕ
behind b s = drop (suc (index_of b s)) s

-- whether s is a number without a minus, b being the mark
abbrev pub is_plain : Kind → ℕ → List ℕ → Bool
is_plain kind b s = are_digits wholes (before b s) && (not (holds b s) || are_digits (places kind) (behind b s))

-- and what it makes
abbrev pub size_of : Kind → ℕ → List ℕ → ℕ
size_of kind b s = value_of (before b s ++ behind b s) * 10 ^ (places kind - length (behind b s))

abbrev pub has_minus : Kind → List ℕ → Bool
has_minus kind s = takes_minus kind && is_byte MINUS (take 1 s)

-- what stands past the minus
abbrev pub past : Kind → List ℕ → List ℕ
past kind s = drop (if has_minus kind s then 1 else 0) s

abbrev pub signed : Bool → ℤ → ℤ
signed true z = neg_ℤ z
signed false z = z

-- what the field makes, if it is a number
abbrev pub made_of : Kind → Mark → List ℕ → ℤ
made_of kind mark s = signed (has_minus kind s) (pos (size_of kind (named_byte mark) (past kind s)))

-- what s makes without a minus
unfoldable pub amount_of : Kind → ℕ → List ℕ → Option ℕ
amount_of kind b s = unless (is_plain kind b s) None (Some (size_of kind b s))

-- of a field that is not a number: the other mark before whatever else breaks the rule
abbrev pub fault_of : Mark → List ℕ → Refusal
fault_of mark s = if holds (other_byte mark) s then R.Mark else R.Number

-- it is what its digits make, and in range
pub record Read (kind : Kind) (mark : Mark) (s : List ℕ) (v : ℤ) : Type 0 where
  pub plain : is_plain kind (named_byte mark) (past kind s) ≡ true
  pub made : v ≡ made_of kind mark s
  pub within : range_refusal kind v ≡ fine

-- ---- a value in range, or one of a line's refusals

pub data NumberSays (kind : Kind) : Result ℤ Refusal → Type 0 where
  value : {v : ℤ} → range_refusal kind v ≡ fine → NumberSays kind (Ok v)
  refused : {r : Refusal} → of_line r ≡ true → NumberSays kind (Err r)
