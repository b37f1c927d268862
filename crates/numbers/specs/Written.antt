-- A number as it is written, in the document's words and apart from how it is read: what the promises speak of.
-- Assumes nothing.
use Rattle.std.specs.Prelude.{◌≡◌, Bool, true, false, List, [], ◌∷◌, ◌++◌, ℕ, ◌+◌, ◌-◌, ◌*◌, ◌^◌, ◌≤◌, ℤ, pos, neg_ℤ, length, if◌then◌else◌}
use Rattle.ticks.specs.Ticks.{is_latitude, is_longitude}
use Rattle.numbers.specs.declared.Mark.{Mark}
use Rattle.numbers.specs.declared.Kind.{Kind}
use Rattle.numbers.specs.declared.Kind.TheVariants as K
use Rattle.numbers.specs.Number.{named_byte}

-- digits, and the number that they make: 48 is the byte of 0
pub data Makes : List ℕ → ℕ → Type 0 where
  none : Makes [] 0
  digit : {b n : ℕ} {s : List ℕ} → 48 ≤ b → b ≤ 57 → Makes s n → Makes (b ∷ s) ((b - 48) * 10 ^ length s + n)

-- "nothing or the named mark" m "with" one to p digits, and how many units of the last of p decimals it is worth
pub data Decimals (p m : ℕ) : List ℕ → ℕ → Type 0 where
  nothing : Decimals p m [] 0
  marked : {d : List ℕ} {n : ℕ} → 1 ≤ length d → length d ≤ p → Makes d n → Decimals p m (m ∷ d) (n * 10 ^ (p - length d))

-- "an optional minus"
abbrev pub sign : Bool → List ℕ
sign true = 45 ∷ []
sign false = []

-- s is the sign, one to three digits w that make n, and decimals worth k; v is its value
pub record Written (takes : Bool) (p m : ℕ) (s : List ℕ) (v : ℤ) : Type 0 where
  pub minus : Bool
  pub w : List ℕ
  pub rest : List ℕ
  pub n : ℕ
  pub k : ℕ
  pub text : s ≡ sign minus ++ (w ++ rest)
  pub allowed : minus ≡ true → takes ≡ true
  pub some : 1 ≤ length w
  pub few : length w ≤ 3
  pub makes : Makes w n
  pub decimals : Decimals p m rest k
  pub value : v ≡ (if minus then neg_ℤ (pos (n * 10 ^ p + k)) else pos (n * 10 ^ p + k))

-- "the named mark with one to seven digits"; "A target has no minus and at most three decimals."
abbrev pub IsNumber : Kind → Mark → List ℕ → ℤ → Type 0
IsNumber K.Latitude mark = Written true 7 (named_byte mark)
IsNumber K.Longitude mark = Written true 7 (named_byte mark)
IsNumber K.Target mark = Written false 3 (named_byte mark)

abbrev pub is_in : Kind → ℤ → Bool
is_in K.Latitude v = is_latitude v
is_in K.Longitude v = is_longitude v
is_in K.Target v = true

-- "then 6 or 7"; a target has no range
abbrev pub out_of : Kind → ℕ
out_of K.Latitude = 6
out_of K.Longitude = 7
out_of K.Target = 0
