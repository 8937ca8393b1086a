-- "the fraction nearest, ties to even, as a fact about whole numbers (digits, power of ten, bits)". Assumes nothing.
-- A pattern b of 64 bits is a sign, a field of 11 bits and 52 digits; every finite number's size is a whole number of 2 ^ -1074, `size_of b`.
-- proofs/NearestLaws shows `Closest` of the bits of `decimal s d e`.
use Rattle.std.specs.Prelude.{◌≡◌, ℕ, zero, suc, ◌+◌, ◌-◌, ◌*◌, ◌/◌, ◌%◌, ◌^◌, ◌<◌, ◌≤◌, Bool, cond, ℤ, ◌≢◌, nat_le}
use Rattle.std.specs.Bool.{beq}
use Rattle.figures.specs.Decimal.{tens, tenths}

abbrev pub exponent_field : ℕ → ℕ
exponent_field b = b / 2 ^ 52 % 2 ^ 11

-- a field of 0 has no leading one
abbrev pub units_from : ℕ → ℕ → ℕ
units_from zero t = t
units_from (suc x) t = (2 ^ 52 + t) * 2 ^ x

abbrev pub units_of : ℕ → ℕ
units_of b = units_from (exponent_field b) (b % 2 ^ 52)

-- b is the pattern of a finite number
abbrev pub IsFinite : ℕ → Type 0
IsFinite b = (b < 2 ^ 64) × (exponent_field b < 2047)

-- how far the number of pattern b is from d × 10 ^ e with the sign s, times 2 ^ 1074 and times tenths e: a whole number
abbrev pub distance : Bool → ℕ → ℕ → ℕ
distance alike x y = cond alike ((x - y) + (y - x)) (x + y)

abbrev pub distance_to : Bool → ℕ → ℤ → ℕ → ℕ
distance_to s d e b = distance (beq s (nat_le (2 ^ 63) b)) (units_of b * tenths e) (d * tens e * 2 ^ 1074)

-- no finite number is nearer, and where another is as near, the last bit is 0
pub record Closest (s : Bool) (d : ℕ) (e : ℤ) (b : ℕ) : Type 0 where
  pub finite : IsFinite b
  pub no_nearer : (b' : ℕ) → IsFinite b' → distance_to s d e b ≤ distance_to s d e b'
  pub tie_even : (b' : ℕ) → IsFinite b' → (b' ≢ b) → distance_to s d e b ≡ distance_to s d e b' → b % 2 ≡ 0
