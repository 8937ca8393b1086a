-- The parts of a figure's text: blanks, digits and what follows them. A text is a list of bytes; its first byte is 0 where there is none, and 0 is in no
-- figure. Assumes nothing.
use Rattle.std.specs.Prelude.{ℕ, zero, suc, ◌+◌, ◌-◌, ◌*◌, Bool, true, false, cond, ◌&&◌, ◌||◌, List, [], ◌∷◌, ◌==◌, nat_le, nat_lt, Option, Some, None, slice_index, drop}

unfoldable pub first : List ℕ → ℕ
first [] = 0
first (b ∷ r) = b

unfoldable pub rest : List ℕ → List ℕ
rest [] = []
rest (b ∷ r) = r

unfoldable pub is_empty : List ℕ → Bool
is_empty [] = true
is_empty (b ∷ r) = false

-- "optional blanks (bytes 9 to 13, 32)"
abbrev pub blank : ℕ → Bool
blank b = (nat_le 9 b && nat_le b 13) || b == 32

unfoldable pub drop_blanks : List ℕ → List ℕ
drop_blanks [] = []
drop_blanks (b ∷ r) = cond (blank b) (drop_blanks r) (b ∷ r)

-- nothing but blanks
unfoldable pub only_blanks : List ℕ → Bool
unfolding is_empty drop_blanks
only_blanks r = is_empty (drop_blanks r)

-- "an optional sign": whether it is - (byte 45), and what follows it
abbrev pub is_minus : List ℕ → Bool
is_minus r = slice_index r 0 == 45

abbrev pub behind_sign : List ℕ → List ℕ
behind_sign r = cond (slice_index r 0 == 45 || slice_index r 0 == 43) (drop 1 r) r

abbrev pub is_x : ℕ → Bool
is_x b = b == 120 || b == 88

abbrev pub is_e : ℕ → Bool
is_e b = b == 101 || b == 69

-- ---- digits

-- what a byte stands for as a digit, a letter in either case; 16 where it is none
unfoldable pub digit : ℕ → ℕ
digit b = cond (nat_le 48 b && nat_le b 57) (b - 48) (cond (nat_le 97 b && nat_le b 102) (b - 87) (cond (nat_le 65 b && nat_le b 70) (b - 55) 16))

-- the same where the byte is a digit of base 10 or 16, and nothing where it is none
abbrev pub digit_in : ℕ → ℕ → Option ℕ
digit_in base b = cond (nat_lt (digit b) base) (Some (digit b)) None

-- the digits of base 10 or 16 that a text begins with, as numbers, and what follows them
unfoldable pub digits : ℕ → List ℕ → List ℕ
unfolding digit
digits base [] = []
digits base (b ∷ r) = cond (nat_lt (digit b) base) (digit b ∷ digits base r) []

unfoldable pub after_digits : ℕ → List ℕ → List ℕ
unfolding digit
after_digits base [] = []
after_digits base (b ∷ r) = cond (nat_lt (digit b) base) (after_digits base r) (b ∷ r)

-- ---- what digits stand for

-- the number v, and then these digits
unfoldable pub value_from : ℕ → ℕ → List ℕ → ℕ
value_from base v [] = v
value_from base v (c ∷ r) = value_from base (v * base + c) r

-- without trailing zeros: the value up to the last digit that is not 0 (d, if there is none more), and how many zeros follow that
unfoldable pub significand : ℕ → ℕ → List ℕ → ℕ
significand v d [] = d
significand v d (zero ∷ r) = significand (v * 10) d r
significand v d (suc c ∷ r) = significand (v * 10 + suc c) (v * 10 + suc c) r

unfoldable pub zeros : ℕ → List ℕ → ℕ
zeros z [] = z
zeros z (zero ∷ r) = zeros (suc z) r
zeros z (suc c ∷ r) = zeros 0 r
