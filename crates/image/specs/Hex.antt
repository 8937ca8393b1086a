-- Hexadecimal text: "Lowercase digits in pairs". A text is a list of bytes. Assumes nothing.
use Rattle.std.specs.Prelude.{ℕ, ◌+◌, ◌-◌, ◌*◌, List, [], ◌∷◌, Bool, true, false, cond, leb, ltb}

-- what a digit stands for: 0 to 15; 16 where the byte is no lowercase hexadecimal digit
unfoldable pub digit_of : ℕ → ℕ
digit_of b = cond (leb 48 b) (cond (leb b 57) (b - 48) (cond (leb 97 b) (cond (leb b 102) (b - 87) 16) 16)) 16

-- digits in pairs, to the end
unfoldable pub paired : List ℕ → Bool
paired [] = true
paired (a ∷ []) = false
paired (a ∷ b ∷ l) = cond (ltb (digit_of a) 16) (cond (ltb (digit_of b) 16) (paired l) false) false

-- the bytes that the pairs stand for
unfoldable pub bytes_of : List ℕ → List ℕ
bytes_of [] = []
bytes_of (a ∷ []) = []
bytes_of (a ∷ b ∷ l) = (digit_of a * 16 + digit_of b) ∷ bytes_of l

-- bytes as one number, "high byte first"
unfoldable pub word_from : ℕ → List ℕ → ℕ
word_from acc [] = acc
word_from acc (b ∷ l) = word_from (acc * 256 + b) l
