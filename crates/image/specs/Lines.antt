-- An image's lines: what stands before each LF; what follows the last LF, if anything, is a line that lacks its LF. Assumes nothing.
use Rattle.std.specs.Prelude.{ℕ, zero, suc, List, [], ◌∷◌, eqb, cond}

pub data Line : Type 0 where
  ended : List ℕ → Line
  unended : List ℕ → Line

-- b in front of the first line
unfoldable pub onto : ℕ → List Line → List Line
onto b [] = unended (b ∷ []) ∷ []
onto b (ended l ∷ ls) = ended (b ∷ l) ∷ ls
onto b (unended l ∷ ls) = unended (b ∷ l) ∷ ls

unfoldable pub lines : List ℕ → List Line
lines [] = []
lines (b ∷ s) = cond (eqb b 10) (ended [] ∷ lines s) (onto b (lines s))

-- how many bytes stand before the first LF, or in all where there is none
unfoldable pub line_len : List ℕ → ℕ
line_len [] = zero
line_len (b ∷ s) = cond (eqb b 10) zero (suc (line_len s))
