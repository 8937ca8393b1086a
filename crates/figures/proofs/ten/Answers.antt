-- `figures::ten` meets its contract: each number of the table, computed. Assumes nothing.
use Rattle.std.proofs.Common.{◌≡◌, ℕ, zero, suc, ◌+◌, ◌*◌, ◌^◌, ◌<◌, Bool, true, false, ◌&&◌, eqb, List, [], ◌∷◌, length, get_or, refl, eqb-true, arith}
use lib.Ieee.{Float, nan, inf, fin, up, down, of_bits}
use lib.Ieee.Exact.{HasValue}
use Rattle.choices.proofs.Choices.{and_left, and_right}
use Rattle.figures.specs.declared.TheConstants.{TENS}
use Rattle.figures.proofs.ten.Goals as goal

-- whether x is 10 ^ k
abbrev is_ten : Float → ℕ → Bool
is_ten (fin false m e) k = eqb (m * up e * 1) (10 ^ k * down e)
is_ten _ k = false

-- whether the numbers of a list are the powers of ten from 10 ^ k on
abbrev are_tens : List Float → ℕ → Bool
are_tens [] k = true
are_tens (x ∷ xs) k = is_ten x k && are_tens xs (suc k)

one-ten : (x : Float) (k : ℕ) → is_ten x k ≡ true → HasValue x false (10 ^ k) 1
one-ten (fin false m e) k h = (refl, eqb-true (m * up e * 1) (10 ^ k * down e) h)
one-ten (fin true m e) k h = absurd (cc)
one-ten (inf s) k h = absurd (cc)
one-ten nan k h = absurd (cc)

tens-at : (xs : List Float) (k i : ℕ) → are_tens xs k ≡ true → i < length xs → HasValue (get_or xs i nan) false (10 ^ (k + i)) 1
tens-at [] k i h n = absurd (omega arith)
tens-at (x ∷ xs) k zero h n = let e : k + 0 ≡ k = omega arith in rw e (one-ten x k (and_left (is_ten x k) (are_tens xs (suc k)) h))
tens-at (x ∷ xs) k (suc i) h n = let e : k + suc i ≡ suc k + i = omega arith in rw e (tens-at xs (suc k) i (and_right (is_ten x k) (are_tens xs (suc k)) h) (omega arith))

pub returns : goal.returns
unfolding of_bits
returns c = let e : 0 + c.args.k ≡ c.args.k = omega arith in rw e at (tens-at TENS 0 c.args.k refl (omega arith))
