-- Lines, and the digits and numbers in them. A byte past the end is 0. Assumes nothing.
use Rattle.std.specs.Prelude.{List, ℕ, zero, suc, ◌+◌, ◌*◌, ◌/◌, ◌%◌, ◌==◌, not, get_or}
use Rattle.std.specs.List.{prefix_len}

-- how many elements stand before the first b; all of them where there is none
abbrev pub before : ℕ → List ℕ → ℕ
before b l = prefix_len (λ x. not (x == b)) l

-- what a digit stands for, `0` to `9` or `a` to `f`; a number below 16 for any other byte too
abbrev pub digit_value : ℕ → ℕ
digit_value b = (b % 16 + b / 64 * 9) % 16

-- the number that n hexadecimal digits say, the high one first; of more than 16 the last 16 count
unfoldable pub number_at : ℕ → List ℕ → ℕ → ℕ
number_at zero l at = 0
number_at (suc n) l at = number_at n l at % 0x1000_0000_0000_0000 * 16 + digit_value (get_or l (at + n) 0)

-- the number that five decimal digits say
abbrev pub decimal_at : List ℕ → ℕ → ℕ
decimal_at l at =
    digit_value (get_or l (at + 0) 0) * 10000
    + digit_value (get_or l (at + 1) 0) * 1000
    + digit_value (get_or l (at + 2) 0) * 100
    + digit_value (get_or l (at + 3) 0) * 10
    + digit_value (get_or l (at + 4) 0)
