-- "optional blanks at both ends, an optional sign, then a decimal or 0x integer, or a decimal fraction, exponent allowed, with at most 15 significant digits
-- and a net power of ten from -22 to 22, both without leading and trailing zeros; zero fits. Decimal integers that with their sign don't fit an i64 are read
-- as fractions under that rule; 0x ones wrap." Assumes nothing.
use Rattle.std.specs.Prelude.{ℕ, ◌+◌, ◌^◌, Bool, true, false, cond, ◌&&◌, List, ◌++◌, length, ℤ, pos, ◌==◌, nat_le, nat_lt, unsigned_abs, Option, Some, None}
use Rattle.std.specs.Float.Ieee.{minus}
use Rattle.integer.specs.Wrap.{wrap}
use Rattle.number.specs.Exact.{signed}
use Rattle.figures.specs.Decimal.{decimal}
use Rattle.figures.specs.Texts.{first, rest, is_empty, drop_blanks, only_blanks, is_x, is_e, digits, after_digits, value_from, significand, zeros}
use Rattle.figures.specs.declared.Figure.{Figure}
use Rattle.figures.specs.declared.Figure.TheVariants.{Integer, Number}

-- d × 10 ^ e, where d has no trailing zero
unfoldable pub fraction : Bool → ℕ → ℤ → Option Figure
fraction s d e =
    cond (d == 0) (Some (Number (decimal s 0 (pos 0))))
    (cond (nat_lt d (10 ^ 15) && nat_le (unsigned_abs e) 22) (Some (Number (decimal s d e))) None)

-- A decimal integer of value v = d × 10 ^ z: an integer from -2 ^ 63 to 2 ^ 63 - 1, or else a fraction.
abbrev pub fits_integer : Bool → ℕ → Bool
fits_integer false n = nat_lt n (2 ^ 63)
fits_integer true n = nat_le n (2 ^ 63)

unfoldable pub whole : Bool → ℕ → ℕ → ℕ → List ℕ → Option Figure
unfolding only_blanks fraction
whole s v d z after = cond (only_blanks after) (cond (fits_integer s v) (Some (Integer (signed s v))) (fraction s d (pos z))) None

-- A fraction's digits are d × 10 ^ z, of which `places` stand behind the point: d × 10 ^ (z - places), times the power of ten that the exponent says.
-- The exponent's digits, with the exponent's sign:
unfoldable pub raised : Bool → ℕ → ℕ → ℕ → Bool → ℕ → Option Figure
unfolding fraction
raised s d z places false x = fraction s d (minus (z + x) places)
raised s d z places true x = fraction s d (minus z (places + x))

unfoldable pub power : Bool → ℕ → ℕ → ℕ → Bool → List ℕ → Option Figure
unfolding is_empty only_blanks raised digits after_digits value_from
power s d z places below r = cond (is_empty (digits 10 r)) None (cond (only_blanks (after_digits 10 r)) (raised s d z places below (value_from 10 0 (digits 10 r))) None)

unfoldable pub exponent : Bool → ℕ → ℕ → ℕ → List ℕ → Option Figure
unfolding first rest power
exponent s d z places r =
    cond (first r == 45) (power s d z places true (rest r)) (cond (first r == 43) (power s d z places false (rest r)) (power s d z places false r))

-- what follows the digits of a fraction with a point
unfoldable pub pointed : Bool → ℕ → ℕ → ℕ → List ℕ → Option Figure
unfolding only_blanks first rest exponent fraction
pointed s d z places after = cond (is_e (first after)) (exponent s d z places (rest after)) (cond (only_blanks after) (fraction s d (minus z places)) None)

-- a decimal integer or fraction: digits, or digits with a point among them, of which there is at least one
unfoldable pub with_point : Bool → List ℕ → List ℕ → List ℕ → Option Figure
unfolding is_empty significand zeros pointed
with_point s before behind after = cond (is_empty (before ++ behind)) None (pointed s (significand 0 0 (before ++ behind)) (zeros 0 (before ++ behind)) (length behind) after)

unfoldable pub without_point : Bool → List ℕ → List ℕ → Option Figure
unfolding is_empty first rest value_from significand zeros exponent whole
without_point s ds after =
    cond (is_empty ds) None
    (cond (is_e (first after)) (exponent s (significand 0 0 ds) (zeros 0 ds) 0 (rest after))
    (whole s (value_from 10 0 ds) (significand 0 0 ds) (zeros 0 ds) after))

unfoldable pub decimal_text : Bool → List ℕ → Option Figure
unfolding first rest digits after_digits with_point without_point
decimal_text s r =
    cond (first (after_digits 10 r) == 46)
    (with_point s (digits 10 r) (digits 10 (rest (after_digits 10 r))) (after_digits 10 (rest (after_digits 10 r))))
    (without_point s (digits 10 r) (after_digits 10 r))

-- behind 0x
unfoldable pub hex_text : Bool → List ℕ → Option Figure
unfolding is_empty only_blanks digits after_digits value_from
hex_text s r = cond (is_empty (digits 16 r)) None (cond (only_blanks (after_digits 16 r)) (Some (Integer (wrap (signed s (value_from 16 0 (digits 16 r)))))) None)

unfoldable pub unsigned : Bool → List ℕ → Option Figure
unfolding first rest hex_text decimal_text
unsigned s r = cond (first r == 48 && is_x (first (rest r))) (hex_text s (rest (rest r))) (decimal_text s r)

unfoldable pub figure_of : List ℕ → Option Figure
unfolding first rest drop_blanks unsigned
figure_of text =
    cond (first (drop_blanks text) == 45) (unsigned true (rest (drop_blanks text)))
    (cond (first (drop_blanks text) == 43) (unsigned false (rest (drop_blanks text))) (unsigned false (drop_blanks text)))
