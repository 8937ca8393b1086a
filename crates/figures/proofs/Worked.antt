-- Texts of the readings, read by the definition. Assumes nothing.
use Rattle.std.proofs.Common.{◌≡◌, true, false, [], ◌∷◌, pos, negsuc, refl, Some, None}
use Rattle.figures.specs.Decimal.{decimal}
use Rattle.figures.specs.Texts.{first, rest, is_empty, drop_blanks, only_blanks, digit, digits, after_digits, value_from, significand, zeros}
use Rattle.figures.specs.Figures.{fraction, whole, raised, power, exponent, pointed, with_point, without_point, decimal_text, hex_text, unsigned, figure_of}
use Rattle.figures.specs.declared.Figure.TheVariants.{Integer, Number}

-- " 10 "
ten : figure_of (32 ∷ 49 ∷ 48 ∷ 32 ∷ []) ≡ Some (Integer (pos 10))
unfolding first rest is_empty drop_blanks only_blanks digit digits after_digits value_from significand zeros fraction whole without_point decimal_text unsigned figure_of
ten = refl

-- "- 1"
apart : figure_of (45 ∷ 32 ∷ 49 ∷ []) ≡ None
unfolding first rest is_empty drop_blanks only_blanks digit digits after_digits value_from significand zeros fraction whole without_point decimal_text unsigned figure_of
apart = refl

-- "-0xffffffffffffffff" is 1
wrapped : figure_of (45 ∷ 48 ∷ 120 ∷ 102 ∷ 102 ∷ 102 ∷ 102 ∷ 102 ∷ 102 ∷ 102 ∷ 102 ∷ 102 ∷ 102 ∷ 102 ∷ 102 ∷ 102 ∷ 102 ∷ 102 ∷ 102 ∷ []) ≡ Some (Integer (pos 1))
unfolding first rest is_empty drop_blanks only_blanks digit digits after_digits value_from hex_text unsigned figure_of
wrapped = refl

-- "1.50" is 15 × 10 ^ -1
one_and_a_half : figure_of (49 ∷ 46 ∷ 53 ∷ 48 ∷ []) ≡ Some (Number (decimal false 15 (negsuc 0)))
unfolding first rest is_empty drop_blanks only_blanks digit digits after_digits value_from significand zeros fraction pointed with_point decimal_text unsigned figure_of
one_and_a_half = refl

-- "10e22" is 1 × 10 ^ 23
too_far : figure_of (49 ∷ 48 ∷ 101 ∷ 50 ∷ 50 ∷ []) ≡ None
unfolding first rest is_empty drop_blanks only_blanks digit digits after_digits value_from significand zeros fraction raised power exponent without_point decimal_text unsigned figure_of
too_far = refl

-- "-0e99" is zero
minus-zero : figure_of (45 ∷ 48 ∷ 101 ∷ 57 ∷ 57 ∷ []) ≡ Some (Number (decimal true 0 (pos 0)))
unfolding first rest is_empty drop_blanks only_blanks digit digits after_digits value_from significand zeros fraction raised power exponent without_point decimal_text unsigned figure_of
minus-zero = refl

-- "9223372036854775808" has 19 digits
one_too_many : figure_of (57 ∷ 50 ∷ 50 ∷ 51 ∷ 51 ∷ 55 ∷ 50 ∷ 48 ∷ 51 ∷ 54 ∷ 56 ∷ 53 ∷ 52 ∷ 55 ∷ 55 ∷ 53 ∷ 56 ∷ 48 ∷ 56 ∷ []) ≡ None
unfolding first rest is_empty drop_blanks only_blanks digit digits after_digits value_from significand zeros fraction whole without_point decimal_text unsigned figure_of
one_too_many = refl
