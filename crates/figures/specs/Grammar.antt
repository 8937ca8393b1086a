-- Which texts are figures, and which figure each of them is: request 1/12's sentence as a grammar, with nothing in it that reads from left to right.
-- `figure_of` is the same set as a function; `Statements` says, and proofs/GrammarLaws shows, that both say the same of every text. Assumes nothing.
use Rattle.std.specs.Prelude.{◌≡◌, ℕ, ◌+◌, ◌*◌, ◌%◌, ◌^◌, ◌<◌, ◌≤◌, Bool, true, false, List, [], ◌∷◌, ◌++◌, length, ℤ, pos, unsigned_abs}
use Rattle.integer.specs.Wrap.{wrap}
use Rattle.number.specs.Exact.{signed}
use Rattle.figures.specs.Decimal.{tens, tenths, decimal}
use Rattle.figures.specs.Texts.{blank, is_x, is_e, value_from}
use Rattle.figures.specs.Figures.{fits_integer}
use Rattle.figures.specs.declared.Figure.{Figure}
use Rattle.figures.specs.declared.Figure.TheVariants.{Integer, Number}

-- ---- the parts of a text: lists of bytes

-- "optional blanks (bytes 9 to 13, 32)": any number of them
pub data Blanks : List ℕ → Type 0 where
  no_blank : Blanks []
  next_blank : {b : ℕ} {t : List ℕ} → blank b ≡ true → Blanks t → Blanks (b ∷ t)

-- "an optional sign": nothing, + or -, and whether it is -
pub data SignBytes : List ℕ → Bool → Type 0 where
  no_sign : SignBytes [] false
  plus_sign : SignBytes (43 ∷ []) false
  minus_sign : SignBytes (45 ∷ []) true

-- a byte that is a digit, a letter in either case (0 is byte 48, a is byte 97, A is byte 65), and the number that it stands for
pub data DigitByte : ℕ → ℕ → Type 0 where
  from_0_to_9 : {c : ℕ} → c < 10 → DigitByte (48 + c) c
  from_lower : {c : ℕ} → c < 6 → DigitByte (97 + c) (10 + c)
  from_upper : {c : ℕ} → c < 6 → DigitByte (65 + c) (10 + c)

-- any number of digits below a base, 10 for decimal digits and 16 for hexadecimal ones, and the numbers that they stand for
pub data DigitRun (base : ℕ) : List ℕ → List ℕ → Type 0 where
  no_digit : DigitRun base [] []
  next_digit : {b c : ℕ} {t ds : List ℕ} → DigitByte b c → c < base → DigitRun base t ds → DigitRun base (b ∷ t) (c ∷ ds)

-- "exponent allowed": e or E, an optional sign, one or more digits; and the power of ten that it says
pub data ExponentPart : List ℕ → ℤ → Type 0 where
  exponent_part : {letter : ℕ} {mark t ds : List ℕ} {s : Bool} → is_e letter ≡ true → SignBytes mark s → DigitRun 10 t ds → 1 ≤ length ds
      → ExponentPart (letter ∷ (mark ++ t)) (signed s (value_from 10 0 ds))

-- or none, which is the power 0
pub data OptionalExponent : List ℕ → ℤ → Type 0 where
  no_exponent : OptionalExponent [] (pos 0)
  an_exponent : {t : List ℕ} {x : ℤ} → ExponentPart t x → OptionalExponent t x

-- ---- "a decimal or 0x integer, or a decimal fraction"

-- What is said without the sign. Of an integer its value. Of a fraction the value v of all its digits, how many of them stand behind the point, and the
-- exponent x: v × 10 ^ x / 10 ^ places.
pub data Literal : Type 0 where
  decimal_integer : (v : ℕ) → Literal
  hex_integer : (v : ℕ) → Literal
  decimal_fraction : (v places : ℕ) (x : ℤ) → Literal

pub data Body : List ℕ → Literal → Type 0 where
  -- "a decimal .. integer": one or more digits
  decimal_digits : {t ds : List ℕ} → DigitRun 10 t ds → 1 ≤ length ds → Body t (decimal_integer (value_from 10 0 ds))
  -- "or 0x integer": 0 (byte 48), x or X, one or more hexadecimal digits
  hex_digits : {x : ℕ} {t ds : List ℕ} → is_x x ≡ true → DigitRun 16 t ds → 1 ≤ length ds → Body (48 ∷ x ∷ t) (hex_integer (value_from 16 0 ds))
  -- "or a decimal fraction, exponent allowed": digits before and behind a point (byte 46), at least one in all
  with-point : {t u p before behind : List ℕ} {x : ℤ} → DigitRun 10 t before → DigitRun 10 u behind → 1 ≤ length (before ++ behind) → OptionalExponent p x
      → Body (t ++ (46 ∷ (u ++ p))) (decimal_fraction (value_from 10 0 (before ++ behind)) (length behind) x)
  -- or digits without a point, of which the exponent makes a fraction
  with_exponent : {t p ds : List ℕ} {x : ℤ} → DigitRun 10 t ds → 1 ≤ length ds → ExponentPart p x → Body (t ++ p) (decimal_fraction (value_from 10 0 ds) 0 x)

-- "optional blanks .. at both ends, an optional sign, then" the body, and nothing else: no blank behind the sign
pub data FigureText : List ℕ → Bool → Literal → Type 0 where
  figure_text : {before mark body after : List ℕ} {s : Bool} {l : Literal} → Blanks before → SignBytes mark s → Body body l → Blanks after
      → FigureText (before ++ (mark ++ (body ++ after))) s l

-- ---- "with at most 15 significant digits and a net power of ten from -22 to 22, both without leading and trailing zeros"

-- the value is d × 10 ^ e, which is d * tens e / tenths e (`Decimal`): both sides times what they are divided by
abbrev pub ValueIs : Literal → ℕ → ℤ → Type 0
ValueIs (decimal_integer v) d e = v * tenths e ≡ d * tens e
ValueIs (hex_integer v) d e = v * tenths e ≡ d * tens e
ValueIs (decimal_fraction v places x) d e = v * tens x * tenths e ≡ d * tens e * (tenths x * 10 ^ places)

pub record InSet (l : Literal) (d : ℕ) (e : ℤ) : Type 0 where
  pub same_value : ValueIs l d e
  -- "without .. trailing zeros"
  pub no_zero_last : d % 10 ≡ 0 → ⊥
  -- "at most 15 significant digits"
  pub fifteen_digits : d < 10 ^ 15
  -- "a net power of ten from -22 to 22"
  pub near_power : unsigned_abs e ≤ 22

-- What goes by that rule: a fraction, and "Decimal integers that with their sign don't fit an i64 are read as fractions under that rule".
pub data ByFraction (s : Bool) : Literal → Type 0 where
  a_fraction : {v places : ℕ} {x : ℤ} → ByFraction s (decimal_fraction v places x)
  too_large : {v : ℕ} → fits_integer s v ≡ false → ByFraction s (decimal_integer v)

-- ---- the figure, with the sign: an integer, or the number that is nearest to the value (`decimal`)

pub data Denotes (s : Bool) : Literal → Figure → Type 0 where
  -- from -2 ^ 63 to 2 ^ 63 - 1
  is_integer : {v : ℕ} → fits_integer s v ≡ true → Denotes s (decimal_integer v) (Integer (signed s v))
  -- "0x ones wrap"
  hex_wraps : {v : ℕ} → Denotes s (hex_integer v) (Integer (wrap (signed s v)))
  -- "zero fits": 0.0, or -0.0
  zero_fits : {l : Literal} → ByFraction s l → ValueIs l 0 (pos 0) → Denotes s l (Number (decimal s 0 (pos 0)))
  -- every other value of the set
  is_nearest : {l : Literal} {d : ℕ} {e : ℤ} → ByFraction s l → InSet l d e → Denotes s l (Number (decimal s d e))

-- the text t reads as the figure f
pub record Reads (t : List ℕ) (f : Figure) : Type 0 where
  pub sign : Bool
  pub literal : Literal
  pub form : FigureText t sign literal
  pub figure : Denotes sign literal f
