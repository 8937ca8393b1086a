-- What is shown of the grammar and of `figure_of`, each as a statement of its own; proofs/GrammarLaws has a proof of each. Assumes nothing.
use Rattle.std.specs.Prelude.{◌≡◌, ℕ, ◌^◌, Bool, true, ◌↔◌, List, ℤ, pos, ◌+ℤ◌, ◌*ℤ◌, neg_ℤ, ◌≤ℤ◌, ◌<ℤ◌, ◌≢◌, to_bits, Float, Some, None}
use Rattle.std.specs.Float.{binary64}
use Rattle.number.specs.Exact.{signed}
use Rattle.figures.specs.Decimal.{decimal}
use Rattle.figures.specs.Closest.{Closest}
use Rattle.figures.specs.Figures.{fits_integer, figure_of}
use Rattle.figures.specs.Grammar.{Literal, decimal_integer, hex_integer, FigureText, InSet, Reads}
use Rattle.figures.specs.declared.Figure.{Figure}
use Rattle.figures.specs.declared.Figure.TheVariants.{Integer, Number}

-- ---- both say the same

-- what is in the set is read so: hence one figure for a text
abbrev pub ReadSo : Type 0
ReadSo = (t : List ℕ) (f : Figure) → Reads t f → figure_of t ≡ Some f

-- and nothing else is read
abbrev pub NothingElse : Type 0
NothingElse = (t : List ℕ) (f : Figure) → figure_of t ≡ Some f → Reads t f

-- ---- what follows

-- "a string outside the set": None, and nothing else is
abbrev pub Outside : List ℕ → Type 0
Outside t = (f : Figure) → Reads t f → ⊥

abbrev pub OutsideNone : Type 0
OutsideNone = (t : List ℕ) → Outside t ↔ (figure_of t ≡ None)

-- "A string that reads as an integer stays an integer"
abbrev pub IntegerStays : Type 0
IntegerStays = (t : List ℕ) (s : Bool) (v : ℕ) → FigureText t s (decimal_integer v) → fits_integer s v ≡ true → figure_of t ≡ Some (Integer (signed s v))

-- "0x ones wrap": the i64 that differs from the value with its sign by a multiple of 2 ^ 64
pub record WrapsTo (t : List ℕ) (z : ℤ) : Type 0 where
  pub x : ℤ
  pub times : ℤ
  pub read_as : figure_of t ≡ Some (Integer x)
  pub not_below : neg_ℤ (pos (2 ^ 63)) ≤ℤ x
  pub not_past : x <ℤ pos (2 ^ 63)
  pub away : x ≡ z +ℤ pos (2 ^ 64) *ℤ times

abbrev pub HexModulo : Type 0
HexModulo = (t : List ℕ) (s : Bool) (v : ℕ) → FigureText t s (hex_integer v) → WrapsTo t (signed s v)

-- "Prove the fraction nearest, ties to even, as a fact about whole numbers (digits, power of ten, bits)": the text says ± d × 10 ^ e, which is of the set,
-- and no number is nearer to that than x
pub record ReadNearest (t : List ℕ) (x : Float) : Type 0 where
  pub sign : Bool
  pub literal : Literal
  pub d : ℕ
  pub e : ℤ
  pub form : FigureText t sign literal
  pub in_set : InSet literal d e
  pub rounded : x ≡ decimal sign d e
  pub closest : Closest sign d e (to_bits binary64 x)

-- of every text that reads as a number other than 0.0 and -0.0
abbrev pub FractionNearest : Type 0
FractionNearest = (t : List ℕ) (x : Float) → Reads t (Number x) → ((s : Bool) → x ≢ decimal s 0 (pos 0)) → ReadNearest t x
