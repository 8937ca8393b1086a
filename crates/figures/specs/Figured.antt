-- "conversion for arithmetic and bit operations": a string that reads as a figure becomes that integer or number before the operator looks at it; every other
-- value stays as it is. "A string that reads as an integer stays an integer", and "a string outside the set keeps the operator's error", since the operators
-- take no string. Assumes nothing.
use Rattle.std.specs.Prelude.{ℕ, List, Option, Some, None}
use Rattle.constant.specs.Values.{text_of}
use Rattle.constant.specs.declared.Value.{Value}
use Rattle.constant.specs.declared.Value.TheVariants as value
use Rattle.figures.specs.Figures.{figure_of}
use Rattle.figures.specs.declared.Figure.{Figure}
use Rattle.figures.specs.declared.Figure.TheVariants.{Integer, Number}

-- what the string with constant n becomes, where its text reads so
abbrev pub read_as : ℕ → Option Figure → Value
read_as n (Some (Integer x)) = value.Integer x
read_as n (Some (Number x)) = value.Number x
read_as n None = value.String n

abbrev pub figured_of : List ℕ → List ℕ → Value → Value
figured_of words texts value.Nil = value.Nil
figured_of words texts (value.Boolean b) = value.Boolean b
figured_of words texts (value.Integer x) = value.Integer x
figured_of words texts (value.Number x) = value.Number x
figured_of words texts (value.String n) = read_as n (figure_of (text_of words texts n))
figured_of words texts (value.Function n) = value.Function n
