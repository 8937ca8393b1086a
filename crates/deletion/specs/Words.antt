-- What a word of the command line stands for. As an argument: nil, true and false by their names; a figure, read as document 02 reads one in a string (1/12), is
-- that integer or number; every other word stays a string, which no start takes (20). As a budget: an integer from 0 to 4,294,967,295. Assumes nothing.
use Rattle.std.specs.Prelude.{ℕ, ◌^◌, Bool, true, false, cond, List, [], ◌∷◌, ltb, Option, Some, None}
use Rattle.std.specs.Int.{w64}
use Rattle.std.proofs.Common.{of_z}
use Rattle.std.specs.Ordering.{is_eq}
use Rattle.constant.specs.declared.Value.{Value}
use Rattle.constant.specs.declared.Value.TheVariants as value
use Rattle.comparison.specs.Comparison.{text_order}
use Rattle.figures.specs.Figures.{figure_of}
use Rattle.figures.specs.Figured.{read_as}

-- ---- an argument

-- whether a word has just the bytes of a name
abbrev pub says : List ℕ → List ℕ → Bool
says name word = is_eq (text_order word name)

-- the names, in ASCII
abbrev pub nil_word : List ℕ
nil_word = 110 ∷ 105 ∷ 108 ∷ []

abbrev pub true_word : List ℕ
true_word = 116 ∷ 114 ∷ 117 ∷ 101 ∷ []

abbrev pub false_word : List ℕ
false_word = 102 ∷ 97 ∷ 108 ∷ 115 ∷ 101 ∷ []

unfoldable pub argument_of : List ℕ → Value
argument_of word =
    cond (says nil_word word) value.Nil
    (cond (says true_word word) (value.Boolean true)
    (cond (says false_word word) (value.Boolean false) (read_as 0 (figure_of word))))

-- ---- a budget

unfoldable pub small_of : ℕ → Option ℕ
small_of n = cond (ltb n (2 ^ 32)) (Some n) None

-- of an integer below 0 the 64 bits are 2 ^ 63 or more
abbrev pub allowed_of : Value → Option ℕ
allowed_of (value.Integer x) = small_of (of_z w64 x)
allowed_of _ = None

abbrev pub budget_of : List ℕ → Option ℕ
budget_of word = allowed_of (read_as 0 (figure_of word))
