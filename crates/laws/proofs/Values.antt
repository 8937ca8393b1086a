-- What an instruction puts into a register is a value of this image. Assumes nothing.
use Prim.Native.Nat.{ℕ, ◌+◌, ◌<◌}
use mathlib.Core.Path.{◌≡◌, refl}
use mathlib.Core.Bool.{Bool, true, false, cond, beq}
use mathlib.Core.List.{List}
use lib.ListN.{get_or}
use Rattle.choices.proofs.Choices.{cond_cases}
use Rattle.storage.specs.Layout.{Storage, long_enough}
use Rattle.storage.specs.Fields.{prototypes_of, registers_of, instructions_of}
use Rattle.storage.specs.Stored.{reads_back}
use Rattle.constant.specs.Values.{is_value, value_of, truth, not_of}
use Rattle.constant.specs.Operators.{negate_of, bit_not_of}
use Rattle.comparison.specs.Comparison.{is_equal_of, less_than_of, less_equal_of}
use Rattle.constant.specs.declared.Value.{Value}
use Rattle.std.specs.Prelude.{Ok, Err}
use Rattle.comparison.specs.Comparison.{Compared}
use Rattle.checker.specs.Check.{limits_of}
use Rattle.checker.specs.declared.Unary.{Unary}
use Rattle.checker.specs.declared.Unary.TheVariants as unary
use Rattle.checker.specs.declared.Compare.{Compare}
use Rattle.checker.specs.declared.Compare.TheVariants as compare
use Rattle.checker.specs.declared.Instruction.{Instruction}
use Rattle.checker.specs.declared.Instruction.TheVariants as instruction
use Rattle.figures.specs.Figured.{figured_of}
use Rattle.effects.specs.Effects.{Sight, sight, operand_value, register_value, skip_if, decided, unary_effect, binary_answer, compare_effect, test_set_effect, effect_of}
use Rattle.fitness.specs.Fit.{decoded_at, value_fits, register_fits}
use Rattle.reach.specs.Within.{Within}
use Rattle.reach.proofs.Decoding.{decoded-within}
use Rattle.laws.specs.Holds.{Holds}
use Rattle.laws.proofs.Constants.{constant-fits}
use Rattle.laws.proofs.Operators.{stored-holds, prep_holds, loop-holds, negate-plain, bit-not-plain, binary_plain}

-- ---- a value that is always there

boolean_fits : (table kinds frames : List ℕ) (b : Bool) → value_fits table kinds frames 1 (cond b 1 0) ≡ true
unfolding value_fits is_value
boolean_fits table kinds frames true = refl
boolean_fits table kinds frames false = refl

-- ---- effects

module _ (S : Storage) (f : List ℕ) where
  -- what an operator takes a value for
  abbrev figured : Value → Value
  figured v = figured_of S.words S.texts v

  -- of a kind and a word that fit
  module _ (kind word : ℕ) (fits : value_fits S.table S.kinds f kind word ≡ true) where
    unary_holds : (u : Unary) (dest : ℕ) → Holds S f (unary_effect S.words S.texts u dest kind word)
    unfolding unary_effect
    unary_holds unary.Move dest = fits
    unary_holds unary.Not dest = stored-holds S f dest _ (Ok (not_of (value_of kind word))) tt
    unary_holds unary.Minus dest = stored-holds S f dest _ (negate_of (figured (value_of kind word))) (negate-plain (figured (value_of kind word)))
    unary_holds unary.BitNot dest = stored-holds S f dest _ (bit_not_of (figured (value_of kind word))) (bit-not-plain (figured (value_of kind word)))

    test-set-holds : (dest : ℕ) (byte : Bool) → Holds S f (test_set_effect dest byte kind word)
    unfolding test_set_effect
    test-set-holds dest byte = cond_cases (Holds S f) (beq (truth (value_of kind word)) byte) _ _ (λ e. tt) (λ e. fits)

  -- of those that put nothing into a register
  skip-holds : (b byte : Bool) → Holds S f (skip_if b byte)
  unfolding skip_if
  skip-holds b byte = tt

  decided-holds : (byte : Bool) (c : Compared) → Holds S f (decided byte c)
  unfolding decided
  decided-holds byte (Ok b) = skip-holds b byte
  decided-holds byte (Err e) = tt

  compare-holds : (words texts : List ℕ) (c : Compare) (byte : Bool) (a b : Value) → Holds S f (compare_effect words texts c byte a b)
  unfolding compare_effect
  compare-holds words texts compare.Eq byte a b = skip-holds (is_equal_of words texts a b) byte
  compare-holds words texts compare.Less byte a b = decided-holds byte (less_than_of words texts a b)
  compare-holds words texts compare.LessEq byte a b = decided-holds byte (less_equal_of words texts a b)

  -- ---- an instruction that names what is there

  module _
      (read : reads_back S ≡ true) (k w : List ℕ) (q base : ℕ) (there : q < prototypes_of S.table)
      (fits : (r : ℕ) → r < registers_of S.table q → register_fits S.table S.kinds f k w (base + r) ≡ true) where
    abbrev here : Sight
    here = sight S.table S.kinds S.words S.texts k w q base

    register-fits : (r : ℕ) → r < registers_of S.table q → value_fits S.table S.kinds f (get_or k (base + r) 0) (get_or w (base + r) 0) ≡ true
    unfolding register_fits
    register-fits r h = fits r h

    pub within-holds : (p : ℕ) (i : Instruction) → Within (limits_of S.table q) p i → Holds S f (effect_of here i)
    unfolding effect_of
    within-holds p (instruction.Unary u dest source) h = unary_holds _ _ (register-fits source h.1.0) u dest
    within-holds p (instruction.LoadConstant dest c) h = constant-fits S f read q c there h.1.0
    within-holds p (instruction.LoadBool dest b n) h = boolean_fits S.table S.kinds f b
    within-holds p (instruction.LoadNil dest n) h = tt
    within-holds p (instruction.Call function a r) h = tt
    within-holds p (instruction.Return s n) h = tt
    within-holds p (instruction.Jump t) h = tt
    within-holds p (instruction.Test r byte) h = skip-holds (truth (register_value here r)) byte
    within-holds p (instruction.TestSet dest source byte) h = test-set-holds _ _ (register-fits source h.1.0) dest byte
    within-holds p (instruction.Closure dest n) h = tt
    within-holds p (instruction.NumericForPrep b t) h = prep_holds S f (register_value here b) (register_value here (b + 2)) b t
    within-holds p (instruction.NumericForLoop b t) h =
        loop-holds S f (register_value here b) (register_value here (b + 1)) (register_value here (b + 2)) b t
    within-holds p (instruction.Compare c byte l r) h =
        compare-holds S.words S.texts c byte (operand_value here l) (operand_value here r)
    within-holds p (instruction.Binary o dest l r) h =
        stored-holds S f dest _ (binary_answer o (figured (operand_value here l)) (figured (operand_value here r)))
        (binary_plain o (figured (operand_value here l)) (figured (operand_value here r)))
    within-holds p (instruction.Bad n) h = tt
    within-holds p (instruction.GetUpValue dest u) h = tt
    within-holds p (instruction.SetUpValue u source) h = tt
    within-holds p (instruction.Close from t) h = tt

-- an instruction of this image, of a machine whose live registers hold values of it
pub effect_holds : (S : Storage) (f : List ℕ) → long_enough S ≡ true → reads_back S ≡ true → (k w : List ℕ) (q base p : ℕ) → q < prototypes_of S.table
    → ((r : ℕ) → r < registers_of S.table q → register_fits S.table S.kinds f k w (base + r) ≡ true)
    → p < instructions_of S.table q
    → Holds S f (effect_of (sight S.table S.kinds S.words S.texts k w q base) (decoded_at S.table S.code q p))
effect_holds S f long read k w q base p there fits h =
    within-holds S f read k w q base there fits p (decoded_at S.table S.code q p) (decoded-within S.table S.code q p)
