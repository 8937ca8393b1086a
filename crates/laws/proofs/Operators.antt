-- What an operator answers is a boolean, an integer or a number, so it is a value of any image. Assumes nothing.
use Prim.Native.Nat.{ℕ}
use mathlib.Core.Path.{◌≡◌, refl}
use mathlib.Core.Bool.{true, false}
use mathlib.Core.List.{List}
use lib.Dec.{eqb}
use lib.IntN.{ℤ}
use lib.Ieee.{Float}
use Rattle.choices.proofs.Choices.{cond_cases}
use Rattle.integer.specs.Floor.{quotient, modulus}
use Rattle.std.specs.Prelude.{Option, Some, None, Ok, Err}
use Rattle.constant.specs.Values.{kind_of, word_of, is_value}
use Rattle.constant.specs.Named.{first_unfit}
use Rattle.constant.specs.Operators.{is_numeric, unfit_numeric, unfit_whole, operands, arithmetic, divided, negate_of, whole_of, integers, bitwise, not_whole, bit_not_of, add_of, subtract_of}
use Rattle.comparison.specs.Comparison.{past_end_of}
use Rattle.constant.specs.declared.Value.{Value}
use Rattle.constant.specs.declared.Value.TheVariants.{Nil, Boolean, Integer, Number, String, Function}
use Rattle.constant.specs.declared.BinaryOperatorError.{BinaryOperatorError}
use Rattle.constant.specs.Operators.{Answer}
use Rattle.constant.specs.declared.Operands.{Operands}
use Rattle.constant.specs.declared.Operands.TheVariants as operand
use Rattle.checker.specs.declared.Binary.{Binary}
use Rattle.checker.specs.declared.Binary.TheVariants as binary
use Rattle.storage.specs.Layout.{Storage}
use Rattle.effects.specs.Effects.{binary_answer, stored, prep_effect, loop_with, loop_effect}
use Rattle.effects.specs.declared.Go.{Go}
use Rattle.fitness.specs.Fit.{value_fits}
use Rattle.laws.specs.Holds.{Holds}

-- ---- a boolean, an integer or a number

abbrev pub Plain : Value → Type 0
Plain Nil = ⊥
Plain (Boolean b) = Unit {0}
Plain (Integer x) = Unit {0}
Plain (Number x) = Unit {0}
Plain (String n) = ⊥
Plain (Function n) = ⊥

pub plain_fits : (table kinds frames : List ℕ) (v : Value) → Plain v → value_fits table kinds frames (kind_of v) (word_of v) ≡ true
unfolding value_fits is_value
plain_fits table kinds frames Nil p = absurd p
plain_fits table kinds frames (Boolean true) p = refl
plain_fits table kinds frames (Boolean false) p = refl
plain_fits table kinds frames (Integer x) p = refl
plain_fits table kinds frames (Number x) p = refl
plain_fits table kinds frames (String n) p = absurd p
plain_fits table kinds frames (Function n) p = absurd p

-- ---- the operators

abbrev pub PlainAnswer : Answer → Type 0
PlainAnswer (Ok v) = Plain v
PlainAnswer (Err e) = Unit {0}

arithmetic-plain : (f : ℤ → ℤ → Answer) (g : Float → Float → Float) (e : BinaryOperatorError) (a b : Value) → ((x y : ℤ) → PlainAnswer (f x y))
    → (o : Option Operands) → PlainAnswer (arithmetic f g (unfit_numeric e a b) o)
arithmetic-plain f g e a b h (Some (operand.Integers x y)) = h x y
arithmetic-plain f g e a b h (Some (operand.Numbers x y)) = tt
arithmetic-plain f g e a b h None = tt

divided-plain : (d : Option ℤ) (e : BinaryOperatorError) → PlainAnswer (divided d e)
divided-plain (Some q) e = tt
divided-plain None e = tt

bitwise-plain : (f : ℤ → ℤ → ℤ) (e : BinaryOperatorError) (a b : Value) (i : Option (ℤ × ℤ)) → PlainAnswer (bitwise f (unfit_whole e a b) i)
bitwise-plain f e a b (Some (x, y)) = tt
bitwise-plain f e a b None = tt

pub negate-plain : (v : Value) → PlainAnswer (negate_of v)
negate-plain Nil = tt
negate-plain (Boolean b) = tt
negate-plain (Integer x) = tt
negate-plain (Number x) = tt
negate-plain (String n) = tt
negate-plain (Function n) = tt

whole_plain : (w : Option ℤ) → PlainAnswer (not_whole w)
whole_plain (Some x) = tt
whole_plain None = tt

pub bit-not-plain : (v : Value) → PlainAnswer (bit_not_of v)
bit-not-plain v = whole_plain (whole_of v)

pub add-plain : (a b : Value) → PlainAnswer (add_of a b)
add-plain a b = arithmetic-plain _ _ _ a b (λ x y. tt) (operands a b)

pub subtract-plain : (a b : Value) → PlainAnswer (subtract_of a b)
subtract-plain a b = arithmetic-plain _ _ _ a b (λ x y. tt) (operands a b)

pub binary_plain : (o : Binary) (a b : Value) → PlainAnswer (binary_answer o a b)
unfolding binary_answer
binary_plain binary.Add a b = add-plain a b
binary_plain binary.Sub a b = subtract-plain a b
binary_plain binary.Mul a b = arithmetic-plain _ _ _ a b (λ x y. tt) (operands a b)
binary_plain binary.Div a b = arithmetic-plain _ _ _ a b (λ x y. tt) (operands a b)
binary_plain binary.IDiv a b = arithmetic-plain _ _ _ a b (λ x y. divided-plain (quotient x y) _) (operands a b)
binary_plain binary.Mod a b = arithmetic-plain _ _ _ a b (λ x y. divided-plain (modulus x y) _) (operands a b)
binary_plain binary.BitAnd a b = bitwise-plain _ _ a b (integers a b)
binary_plain binary.BitOr a b = bitwise-plain _ _ a b (integers a b)
binary_plain binary.BitXor a b = bitwise-plain _ _ a b (integers a b)
binary_plain binary.ShiftLeft a b = bitwise-plain _ _ a b (integers a b)
binary_plain binary.ShiftRight a b = bitwise-plain _ _ a b (integers a b)

-- ---- their effects

module _ (S : Storage) (f : List ℕ) where
  pub stored-holds : (dest : ℕ) (go : Go) (a : Answer) → PlainAnswer a → Holds S f (stored dest go a)
  unfolding stored
  stored-holds dest go (Ok v) p = plain_fits S.table S.kinds f v p
  stored-holds dest go (Err e) p = tt

  pub prep_holds : (index step : Value) (base target : ℕ) → Holds S f (prep_effect index step base target)
  unfolding prep_effect
  prep_holds index step base target =
      cond_cases (Holds S f) (eqb (first_unfit (is_numeric index) true (is_numeric step)) 0) _ _
      (λ e. stored-holds base _ (subtract_of index step) (subtract-plain index step)) (λ e. tt)

  turn_holds : (limit step : Value) (base target : ℕ) (a : Answer) → PlainAnswer a → Holds S f (loop_with limit step base target a)
  unfolding loop_with
  turn_holds limit step base target (Ok v) p =
      let h = plain_fits S.table S.kinds f v p in
      cond_cases (Holds S f) (past_end_of v limit step) _ _ (λ e. h) (λ e. h)
  turn_holds limit step base target (Err e) p = tt

  pub loop-holds : (index limit step : Value) (base target : ℕ) → Holds S f (loop_effect index limit step base target)
  unfolding loop_effect
  loop-holds index limit step base target =
      cond_cases (Holds S f) (eqb (first_unfit (is_numeric index) (is_numeric limit) (is_numeric step)) 0) _ _
      (λ e. turn_holds limit step base target (add_of index step) (add-plain index step)) (λ e. tt)
