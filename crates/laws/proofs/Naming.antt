-- What an effect says of its instruction: only a Call enters, only a Return leaves, only a Closure captures, and in an accepted image none faults. Assumes nothing.
use mathlib.Core.Path.{◌≡◌, refl, sym, ◌∙◌}
use mathlib.Core.Bool.{Bool, true, beq, false≢true}
use mathlib.Core.List.{List}
use Prim.Native.Nat.{ℕ, ◌<◌}
use borrow.Author.Tests.{lt-ltb}
use lib.Dec.{eqb}
use Rattle.choices.proofs.Choices.{cond_cases}
use Rattle.storage.specs.Layout.{Storage}
use Rattle.storage.specs.Fields.{prototypes_of, instructions_of}
use Rattle.constant.specs.Values.{truth, value_of}
use Rattle.constant.specs.Named.{first_unfit}
use Rattle.constant.specs.Operators.{is_numeric, add_of, subtract_of}
use Rattle.comparison.specs.Comparison.{less_than_of, less_equal_of, past_end_of}
use Rattle.constant.specs.declared.Value.{Value}
use Rattle.std.specs.Prelude.{Ok, Err}
use Rattle.constant.specs.Operators.{Answer}
use Rattle.comparison.specs.Comparison.{Compared}
use Rattle.checker.specs.Operations.{shape_at}
use Rattle.checker.specs.Decode.{decode_of, class_of}
use Rattle.checker.specs.Check.{site_of}
use Rattle.checker.specs.Kept.{Kept, Demanded}
use Rattle.checker.specs.declared.Site.{Site}
use Rattle.checker.specs.declared.Unary.{Unary}
use Rattle.checker.specs.declared.Unary.TheVariants as unary
use Rattle.checker.specs.declared.Compare.{Compare}
use Rattle.checker.specs.declared.Compare.TheVariants as compare
use Rattle.checker.specs.declared.Instruction.{Instruction}
use Rattle.checker.specs.declared.Instruction.TheVariants as instruction
use Rattle.checker.proofs.Lowest.{unbroken, not_carried}
use Rattle.effects.specs.declared.Go.{Go}
use Rattle.effects.specs.declared.Go.TheVariants.{To}
use Rattle.effects.specs.declared.Effect.{Effect}
use Rattle.effects.specs.declared.Effect.TheVariants.{Set, Goto, Clear, Loop, Enter, Leave, Fail, Fault, Get, Put, Close, Capture}
use Rattle.effects.specs.Effects.{Sight, stored, skip_if, decided, unary_effect, compare_effect, test_set_effect, prep_effect, loop_with, loop_effect, effect_of}
use Rattle.fitness.specs.Fit.{is_call, is_return, decoded_at}

-- ---- an instruction that keeps the rules

abbrev pub Good : Instruction → Type 0
Good i = (n : ℕ) → i ≡ instruction.Bad n → ⊥

decode-good : (s : Site) → Kept s → Good (decode_of s)
unfolding decode_of
decode-good s k =
    rw (unbroken s k) (λ n e. false≢true (sym (not_carried (shape_at s.word) s n e) ∙ k.carried))

pub decoded-good :
    (S : Storage) → Demanded S → (q p : ℕ) → q < prototypes_of S.table → p < instructions_of S.table q
    → Good (decoded_at S.table S.code q p)
unfolding decoded_at
decoded-good S d q p h g =
    rw (lt-ltb p (instructions_of S.table q) g)
    (decode-good (site_of S.table S.code q p) ((d.each q h).each p g))

-- ---- the instruction that an effect tells of

abbrev pub Tells : Instruction → Effect → Type 0
Tells i (Set r k w go) = Unit {0}
Tells i (Goto go) = Unit {0}
Tells i (Clear r n) = Unit {0}
Tells i (Loop r k w t) = Unit {0}
Tells i (Enter function arguments) = is_call (class_of i) ≡ true
Tells i (Leave start n) = is_return (class_of i) ≡ true
Tells i (Fail n named) = Unit {0}
Tells i Fault = ⊥
Tells i (Get dest upvalue) = Unit {0}
Tells i (Put upvalue source) = Unit {0}
Tells i (Close from target) = Unit {0}
Tells i (Capture dest q) = i ≡ instruction.Closure dest q

module _ (i : Instruction) where
  stored-tells : (r : ℕ) (go : Go) (a : Answer) → Tells i (stored r go a)
  unfolding stored
  stored-tells r go (Ok v) = tt
  stored-tells r go (Err e) = tt

  decided-tells : (b : Bool) (c : Compared) → Tells i (decided b c)
  unfolding decided skip_if
  decided-tells b (Ok d) = tt
  decided-tells b (Err e) = tt

  unary_tells : (words texts : List ℕ) (u : Unary) (r k w : ℕ) → Tells i (unary_effect words texts u r k w)
  unfolding unary_effect
  unary_tells words texts unary.Move r k w = tt
  unary_tells words texts unary.Not r k w = stored-tells r _ _
  unary_tells words texts unary.Minus r k w = stored-tells r _ _
  unary_tells words texts unary.BitNot r k w = stored-tells r _ _

  compare-tells : (w x : List ℕ) (c : Compare) (b : Bool) (l r : Value) → Tells i (compare_effect w x c b l r)
  unfolding compare_effect skip_if
  compare-tells w x compare.Eq b l r = tt
  compare-tells w x compare.Less b l r = decided-tells b (less_than_of w x l r)
  compare-tells w x compare.LessEq b l r = decided-tells b (less_equal_of w x l r)

  test-set-tells : (d : ℕ) (b : Bool) (k w : ℕ) → Tells i (test_set_effect d b k w)
  unfolding test_set_effect
  test-set-tells d b k w = cond_cases (Tells i) (beq (truth (value_of k w)) b) _ _ (λ _. tt) (λ _. tt)

  loop-with-tells : (limit step : Value) (r t : ℕ) (a : Answer) → Tells i (loop_with limit step r t a)
  unfolding loop_with
  loop-with-tells limit step r t (Ok v) = cond_cases (Tells i) (past_end_of v limit step) _ _ (λ _. tt) (λ _. tt)
  loop-with-tells limit step r t (Err e) = tt

  prep_tells : (index step : Value) (r t : ℕ) → Tells i (prep_effect index step r t)
  unfolding prep_effect
  prep_tells index step r t =
      cond_cases (Tells i) (eqb (first_unfit (is_numeric index) true (is_numeric step)) 0) _ _
      (λ _. stored-tells r (To t) (subtract_of index step)) (λ _. tt)

  loop-tells : (index limit step : Value) (r t : ℕ) → Tells i (loop_effect index limit step r t)
  unfolding loop_effect
  loop-tells index limit step r t =
      cond_cases (Tells i) (eqb (first_unfit (is_numeric index) (is_numeric limit) (is_numeric step)) 0) _ _
      (λ _. loop-with-tells limit step r t (add_of index step)) (λ _. tt)

pub effect_tells : (g : Sight) (i : Instruction) → Good i → Tells i (effect_of g i)
unfolding effect_of skip_if
effect_tells g (instruction.Unary u d s) n = unary_tells (instruction.Unary u d s) g.const_words g.texts u d _ _
effect_tells g (instruction.LoadConstant d c) n = tt
effect_tells g (instruction.LoadBool d b to) n = tt
effect_tells g (instruction.LoadNil d m) n = tt
effect_tells g (instruction.Call f a r) n = refl
effect_tells g (instruction.Return s m) n = refl
effect_tells g (instruction.Jump t) n = tt
effect_tells g (instruction.Test r b) n = tt
effect_tells g (instruction.TestSet d r b) n = test-set-tells (instruction.TestSet d r b) d b _ _
effect_tells g (instruction.Closure d q) n = refl
effect_tells g (instruction.NumericForPrep b t) n = prep_tells (instruction.NumericForPrep b t) _ _ b t
effect_tells g (instruction.NumericForLoop b t) n = loop-tells (instruction.NumericForLoop b t) _ _ _ b t
effect_tells g (instruction.Compare c b l r) n = compare-tells (instruction.Compare c b l r) _ _ c b _ _
effect_tells g (instruction.Binary o d l r) n = stored-tells (instruction.Binary o d l r) d _ _
effect_tells g (instruction.Bad m) n = absurd (n m refl)
effect_tells g (instruction.GetUpValue d u) n = tt
effect_tells g (instruction.SetUpValue u s) n = tt
effect_tells g (instruction.Close f t) n = tt
