-- Document 02, 5/12: whom an operator error names, of an instruction and of a run. Assumes nothing.
use mathlib.Core.Path.{◌≡◌, refl, sym, ap, ◌∙◌, subst}
use mathlib.Core.Bool.{Bool, true, false, false≢true}
use mathlib.Core.List.{List}
use Prim.Native.Nat.{ℕ, ◌+◌, ◌-◌, ◌<◌, ◌≤◌}
use native.Mathlib.Omega.{arith}
use borrow.Author.Tests.{le-leb, eqb-true, eqb-false}
use lib.Dec.{eqb, leb, ltb}
use lib.ListN.{get_or}
use Rattle.choices.proofs.Choices.{by_bool, by_order, cond_cases}
use Rattle.storage.specs.Layout.{Storage}
use Rattle.storage.specs.Fields.{registers_of}
use Rattle.checker.specs.Decode.{binary_of, left_operand}
use Rattle.checker.specs.declared.Class.{Class}
use Rattle.checker.specs.declared.Class.TheVariants.{Calls, Returns, Other}
use Rattle.checker.specs.declared.Unary.{Unary}
use Rattle.checker.specs.declared.Unary.TheVariants as unary
use Rattle.checker.specs.declared.Compare.{Compare}
use Rattle.checker.specs.declared.Compare.TheVariants as compare
use Rattle.checker.specs.declared.Binary.{Binary}
use Rattle.checker.specs.declared.Binary.TheVariants as binary
use Rattle.checker.specs.declared.Instruction.{Instruction}
use Rattle.checker.specs.declared.Instruction.TheVariants as instruction
use Rattle.constant.specs.Named.{first_unfit}
use Rattle.constant.specs.declared.Value.{Value}
use Rattle.effects.specs.Effects.{Sight, register_value, operand_value, binary_answer, effect_of}
use Rattle.effects.specs.Raising.{Raised, raising, nothing_raised, raised_by, Fitness, fitness, is_fit, named_in, unary_fitness, binary_fitness, compare_fitness, figure_in, loop_fitness, prep_fitness, fitness_of, unary_number, binary_number, compare_number, is_integer, is_zero_integer, dividing, by_zero, raised_for, raised_of}
use Rattle.effects.specs.declared.Effect.{Effect}
use Rattle.effects.specs.declared.Effect.TheVariants.{Set, Goto, Clear, Loop, Enter, Leave, Fail, Fault, Get, Put, Close, Capture}
use Rattle.effects.proofs.Raises.{raises, first-named}
use Rattle.fitness.specs.Fit.{fit_of, decoded_at}
use Rattle.state.specs.Marks.{is_lua_error}
use Rattle.state.specs.Frames.{operand_in}
use Rattle.state.specs.Record.{innermost}
use Rattle.state.specs.Steady.{Steady}
use Rattle.state.specs.declared.Activation.{Activation}
use Rattle.state.specs.States.{State}
use Rattle.state.proofs.Marks.{error_stands, error_no-fault}
use Rattle.state.proofs.Fields.{mark-operand}
use Rattle.cells.specs.Cells.{entry_in}
use Rattle.cells.proofs.Opening.{refusal-cases}
use Rattle.fitness.proofs.Facts.{fit-facts}
use Rattle.state.proofs.Inmost.{marked-innermost}
use Rattle.step.specs.Step.{Turn, on, stop, fault, marked, caller_of, enter_of, back_of, leave_of, moved_on, close_of, capture_of, carried_out, effect_at, step_of}
use Rattle.step.specs.Run.{Ended, ended, kept_for, answer_of, standing_of, run_of}
use Rattle.step.proofs.Runs.{fit_steady, standing_on}
use Rattle.step.proofs.Steps.{steady_on}
use Rattle.worked.specs.Computing.{machine_computes}
use Rattle.laws.specs.Statements.{Steps, none, more, Counted, stood, spent, stopped, faulted, LuaError}
use Rattle.laws.specs.Operands.{RaisesAsSaid, FirstUnfitNamed, ZeroNamed, UnfitRaises, sight_of, NamedInRuns, again, AnsweredAgain, NilNamed}
use Rattle.laws.proofs.Counts.{counted}
use Rattle.laws.proofs.Marks.{marks}
use Rattle.laws.proofs.Splits as splits

pub raises_as_said : RaisesAsSaid
raises_as_said = raises

-- ---- an instruction

-- where nothing is named, every operand is fit
fits_all : (a b c : Bool) → first_unfit a b c ≡ 0 → (j : ℕ) → is_fit (fitness a b c) j ≡ true
unfolding is_fit
fits_all true true true e j =
    by_bool (eqb j 1) (λ x. rw x) (λ x. rw x (by_bool (eqb j 2) (λ y. rw y) (λ y. rw y (by_bool (eqb j 3) (λ z. rw z) (λ z. rw z)))))
fits_all true true false e j = absurd (omega arith)
fits_all true false c e j = absurd (omega arith)
fits_all false b c e j = absurd (omega arith)

all_fit : (f : Fitness) → named_in f ≡ 0 → (j : ℕ) → is_fit f j ≡ true
unfolding is_fit
all_fit f e j = fits_all f.first f.second f.third e j

-- there is no operand 0
none_unfit : (f : Fitness) → is_fit f 0 ≡ true
unfolding is_fit
none_unfit f = refl

-- the three things that can be raised where the operands are as fit as f says
data Case (f : Fitness) : Raised → Type 0 where
  unfit : (number : ℕ) → number ≤ 44 → (named_in f ≡ 0 → ⊥) → Case f (raising number (named_in f))
  zero : (number : ℕ) → 45 ≤ number → named_in f ≡ 0 → Case f (raising number 2)
  nothing : named_in f ≡ 0 → Case f nothing_raised

for_case : (f : Fitness) (number : ℕ) (otherwise : Raised) → number ≤ 44 → (named_in f ≡ 0 → Case f otherwise) → Case f (raised_for f number otherwise)
for_case f number otherwise l h =
    by_bool (eqb (named_in f) 0) (λ z. rw z (h (eqb-true (named_in f) 0 z))) (λ z. rw z (unfit number l (eqb-false (named_in f) 0 z)))

dividing_case : (f : Fitness) (number : ℕ) (a b : Value) → 45 ≤ number → named_in f ≡ 0 → Case f (dividing number a b)
dividing_case f number a b l h =
    cond_cases (Case f) (is_integer a) _ _
    (λ _. cond_cases (Case f) (is_zero_integer b) _ _ (λ _. zero number l h) (λ _. nothing h)) (λ _. nothing h)

zero_case : (f : Fitness) (o : Binary) (a b : Value) → named_in f ≡ 0 → Case f (by_zero o a b)
zero_case f binary.Add a b h = nothing h
zero_case f binary.Sub a b h = nothing h
zero_case f binary.Mul a b h = nothing h
zero_case f binary.Div a b h = nothing h
zero_case f binary.IDiv a b h = dividing_case f 45 a b (omega arith) h
zero_case f binary.Mod a b h = dividing_case f 46 a b (omega arith) h
zero_case f binary.BitAnd a b h = nothing h
zero_case f binary.BitOr a b h = nothing h
zero_case f binary.BitXor a b h = nothing h
zero_case f binary.ShiftLeft a b h = nothing h
zero_case f binary.ShiftRight a b h = nothing h

unary_low : (u : Unary) → unary_number u ≤ 44
unary_low unary.Move = omega arith
unary_low unary.Not = omega arith
unary_low unary.Minus = omega arith
unary_low unary.BitNot = omega arith

compare-low : (c : Compare) → compare_number c ≤ 44
compare-low compare.Eq = omega arith
compare-low compare.Less = omega arith
compare-low compare.LessEq = omega arith

binary_low : (o : Binary) → binary_number o ≤ 44
binary_low binary.Add = omega arith
binary_low binary.Sub = omega arith
binary_low binary.Mul = omega arith
binary_low binary.Div = omega arith
binary_low binary.IDiv = omega arith
binary_low binary.Mod = omega arith
binary_low binary.BitAnd = omega arith
binary_low binary.BitOr = omega arith
binary_low binary.BitXor = omega arith
binary_low binary.ShiftLeft = omega arith
binary_low binary.ShiftRight = omega arith

-- an instruction a line
raised_case : (g : Sight) (i : Instruction) → Case (fitness_of g i) (raised_of g i)
unfolding fitness_of raised_of
raised_case g (instruction.Unary u dest source) =
    for_case (unary_fitness u (figure_in g (register_value g source))) (unary_number u) nothing_raised (unary_low u) (λ h. nothing h)
raised_case g (instruction.LoadConstant dest c) = nothing refl
raised_case g (instruction.LoadBool dest b next) = nothing refl
raised_case g (instruction.LoadNil dest n) = nothing refl
raised_case g (instruction.Call function arguments returns) = nothing refl
raised_case g (instruction.Return start n) = nothing refl
raised_case g (instruction.Jump target) = nothing refl
raised_case g (instruction.Test r byte) = nothing refl
raised_case g (instruction.TestSet dest source byte) = nothing refl
raised_case g (instruction.Closure dest q) = nothing refl
raised_case g (instruction.NumericForPrep base target) = for_case (prep_fitness g base) 31 nothing_raised (omega arith) (λ h. nothing h)
raised_case g (instruction.NumericForLoop base target) = for_case (loop_fitness g base) 30 nothing_raised (omega arith) (λ h. nothing h)
raised_case g (instruction.Compare c byte l r) =
    for_case (compare_fitness c (operand_value g l) (operand_value g r)) (compare_number c) nothing_raised (compare-low c) (λ h. nothing h)
raised_case g (instruction.Binary o dest l r) =
    let a = figure_in g (operand_value g l) in
    let b = figure_in g (operand_value g r) in
    for_case (binary_fitness o a b) (binary_number o) (by_zero o a b) (binary_low o) (λ h. zero_case (binary_fitness o a b) o a b h)
raised_case g (instruction.Bad n) = nothing refl
raised_case g (instruction.GetUpValue dest u) = nothing refl
raised_case g (instruction.SetUpValue u source) = nothing refl
raised_case g (instruction.Close from target) = nothing refl

-- what each of them says of the number and the operand

abbrev FirstIn : Fitness → ℕ → Type 0
FirstIn f k = (is_fit f k ≡ false) × ((j : ℕ) → 1 ≤ j → j < k → is_fit f j ≡ true)

first_in : (f : Fitness) (r : Raised) → Case f r → 30 ≤ r.number → r.number ≤ 44 → FirstIn f r.named
first_in f r (unfit number l h) x y = first-named f h
first_in f r (zero number l h) x y = absurd (omega arith)
first_in f r (nothing h) x y = absurd (omega arith)

zero_in : (f : Fitness) (r : Raised) → Case f r → 45 ≤ r.number → (r.named ≡ 2) × ((j : ℕ) → is_fit f j ≡ true)
zero_in f r (unfit number l h) x = absurd (omega arith)
zero_in f r (zero number l h) x = (refl, all_fit f h)
zero_in f r (nothing h) x = absurd (omega arith)

unfit_in : (f : Fitness) (r : Raised) → Case f r → (j : ℕ) → is_fit f j ≡ false → (1 ≤ r.named) × (r.named ≤ j)
unfit_in f r (unfit number l h) j e = (
  omega (arith, h),
  by_order (named_in f) j (λ x. x)
      (λ x. by_order 1 j (λ y. absurd (false≢true (sym e ∙ (first-named f h).1 j y x)))
      (λ y. let z : j ≡ 0 = omega arith in absurd (false≢true (sym (rw z at e) ∙ none_unfit f)))),
)
unfit_in f r (zero number l h) j e = absurd (false≢true (sym e ∙ all_fit f h j))
unfit_in f r (nothing h) j e = absurd (false≢true (sym e ∙ all_fit f h j))

-- what an effect that fails raises
failed-raised : (g : Sight) (i : Instruction) (n k : ℕ) → effect_of g i ≡ Fail n k → raising n k ≡ raised_of g i
unfolding raised_by
failed-raised g i n k e = sym (ap raised_by e) ∙ raises g i

pub first_unfit_named : FirstUnfitNamed
first_unfit_named g i n k e x y =
    let r = failed-raised g i n k e in
    first_in (fitness_of g i) (raising n k) (subst (Case (fitness_of g i)) (sym r) (raised_case g i)) x y

pub zero-named : ZeroNamed
zero-named g i n k e x =
    let r = failed-raised g i n k e in
    zero_in (fitness_of g i) (raising n k) (subst (Case (fitness_of g i)) (sym r) (raised_case g i)) x

pub unfit_raises : UnfitRaises
unfit_raises g i j e =
    unfit_in (fitness_of g i) (raised_by (effect_of g i)) (subst (Case (fitness_of g i)) (sym (raises g i)) (raised_case g i)) j e

-- ---- a step that stops with an operator error

-- e failed with n and the operand, and u is s marked so
record FailedBy (n : ℕ) (s : State) (e : Effect) (u : State) : Type 0 where
  operand : ℕ
  effect : e ≡ Fail n operand
  same : u ≡ marked n operand s

abbrev Failing : State → Effect → Turn → Type 0
Failing s e (on u) = Unit {0}
Failing s e (stop n u) = 30 ≤ n → n ≤ 46 → FailedBy n s e u
Failing s e (fault u) = Unit {0}

module _ (table code : List ℕ) (a : Activation) (s : State) where
  enter-failing : (function arguments : ℕ) → Failing s (Enter function arguments) (enter_of table a s function arguments)
  unfolding enter_of
  enter-failing function arguments =
      let F = Failing s (Enter function arguments) in
      let q = entry_in s.frames (get_or s.words (a.base + function) 0) - 1 in
      cond_cases F (eqb (get_or s.kinds (a.base + function) 0) 5) _ _
      (λ _. cond_cases F (leb 16 a.depth) _ _ (λ _ x y. absurd (omega arith))
      (λ _. cond_cases F
      (ltb 2048 (a.base + registers_of table a.prototype + registers_of table q)) _ _
      (λ _ x y. absurd (omega arith)) (λ _. tt)))
      (λ _ x y. absurd (omega arith))

  back-failing : (b : Activation) (start n : ℕ) (c : Class) → Failing s (Leave start n) (back_of a b s start n c)
  unfolding back_of
  back-failing b start n (Calls function returns) = tt
  back-failing b start n (Returns r m) = tt
  back-failing b start n Other = tt

  leave-failing : (start n : ℕ) → Failing s (Leave start n) (leave_of table code a s start n)
  unfolding leave_of
  leave-failing start n =
      cond_cases (Failing s (Leave start n)) (leb a.depth 1) _ _ (λ _ x y. absurd (omega arith))
      (λ _. back-failing (caller_of table s.frames a) start n _)

  capture-failing : (dest q : ℕ) → Failing s (Capture dest q) (capture_of table a s dest q)
  unfolding capture_of
  capture-failing dest q =
      refusal-cases table q a.base s.frames (λ e. rw e tt) (λ e. rw e (λ x y. absurd (omega arith))) (λ e. rw e (λ x y. absurd (omega arith)))

  failing : (e : Effect) → Failing s e (carried_out table code a s e)
  unfolding carried_out moved_on close_of
  failing (Set r k w go) = tt
  failing (Goto go) = tt
  failing (Clear r n) = tt
  failing (Loop r k w t) = tt
  failing (Enter function arguments) = enter-failing function arguments
  failing (Leave start n) = leave-failing start n
  failing (Fail n operand) = λ _ _. record { operand = operand; effect = refl; same = refl }
  failing Fault = tt
  failing (Get dest u) = tt
  failing (Put u source) = tt
  failing (Close from target) = tt
  failing (Capture dest q) = capture-failing dest q

step-failing : (S : Storage) (s : State) → Failing s (effect_at S (innermost S.table s.frames) s) (step_of S s)
unfolding step_of
step-failing S s = failing S.table S.code (innermost S.table s.frames) s (effect_at S (innermost S.table s.frames) s)

-- ---- a run

-- what the instruction at hand raises
abbrev seen : Storage → State → Raised
seen S u =
    let a = innermost S.table u.frames in
    raised_of (sight_of S u) (decoded_at S.table S.code a.prototype a.instruction)

-- a mark changes nothing of it
seen-marked : (S : Storage) (t : State) (k operand : ℕ) → seen S (marked k operand t) ≡ seen S t
seen-marked S t k operand = rw (marked-innermost S.table t.frames k operand)

-- it stands at the place that is answered
seen-answer :
    (S : Storage) (u : State) (k c : ℕ)
    → seen S u ≡ raised_of (sight_of S u) (decoded_at S.table S.code (answer_of k c u).prototype (answer_of k c u).instruction)
unfolding innermost answer_of
seen-answer S u k c = refl

error_of : (n : ℕ) → 30 ≤ n → n ≤ 46 → is_lua_error n ≡ true
unfolding is_lua_error
error_of n x y = rw (le-leb 30 n x, le-leb n 46 y)

steady_steps : (S : Storage) (s : State) → Steady S.table s.frames → {n : ℕ} {t : State} → Steps S s n t → Steady S.table t.frames
steady_steps S s h none = h
steady_steps S s h (more x e) = steady_on S _ _ (steady_steps S s h x) e

module _ (S : Storage) (t u : State) (h : Steady S.table t.frames) (k : ℕ) (e : step_of S t ≡ stop k u) (x : 30 ≤ k) (y : k ≤ 46) where
  failed : FailedBy k t (effect_at S (innermost S.table t.frames) t) u
  failed = (rw e at (step-failing S t)) x y

  kept : (c : ℕ) → (answer_of k c u).operand ≡ failed.operand
  unfolding answer_of kept_for
  kept c =
      rw (error_of k x y)
      (ap (λ (v : State). operand_in v.frames) failed.same ∙ mark-operand t.frames k failed.operand h.long (omega arith))

  raised : raising k failed.operand ≡ seen S t
  raised = failed-raised (sight_of S t) _ k failed.operand failed.effect

  named-at :
      (c : ℕ) → raising k (answer_of k c u).operand
      ≡ raised_of (sight_of S u) (decoded_at S.table S.code (answer_of k c u).prototype (answer_of k c u).instruction)
  named-at c =
      ap (raising k) (kept c) ∙ raised ∙ sym (seen-marked S t k failed.operand) ∙ sym (ap (seen S) failed.same) ∙ seen-answer S u k c

number_of : (n c : ℕ) (t : State) → (answer_of n c t).number ≡ n
unfolding answer_of
number_of n c t = refl

abbrev Named : Storage → Ended → Type 0
Named S e =
    30 ≤ e.answer.number → e.answer.number ≤ 46
    → raising e.answer.number e.answer.operand
    ≡ raised_of (sight_of S e.state) (decoded_at S.table S.code e.answer.prototype e.answer.instruction)

named-in : {S : Storage} {s : State} {budget : ℕ} {e : Ended} → Counted S s budget e → (standing_of S s).number ≡ 70 → Steady S.table s.frames → Named S e
unfolding answer_of
named-in (stood n) r h x y = absurd (n r)
named-in (spent t c) r h x y = absurd (omega arith)
named-in {S} {s} (stopped n k t u l c e) r h x y = named-at S t u (steady_steps S s h c) k e x y (n + 1)
named-in (faulted n t u l c e) r h x y = absurd (omega arith)

pub named_in_runs : NamedInRuns
named_in_runs S s b r x y = named-in (counted S s b) r (fit_steady S s (standing_on S s (standing_of S s) refl r)) x y

-- ---- answered again

again_in :
    {S : Storage} {s : State} {budget : ℕ} {e : Ended} → Counted S s budget e → (standing_of S s).number ≡ 70 → LuaError e.answer.number
    → fit_of S e.state ≡ true → (c : ℕ) → run_of S c e.state ≡ ended (again e.answer) e.state
unfolding answer_of
again_in (stood n) r h fit c = absurd (n r)
again_in (spent t x) r h fit c = absurd (error_stands 70 h refl)
again_in {S} (stopped n k t u l x e) r h fit c =
    let m = rw e at (marks S t) in
    splits.repeats S u fit k m.1 (splits.stopped S k u m.0 m.1 (fit-facts S u fit).stack.steady.long) c
again_in (faulted n t u l x e) r h fit c = absurd (error_no-fault 60 h refl)

pub answered-again : AnsweredAgain
answered-again S s b c r h fit = again_in (counted S s b) r h fit c

-- ---- an example

pub nil-named : NilNamed
unfolding machine_computes binary_of left_operand binary_answer
nil-named = (refl, (refl, refl))
