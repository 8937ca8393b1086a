-- Document 02, 5/12: "Operator errors must name the first unfit operand". The statements, of any image and any state; proofs/Operands has them. What an instruction
-- raises, and which of its operands are fit for it, is put down in `effects` (specs/Raising), apart from what the operations do. Assumes nothing.
use Rattle.std.specs.Prelude.{◌≡◌, true, false, [], ◌∷◌, ℕ, ◌<◌, ◌≤◌}
use Rattle.image.specs.Instruction.{packed}
use Rattle.image.specs.Frames.{opens, code, ends}
use Rattle.storage.specs.Layout.{Storage}
use Rattle.checker.specs.declared.Instruction.{Instruction}
use Rattle.effects.specs.Effects.{Sight, sight, effect_of}
use Rattle.effects.specs.Raising.{raising, raised_by, is_fit, fitness_of, raised_of}
use Rattle.effects.specs.declared.Effect.TheVariants.{Fail}
use Rattle.fitness.specs.Fit.{fit_of, decoded_at}
use Rattle.state.specs.Record.{innermost}
use Rattle.state.specs.States.{State}
use Rattle.step.specs.Run.{ended, outcome, naming, standing_of, run_of}
use Rattle.step.specs.declared.Outcome.{Outcome}
use Rattle.laws.specs.Statements.{LuaError}
use Rattle.laws.specs.Examples.{read_from, running}

-- ---- of an instruction

-- every instruction raises what document 02 says, names whom it says, and raises nothing else
abbrev pub RaisesAsSaid : Type 0
RaisesAsSaid = (g : Sight) (i : Instruction) → raised_by (effect_of g i) ≡ raised_of g i

-- "name the first unfit operand": the one that 30 to 44 name is unfit, and none before it is
abbrev pub FirstUnfitNamed : Type 0
FirstUnfitNamed =
    (g : Sight) (i : Instruction) (n k : ℕ) → effect_of g i ≡ Fail n k → 30 ≤ n → n ≤ 44
    → (is_fit (fitness_of g i) k ≡ false) × ((j : ℕ) → 1 ≤ j → j < k → is_fit (fitness_of g i) j ≡ true)

-- "45 .. 46 .., both naming 2, tested after operand fitness": where they are raised, every operand is fit
abbrev pub ZeroNamed : Type 0
ZeroNamed =
    (g : Sight) (i : Instruction) (n k : ℕ) → effect_of g i ≡ Fail n k → 45 ≤ n
    → (k ≡ 2) × ((j : ℕ) → is_fit (fitness_of g i) j ≡ true)

-- and an operand that is unfit is never passed over
abbrev pub UnfitRaises : Type 0
UnfitRaises =
    (g : Sight) (i : Instruction) (j : ℕ) → is_fit (fitness_of g i) j ≡ false
    → (1 ≤ (raised_by (effect_of g i)).named) × ((raised_by (effect_of g i)).named ≤ j)

-- ---- of a run

-- what the innermost activation of a state sees
abbrev pub sight_of : Storage → State → Sight
sight_of S t =
    let a = innermost S.table t.frames in
    sight S.table S.kinds S.words S.texts t.kinds t.words a.prototype a.base

-- a running machine that answers an operator error stands before the instruction that raised it, and the answer has the number and the operand that this
-- instruction raises in the state that is left
abbrev pub NamedInRuns : Type 0
NamedInRuns =
    (S : Storage) (s : State) (b : ℕ) → (standing_of S s).number ≡ 70
    → let o = (run_of S b s).answer in
    30 ≤ o.number → o.number ≤ 46
    → raising o.number o.operand
    ≡ raised_of (sight_of S (run_of S b s).state) (decoded_at S.table S.code o.prototype o.instruction)

-- "The mark keeps it, so a failed machine answers it again": with count 0 and all else as it was, on any budget, where the state that is left is fit, as an accepted
-- image's is (`StaysFit`)
abbrev pub again : Outcome → Outcome
again o = naming (outcome o.number 0 o.prototype o.instruction) o.operand

abbrev pub AnsweredAgain : Type 0
AnsweredAgain =
    (S : Storage) (s : State) (b c : ℕ) → (standing_of S s).number ≡ 70 → LuaError (run_of S b s).answer.number
    → fit_of S (run_of S b s).state ≡ true
    → run_of S c (run_of S b s).state ≡ ended (again (run_of S b s).answer) (run_of S b s).state

-- ---- the premises can be met: Add of a register that holds nil is 30, naming 1, and leaves a fit state

abbrev pub adds_nil : Storage
adds_nil = read_from 1 (opens 1 0 ∷ code (packed 33 0 0 0 0) ∷ code (packed 12 0 0 0 0) ∷ ends 1 ∷ [])

abbrev pub NilNamed : Type 0
NilNamed =
    ((standing_of adds_nil running).number ≡ 70)
    × (((run_of adds_nil 5 running).answer ≡ naming (outcome 30 1 0 0) 1) × (fit_of adds_nil (run_of adds_nil 5 running).state ≡ true))
