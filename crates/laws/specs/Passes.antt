-- A loop's visits and passes, told by the steps of the definition: document 02, 4/12. Assumes nothing.
-- "every pass, begun by the loop instruction's jump, comes back to that instruction in the same activation, without error, with registers base to base + 2
-- unchanged"; "until the machine first goes on after the loop instruction, register base + 3 holds at the starts of the passes .."
use Rattle.std.specs.Prelude.{Bool, true, false, ◌&&◌, ◌≡◌, List, [], ◌∷◌, ℕ, ◌+◌, ◌-◌, eqb, leb, ℤ}
use Rattle.storage.specs.Layout.{Storage}
use Rattle.constant.specs.declared.Value.{Value}
use Rattle.constant.specs.declared.Value.TheVariants.{Integer}
use Rattle.checker.specs.declared.Instruction.TheVariants as instruction
use Rattle.effects.specs.Effects.{value_at}
use Rattle.effects.specs.declared.Effect.{Effect}
use Rattle.effects.specs.declared.Effect.TheVariants.{Set, Goto, Clear, Loop, Enter, Leave, Fail, Fault, Get, Put, Close, Capture}
use Rattle.state.specs.Frames.{depth_in, prototype_in, instruction_in, base_of}
use Rattle.state.specs.Record.{innermost}
use Rattle.state.specs.States.{State}
use Rattle.fitness.specs.Fit.{decoded_at}
use Rattle.step.specs.Step.{on, effect_at, step_of}

-- ---- the loop: "Prep jumping to a NumericForLoop of the same base"

-- The activation that carries Prep out is told by how many are live while it is the innermost. Of its prototype: where the loop instruction stands, the operand
-- `base`, and where its jump leads.
pub record LoopAt : Type 0 where
  pub depth : ℕ
  pub prototype : ℕ
  pub place : ℕ
  pub base : ℕ
  pub body : ℕ

-- the next instruction of s is the Prep
pub record Prepares (S : Storage) (L : LoopAt) (s : State) : Type 0 where
  pub depth : depth_in s.frames ≡ L.depth
  pub prototype : prototype_in s.frames (L.depth - 1) ≡ L.prototype
  pub prep :
      decoded_at S.table S.code L.prototype (instruction_in s.frames (L.depth - 1))
      ≡ instruction.NumericForPrep L.base L.place
  pub loop : decoded_at S.table S.code L.prototype L.place ≡ instruction.NumericForLoop L.base L.body

-- ---- registers of that activation

abbrev pub register_in : Storage → LoopAt → State → ℕ → Value
register_in S L s r = value_at s.kinds s.words (base_of S.table s.frames (L.depth - 1) + r)

-- the controls are integers: index, limit and step
pub record Controls (S : Storage) (L : LoopAt) (s : State) (index limit step : ℤ) : Type 0 where
  pub holds_index : register_in S L s L.base ≡ Integer index
  pub holds_limit : register_in S L s (L.base + 1) ≡ Integer limit
  pub holds_step : register_in S L s (L.base + 2) ≡ Integer step

-- "registers base to base + 2 unchanged": they hold at u what they held at t, whatever was done to them in between
pub record Unchanged (S : Storage) (L : LoopAt) (t u : State) : Type 0 where
  pub index : register_in S L u L.base ≡ register_in S L t L.base
  pub limit : register_in S L u (L.base + 1) ≡ register_in S L t (L.base + 1)
  pub step : register_in S L u (L.base + 2) ≡ register_in S L t (L.base + 2)

-- "register base + 3"
abbrev pub number_in : Storage → LoopAt → State → Value
number_in S L s = register_in S L s (L.base + 3)

-- ---- a visit: the same activation is the innermost, and its next instruction is the loop instruction

unfoldable pub visits : LoopAt → State → Bool
visits L s =
    eqb (depth_in s.frames) L.depth && eqb (prototype_in s.frames (L.depth - 1)) L.prototype
    && eqb (instruction_in s.frames (L.depth - 1)) L.place

-- it is live: it has not returned, though it may have called
unfoldable pub lives : LoopAt → State → Bool
lives L s = leb L.depth (depth_in s.frames)

-- "comes back to that instruction in the same activation, without error": n steps lead from s to u, the first visit from s on, s itself included. Each of them
-- goes on, so none is an error, a fault or the end; what lies in between, calls, other loops, jumps to anywhere, is free.
pub data Comes (S : Storage) (L : LoopAt) : State → ℕ → State → Type 0 where
  here : {u : State} → visits L u ≡ true → Comes S L u 0 u
  later : {s t u : State} {n : ℕ} → visits L s ≡ false → lives L s ≡ true → step_of S s ≡ on t → Comes S L t n u → Comes S L s (n + 1) u

-- ---- a pass

-- whether an effect begins a pass: "begun by the loop instruction's jump". It is told by the effect and not by the place where the machine goes on, since the jump
-- may lead to the loop instruction itself, or to the instruction after it.
abbrev pub opens_pass : Effect → Bool
opens_pass (Set r k w go) = false
opens_pass (Goto go) = false
opens_pass (Clear r n) = false
opens_pass (Loop r k w t) = true
opens_pass (Enter function arguments) = false
opens_pass (Leave start n) = false
opens_pass (Fail n named) = false
opens_pass Fault = false
opens_pass (Get dest upvalue) = false
opens_pass (Put upvalue source) = false
opens_pass (Close from target) = false
opens_pass (Capture dest q) = false

-- whether the next instruction of s begins one
unfoldable pub begins_pass : Storage → State → Bool
begins_pass S s = opens_pass (effect_at S (innermost S.table s.frames) s)

-- From s on, where a pass begins or the loop is left: n steps later, at t, a pass has just begun, and at the starts of the passes up to this one register
-- base + 3 held these values.
pub data Reached (S : Storage) (L : LoopAt) : State → List Value → ℕ → State → Type 0 where
  first_pass : {s t : State} → begins_pass S s ≡ true → step_of S s ≡ on t → Reached S L s (number_in S L t ∷ []) 1 t
  later_pass :
      {s t u v : State} {n m : ℕ} {xs : List Value} → begins_pass S s ≡ true → step_of S s ≡ on t → Comes S L t n u → Reached S L u xs m v
      → Reached S L s (number_in S L t ∷ xs) (1 + n + m) v

-- each pass before the last one of them came back with the controls as they were when it began; of the last one nothing is said
abbrev pub KeptUntil :
    (S : Storage) (L : LoopAt) {s t : State} {xs : List Value} {n : ℕ} → Reached S L s xs n t → Type 0
KeptUntil S L (first_pass b e) = Unit {0}
KeptUntil S L (later_pass {t = t} {u = u} b e c r) = Unchanged S L t u × KeptUntil S L r

-- The whole story from there, "until the machine first goes on after the loop instruction": n steps later it has done so, at f, and these are the values at the
-- starts of all passes.
pub data Story (S : Storage) (L : LoopAt) : State → List Value → ℕ → State → Type 0 where
  leaves_loop : {s f : State} → begins_pass S s ≡ false → step_of S s ≡ on f → Story S L s [] 1 f
  makes_pass :
      {s t u f : State} {n m : ℕ} {xs : List Value} → begins_pass S s ≡ true → step_of S s ≡ on t → Comes S L t n u → Story S L u xs m f
      → Story S L s (number_in S L t ∷ xs) (1 + n + m) f

-- "goes on after the loop instruction": the same activation is the innermost, and its next instruction is the one behind the loop instruction
pub record Behind (L : LoopAt) (f : State) : Type 0 where
  pub depth : depth_in f.frames ≡ L.depth
  pub prototype : prototype_in f.frames (L.depth - 1) ≡ L.prototype
  pub place : instruction_in f.frames (L.depth - 1) ≡ L.place + 1

-- ---- "suppose every pass .. comes back": of every pass of the story from e on

-- it comes back
abbrev pub Returning : Storage → LoopAt → State → Type 0
Returning S L e = (xs : List Value) (n : ℕ) (t : State) → Reached S L e xs n t → (m : ℕ) × (u : State) × Comes S L t m u

-- if it comes back, it does so with the controls as they were when it began
abbrev pub Keeping : Storage → LoopAt → State → Type 0
Keeping S L e =
    (xs : List Value) (n : ℕ) (t : State) → Reached S L e xs n t → (m : ℕ) (u : State) → Comes S L t m u → Unchanged S L t u
