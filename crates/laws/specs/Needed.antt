-- No premise of 4/12 can be left out: without it the law is false, by a loop that keeps all the others. And W13's loop keeps them all. proofs/Laws has a proof of
-- each. Assumes nothing.
use Rattle.std.specs.Prelude.{List, [], ◌∷◌, ℕ, drop, ℤ, pos, negsuc}
use Rattle.image.specs.Instruction.{packed}
use Rattle.image.specs.Frames.{opens, code, ends}
use Rattle.storage.specs.Layout.{Storage}
use Rattle.constant.specs.declared.Value.{Value}
use Rattle.constant.specs.declared.Value.TheVariants.{Integer}
use Rattle.state.specs.States.{State, state, blank_state}
use Rattle.worked.specs.Thirteen.{thirteen_stored, ends_on}
use Rattle.laws.specs.Examples.{read_from, running}
use Rattle.laws.specs.Passes.{LoopAt, Story, Returning, Keeping}
use Rattle.laws.specs.Chunks.{Setting, NotZero, SumFits, Bounded, AllBack, first_visit, LawUnder}

-- a loop of Lua 5.3 that meets these premises, its story to the end, and the values at the starts of its passes
pub record Shows
    (Limits : ℤ → ℤ → Type 0) (Passes : Storage → LoopAt → State → Type 0) (S : Storage) (L : LoopAt) (s : State) (start limit step : ℤ)
    (numbers : List Value) : Type 0 where
  pub setting : Setting S L s start limit step
  pub limits : Limits limit step
  pub passes : (n : ℕ) (e : State) → first_visit S L s n e → Passes S L e
  pub before : ℕ
  pub opener : State
  pub opened : first_visit S L s before opener
  pub steps : ℕ
  pub after : State
  pub story : Story S L opener numbers steps after

-- ---- the premises can be met: W13, "three LoadConstants (1, 3, 1 into registers 0 to 2), Prep base 0 offset 0, NumericForLoop base 0 offset -1, Return"

abbrev pub thirteen_loop : LoopAt
thirteen_loop = record { depth = 1; prototype = 0; place = 4; base = 0; body = 4 }

-- after the three LoadConstants
abbrev pub ThirteenChunks : Type 0
ThirteenChunks =
    Shows Bounded AllBack thirteen_stored thirteen_loop (ends_on 3).state (pos 1) (pos 3) (pos 1)
    (Integer (pos 1) ∷ Integer (pos 2) ∷ Integer (pos 3) ∷ [])

-- ---- "Show by example that the premise on limit + step is needed."

-- Prep base 0 offset 0, NumericForLoop base 0 offset -1, Return
abbrev pub bare : Storage
bare = read_from 1 (opens 4 3 ∷ code (packed 18 0 0 0 0) ∷ code (packed 19 0 0 255 255) ∷ code (packed 12 0 0 0 0) ∷ ends 1 ∷ [])

abbrev pub bare_loop : LoopAt
bare_loop = record { depth = 1; prototype = 0; place = 1; base = 0; body = 1 }

-- running at instruction 0, with integers of these words in registers 0 to 2
abbrev pub controlled : ℕ → ℕ → ℕ → State
controlled start limit step =
    state running.frames (2 ∷ 2 ∷ 2 ∷ drop 3 blank_state.kinds) (start ∷ limit ∷ step ∷ drop 3 blank_state.words)

abbrev pub largest : ℕ
largest = 9223372036854775807

-- start = limit = 1, step = 9223372036854775807: the sums wrap, and two passes too many begin, with the smallest integer and with -1
abbrev pub WrapsAround : Type 0
WrapsAround =
    Shows NotZero AllBack bare bare_loop (controlled 1 1 largest) (pos 1) (pos 1) (pos largest)
    (Integer (pos 1) ∷ Integer (negsuc largest) ∷ Integer (negsuc 0) ∷ [])

abbrev pub SumNeeded : Type 0
SumNeeded = LawUnder first_visit NotZero AllBack → ⊥

-- ---- "nonzero step": start = limit = 1, step = 0 has no end

abbrev pub StepNeeded : Type 0
StepNeeded = LawUnder first_visit SumFits AllBack → ⊥

-- ---- "with registers base to base + 2 unchanged"

-- Prep base 0 offset 1, an instruction, NumericForLoop base 0 offset -2, Return
abbrev pub around : ℕ → Storage
around body =
    read_from 1
    (opens 5 3 ∷ code (packed 18 0 0 0 1) ∷ code body ∷ code (packed 19 0 0 255 254) ∷ code (packed 12 0 0 0 0) ∷ ends 1 ∷ [])

abbrev pub around_loop : LoopAt
around_loop = record { depth = 1; prototype = 0; place = 2; base = 0; body = 1 }

-- from 1 to 3, where each pass moves the limit into the index: the first pass is the last
abbrev pub moving : Storage
moving = around (packed 0 0 0 1 0)

abbrev pub MovesIndex : Type 0
MovesIndex = Shows Bounded Returning moving around_loop (controlled 1 3 1) (pos 1) (pos 3) (pos 1) (Integer (pos 1) ∷ [])

abbrev pub KeepingNeeded : Type 0
KeepingNeeded = LawUnder first_visit Bounded Returning → ⊥

-- ---- "comes back .. without error"

-- from 1 to 3, where each pass is a Minus of nil: the first one raises 36
abbrev pub failing : Storage
failing = around (packed 31 0 4 4 0)

abbrev pub ReturningNeeded : Type 0
ReturningNeeded = LawUnder first_visit Bounded Keeping → ⊥
