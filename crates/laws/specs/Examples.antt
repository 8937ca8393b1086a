-- Two images that the checker refuses, and a state, where two runs are not one: proofs/Examples. Assumes nothing.
use Rattle.std.specs.Prelude.{List, [], ◌∷◌, ℕ}
use Rattle.image.specs.Instruction.{packed}
use Rattle.image.specs.Frames.{F, opens, code, ends}
use Rattle.storage.specs.Layout.{Storage, blank_storage, laid_in}
use Rattle.state.specs.Frames.{mark_with, depth_with}
use Rattle.state.specs.States.{State, state, blank_state}

-- what an image of n prototypes with these frames reads to, in slices of the published sizes that held zeros
abbrev pub read_from : ℕ → List F → Storage
read_from n frames = laid_in n frames blank_storage

-- running at instruction 0 of prototype 0, as a start would leave it
abbrev pub running : State
running = state (depth_with 1 (mark_with 70 0 blank_state.frames)) blank_state.kinds blank_state.words

-- Closure, Call, Return; prototype 1 has no instruction, so the checker refuses the image
abbrev pub hollow : Storage
hollow =
    read_from 2
    (opens 1 0 ∷ code (packed 17 0 0 1 0) ∷ code (packed 10 0 0 0 0) ∷ code (packed 12 0 0 0 0) ∷ opens 1 0 ∷ ends 2 ∷ [])

-- an operation that is not carried
abbrev pub unknown : Storage
unknown = read_from 1 (opens 1 0 ∷ code (packed 255 0 0 0 0) ∷ ends 1 ∷ [])
