-- Accepting an image: its frames in order, with what has been counted so far. Assumes nothing.
-- "Reading: 5, then 3 for image length, then lines from 0 in order up to e0, each by 1, 2, 3; 4 stands at the number of lines read."
use Rattle.std.specs.Prelude.{ℕ, ◌+◌, List, [], ◌∷◌, length, leb, ltb, eqb, cond, Result, Ok, Err}
use Rattle.image.specs.Frames.{F, shape, frames_of}
use Rattle.image.specs.declared.Frame.{Frame}
use Rattle.image.specs.declared.Frame.TheVariants.{Open, Const, Str, Code, End, Bad, Desc}
use Rattle.image.specs.declared.Counts.{Counts}
use Rattle.image.specs.declared.Step.{Step}
use Rattle.image.specs.declared.Step.TheVariants.{On, Done, No}
use Rattle.image.specs.declared.ReadError.{ReadError}
use Rattle.image.specs.declared.ReadError.TheVariants.{BrokenLine, BadFrame, PastLimit, WrongEnd, ShortStorage, Other}
use Rattle.image.specs.declared.ReadRefusal.{ReadRefusal}

-- what an image is refused for: 1 a line, 2 a frame, 3 a limit, 4 the end, 5 the storage; a number that is none of these stands for itself
abbrev pub read_number : ReadError → ℕ
read_number BrokenLine = 1
read_number BadFrame = 2
read_number PastLimit = 3
read_number WrongEnd = 4
read_number ShortStorage = 5
read_number (Other n) = n

-- an image is accepted with its number of prototypes, or refused
abbrev pub Judged : Type 0
Judged = Result ℕ ReadRefusal

-- for what, and at which line
abbrev pub refused : ReadError → ℕ → Judged
refused e line = Err (record { error = e; line = line })

-- a constant: in a prototype (2), before its instructions (2), at most 256 (3)
unfoldable pub const_step : Counts → Step
const_step st =
    cond (leb 1 st.protos)
    (cond (eqb st.codes 0)
    (cond (ltb st.consts 256) (On (record { protos = st.protos; consts = st.consts + 1; codes = st.codes; descs = st.descs })) (No PastLimit))
    (No BadFrame))
    (No BadFrame)

-- an instruction: in a prototype (2), at most 4,096 (3)
unfoldable pub code_step : Counts → Step
code_step st =
    cond (leb 1 st.protos)
    (cond (ltb st.codes 4096) (On (record { protos = st.protos; consts = st.consts; codes = st.codes + 1; descs = st.descs })) (No PastLimit))
    (No BadFrame)

-- document 02, 6/12: a descriptor, "between `a0` and its constants" (2), "at most 8 (3)"
unfoldable pub desc_step : Counts → Step
desc_step st =
    cond (leb 1 st.protos)
    (cond (eqb st.consts 0)
    (cond (eqb st.codes 0)
    (cond (ltb st.descs 8) (On (record { protos = st.protos; consts = st.consts; codes = st.codes; descs = st.descs + 1 })) (No PastLimit))
    (No BadFrame))
    (No BadFrame))
    (No BadFrame)

-- one frame more: at most 32 prototypes (3); "e0 count wrong" (2)
unfoldable pub frame_step : Counts → Frame → Step
frame_step st (Open r p) = cond (ltb st.protos 32) (On (record { protos = st.protos + 1; consts = 0; codes = 0; descs = 0 })) (No PastLimit)
frame_step st (Const k w) = const_step st
frame_step st (Str n) = const_step st
frame_step st (Code w) = code_step st
frame_step st (End n) = cond (eqb n st.protos) Done (No BadFrame)
frame_step st (Bad e) = No e
frame_step st (Desc k n) = desc_step st

abbrev pub start : Counts
start = record { protos = 0; consts = 0; codes = 0; descs = 0 }

-- after e0: "or a byte after it"
unfoldable pub at_end : ℕ → ℕ → List F → Judged
at_end protos n [] = Ok protos
at_end protos n (f ∷ fs) = refused WrongEnd n

-- what a step's answer makes of the image: fs is what follows, n the line
unfoldable pub judge_after : Step → ℕ → ℕ → List F → (Counts → Judged) → Judged
judge_after (On st) protos n fs go = go st
judge_after Done protos n fs go = at_end protos (n + 1) fs
judge_after (No e) protos n fs go = refused e n

-- frames from line n on; "no e0 at the end"
unfoldable pub judge_frames : Counts → ℕ → List F → Judged
judge_frames st n [] = refused WrongEnd n
judge_frames st n (f ∷ fs) = judge_after (frame_step st (shape f)) st.protos n fs (λ t. judge_frames t (n + 1) fs)

-- "Limits: 65,536 image bytes"
unfoldable pub judge_of : List ℕ → Judged
judge_of s = cond (ltb 65536 (length s)) (refused PastLimit 0) (judge_frames start 0 (frames_of s))
