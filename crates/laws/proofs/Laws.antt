-- The demands on one page: a proof of each statement of specs/Statements, and of document 02's laws: of loops (specs/Chunks, specs/Needed), of whom an error names
-- (specs/Operands), of what closures share (specs/Sharing). Assumes nothing.
use mathlib.Core.Path.{◌≡◌, refl}
use mathlib.Core.List.{List, []}
use Prim.Native.Nat.{ℕ}
use native.Mathlib.Omega.{arith}
use Rattle.storage.specs.Layout.{Storage}
use Rattle.state.specs.States.{State}
use Rattle.starter.specs.Start.{begun}
use Rattle.writer.proofs.RoundTrip as writer
use Rattle.checker.proofs.Exact as checker
use Rattle.worked.specs.Worked as claim
use Rattle.laws.specs.Statements as statements
use Rattle.laws.specs.Statements.{after_runs}
use Rattle.laws.specs.Session as session
use Rattle.laws.specs.Chunks as chunks
use Rattle.laws.specs.Needed as needed
use Rattle.laws.specs.Operands as operands
use Rattle.laws.specs.Sharing as sharing
use Rattle.laws.proofs.NoFault as ends
use Rattle.laws.proofs.Runs.{run-whole}
use Rattle.laws.proofs.Started.{begun_demanded}
use Rattle.laws.proofs.Splits as splits
use Rattle.laws.proofs.Counts as counts
use Rattle.laws.proofs.Example as example
use Rattle.laws.proofs.EveryChunk as loops
use Rattle.laws.proofs.Stories as stories
use Rattle.laws.proofs.Listing as listing
use Rattle.laws.proofs.Carrying as carrying
use Rattle.laws.proofs.Needed as computed
use Rattle.laws.proofs.Operands as naming
use Rattle.laws.proofs.Sharing as shared
use Rattle.laws.proofs.Making as making
use Rattle.laws.proofs.Remembering as remembering

-- ---- demand 1: the sizes

pub published : statements.Published
published = (refl, (omega arith, (omega arith, (omega arith, (omega arith, (omega arith, (omega arith, tt)))))))

-- ---- demand 2

pub round_trip : statements.RoundTrip
round_trip image n S S' r out out' = writer.read-written

pub written-reads : statements.WrittenReads
written-reads S n out out' = writer.reads-back

-- ---- demand 3

pub exact : statements.Exact
exact S = checker.exact S

pub first-bad : statements.FirstBadFound
first-bad S = checker.first-bad S

pub no-fault : statements.NoFault
no-fault = ends.no-fault

pub stays_fit : statements.StaysFit
stays_fit = ends.stays_fit

pub three-ends : statements.ThreeEnds
three-ends = ends.three-ends

-- an accepted image can be run on after every run
resumes :
    (S : Storage) (arg_kinds arg_words : List ℕ) (s t : State) → statements.Begun S arg_kinds arg_words s t
    → (bs : List ℕ) (a b : ℕ) → statements.Resumable S a b (after_runs S bs t)
resumes S arg_kinds arg_words s t e bs a b =
    record {
      fit = (run-whole S (begun_demanded S arg_kinds arg_words s t e) a (after_runs S bs t) (stays_fit S arg_kinds arg_words s t e bs)).fit;
      goes = λ z n. no-fault S arg_kinds arg_words s t e bs a z;
    }

pub split : statements.Split
split S arg_kinds arg_words s t e bs a b =
    splits.split-any S (after_runs S bs t) a b (λ h. resumes S arg_kinds arg_words s t e bs a b)

pub split-any : statements.SplitAny
split-any = splits.split-any

pub counted : statements.CountsSteps
counted = counts.counted

pub whole_budget : statements.WholeBudget
whole_budget = counts.whole_budget

-- ---- W1 to W13, one claim about one list

pub worked : claim.defined ≡ claim.answers
worked = claim.worked

-- ---- the hypotheses can be met: the session of 01 is read, written back, accepted and started, and can be run on

pub session_reads : session.SessionReads
session_reads = example.session_reads

pub session_written : session.SessionWritten
session_written = example.session_written

pub session_starts : session.SessionStarts
session_starts = example.session_starts

pub session_resumes : session.SessionResumes
unfolding after_runs
session_resumes lent s l h a b =
    let S = session.session_in lent in
    resumes S [] [] s (begun S.table [] [] s) (session_starts lent s l h) [] a b

-- ---- document 02, 4/12: every chunk number, each once

pub any_edition : chunks.AnyEdition
any_edition = stories.any_edition

pub every-chunk : chunks.EveryChunk
every-chunk = loops.every-chunk

pub chunks_so_far : chunks.ChunksSoFar
chunks_so_far = loops.chunks_so_far

pub one_story : chunks.OneStory
one_story = stories.one_story

pub closed-form : chunks.ClosedForm
closed-form = listing.closed-form

pub runs-carry : chunks.RunsCarry
runs-carry = carrying.runs-carry

pub chunks_in_runs : chunks.ChunksInRuns
chunks_in_runs = carrying.chunks_in_runs

-- the premises can be met, and none can be left out

pub thirteen_chunks : needed.ThirteenChunks
thirteen_chunks = computed.thirteen_chunks

pub wraps-around : needed.WrapsAround
wraps-around = computed.wraps-around

pub sum-needed : needed.SumNeeded
sum-needed = computed.sum-needed

pub step-needed : needed.StepNeeded
step-needed = computed.step-needed

pub moves-index : needed.MovesIndex
moves-index = computed.moves-index

pub keeping-needed : needed.KeepingNeeded
keeping-needed = computed.keeping-needed

pub returning-needed : needed.ReturningNeeded
returning-needed = computed.returning-needed

-- ---- document 02, 5/12: which operand was wrong

pub raises_as_said : operands.RaisesAsSaid
raises_as_said = naming.raises_as_said

pub first_unfit_named : operands.FirstUnfitNamed
first_unfit_named = naming.first_unfit_named

pub zero-named : operands.ZeroNamed
zero-named = naming.zero-named

pub unfit_raises : operands.UnfitRaises
unfit_raises = naming.unfit_raises

pub named_in_runs : operands.NamedInRuns
named_in_runs = naming.named_in_runs

pub answered-again : operands.AnsweredAgain
answered-again = naming.answered-again

pub nil-named : operands.NilNamed
nil-named = naming.nil-named

-- ---- document 02, 6/12: closures with upvalues

pub open-is-register : sharing.OpenIsRegister
open-is-register = shared.open-is-register

pub one-register-shared : sharing.OneRegisterShared
one-register-shared = shared.one-register-shared

pub gets-upvalue : sharing.GetsUpvalue
gets-upvalue = shared.gets-upvalue

pub sets-upvalue : sharing.SetsUpvalue
sets-upvalue = shared.sets-upvalue

pub makes_closure : sharing.MakesClosure
makes_closure = making.makes_closure

pub no-entry : sharing.NoEntry
no-entry = making.no-entry

pub too_few-cells : sharing.TooFewCells
too_few-cells = making.too_few-cells

pub jump_closes : sharing.JumpCloses
jump_closes = shared.jump_closes

pub return_closes : sharing.ReturnCloses
return_closes = shared.return_closes

pub closed-keeps : sharing.ClosedKeeps
closed-keeps = shared.closed-keeps

pub closed_spares : sharing.ClosedSpares
closed_spares = shared.closed_spares

pub one_entry : sharing.OneEntry
one_entry = shared.one_entry

pub remembered : sharing.Remembered
remembered = remembering.remembered
