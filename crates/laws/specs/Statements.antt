-- What is demanded of every image, state, arguments and budgets, each as a statement of its own; proofs/Laws has a proof of each. Assumes nothing.
-- The promises of `read`, `write`, `check`, `start` and `run` are the definitions that stand here: Read, Written, check_of, start_of, run_of.
use Rattle.std.specs.Prelude.{true, ◌↔◌, ◌≡◌, List, [], ◌∷◌, ℕ, ◌+◌, ◌≤◌, ◌<◌, length, take, Ok}
use Rattle.storage.specs.Layout.{Storage, laid, table_size, code_size, constant_size, text_size}
use Rattle.storage.specs.Stored.{ReadsTo}
use Rattle.reader.specs.Reading.{Read}
use Rattle.writer.specs.Writing.{Wrote, Written}
use Rattle.checker.specs.Check.{refused, check_of}
use Rattle.checker.specs.Kept.{Demanded, FirstBad}
use Rattle.fitness.specs.Fit.{fit_of}
use Rattle.state.specs.Marks.{is_lua_error}
use Rattle.state.specs.States.{State, frames_size, registers_size}
use Rattle.step.specs.Step.{on, stop, fault, step_of}
use Rattle.step.specs.Run.{Ended, ended, outcome, naming, answer_of, standing_of, run_of}
use Rattle.step.specs.declared.Outcome.{Outcome}
use Rattle.starter.specs.Start.{start_of, started}

-- ---- demand 1: "sizes are published constants, none above 1,048,576"

-- of the storage: table, code, constants (kinds and words alike), texts; of the state: frames, registers (kinds and words alike)
abbrev pub sizes : List ℕ
sizes = table_size ∷ code_size ∷ constant_size ∷ text_size ∷ frames_size ∷ registers_size ∷ []

abbrev pub AtMost : ℕ → List ℕ → Type 0
AtMost n [] = Unit {0}
AtMost n (x ∷ xs) = (x ≤ n) × AtMost n xs

abbrev pub Published : Type 0
Published = (sizes ≡ 421 ∷ 5041 ∷ 8448 ∷ 32768 ∷ 754 ∷ 2436 ∷ []) × AtMost 1048576 sizes

-- ---- demand 2: "An accepted image, written back, gives the same bytes."

abbrev pub RoundTrip : Type 0
RoundTrip =
    (image : List ℕ) (n : ℕ) (S S' : Storage) (r : Wrote) (out out' : List ℕ) → Read image (Ok n) S S'
    → length image ≤ length out → Written S' r out out' → (r ≡ Ok (length image)) × (out' ≡ laid image out)

-- and what is written is an image that reads to this storage
abbrev pub WrittenReads : Type 0
WrittenReads =
    (S : Storage) (n : ℕ) (out out' : List ℕ) → Written S (Ok n) out out' → ReadsTo (take n out') S

-- ---- demand 3: "The checker accepts exactly the images that meet 01's list."

abbrev pub Exact : Type 0
Exact = (S : Storage) → (check_of S ≡ Ok tt) ↔ Demanded S

-- "stops at the first bad one, out of both; there the lowest number wins"
abbrev pub FirstBadFound : Type 0
FirstBadFound = (S : Storage) (n q i : ℕ) → 10 ≤ n → (check_of S ≡ refused n q i) ↔ FirstBad S n q i

-- ---- demand 3: the checker accepts the image, the arguments are permitted, and whatever budgets follow

-- t is the state that a start with these arguments left: it was accepted
abbrev pub Begun : Storage → List ℕ → List ℕ → State → State → Type 0
Begun S arg_kinds arg_words s t = start_of S arg_kinds arg_words s ≡ started (Ok tt) t

-- the state after runs on these budgets, one after another
unfoldable pub after_runs : Storage → List ℕ → State → State
after_runs S [] s = s
after_runs S (b ∷ bs) s = after_runs S bs (run_of S b s).state

-- "Such an image never reaches a machine fault": 60 is never answered
abbrev pub NoFault : Type 0
NoFault =
    (S : Storage) (arg_kinds arg_words : List ℕ) (s t : State) → Begun S arg_kinds arg_words s t
    → (bs : List ℕ) (b : ℕ) → ((run_of S b (after_runs S bs t)).answer.number ≡ 60 → ⊥)

-- nor is a state left that is unfit: "A state is unfit, tested first .."
abbrev pub StaysFit : Type 0
StaysFit =
    (S : Storage) (arg_kinds arg_words : List ℕ) (s t : State) → Begun S arg_kinds arg_words s t
    → (bs : List ℕ) → fit_of S (after_runs S bs t) ≡ true

-- ---- how a run ends: "Numbers the machine answers"

-- "30-44 operator error", "50, 51, 52"; "45 for a zero integer divisor in IDiv, 46 in Mod"; "53 no closure entry, then 54 too few cells"
abbrev pub LuaError : ℕ → Type 0
LuaError n = is_lua_error n ≡ true

pub data Ends (budget : ℕ) (o : Outcome) : Type 0 where
  -- "0 outermost Return done"
  finished : o.number ≡ 0 → Ends budget o
  -- a Lua error
  failed : LuaError o.number → Ends budget o
  -- "70 budget used (0 too), machine still running": all of it is counted
  used : o.number ≡ 70 → o.count ≡ budget → Ends budget o

abbrev pub ThreeEnds : Type 0
ThreeEnds =
    (S : Storage) (arg_kinds arg_words : List ℕ) (s t : State) → Begun S arg_kinds arg_words s t
    → (bs : List ℕ) (b : ℕ) → Ends b (run_of S b (after_runs S bs t)).answer

-- ---- demand 3: "Runs of a, then b, are one run of a + b."

-- two runs' answers as one: the last number, place and operand, the counts added up, the last state
abbrev pub joined : Ended → Ended → Ended
joined x y =
    ended
    (naming (outcome y.answer.number (x.answer.count + y.answer.count) y.answer.prototype y.answer.instruction) y.answer.operand)
    y.state

abbrev pub two_runs : Storage → ℕ → ℕ → State → Ended
two_runs S a b s = joined (run_of S a s) (run_of S b (run_of S a s).state)

abbrev pub Split : Type 0
Split =
    (S : Storage) (arg_kinds arg_words : List ℕ) (s t : State) → Begun S arg_kinds arg_words s t
    → (bs : List ℕ) (a b : ℕ) → two_runs S a b (after_runs S bs t) ≡ run_of S (a + b) (after_runs S bs t)

-- Of any image and any state: where the machine is running, the first run has to leave a fit state, and a fault must not be followed by a run on no budget,
-- which doesn't look at the instruction. proofs/Examples shows that neither can be left out: in images that aren't accepted two runs may be answered otherwise.
pub record Resumable (S : Storage) (a b : ℕ) (s : State) : Type 0 where
  pub fit : fit_of S (run_of S a s).state ≡ true
  pub goes : (run_of S a s).answer.number ≡ 60 → b ≡ 0 → ⊥

abbrev pub SplitAny : Type 0
SplitAny =
    (S : Storage) (s : State) (a b : ℕ) → ((standing_of S s).number ≡ 70 → Resumable S a b s)
    → two_runs S a b s ≡ run_of S (a + b) s

-- ---- the count "is the number of defined steps"

-- so many steps, each of which went on, lead from s to another state
pub data Steps (S : Storage) (s : State) : ℕ → State → Type 0 where
  none : Steps S s 0 s
  more : {n : ℕ} {t u : State} → Steps S s n t → step_of S t ≡ on u → Steps S s (n + 1) u

-- how a run from s on a budget may end, and what it then counts
pub data Counted (S : Storage) (s : State) (budget : ℕ) : Ended → Type 0 where
  -- it was not running: nothing is counted, nothing changes
  stood : ((standing_of S s).number ≡ 70 → ⊥) → Counted S s budget (ended (standing_of S s) s)
  -- the budget is used: every step counts, and there were as many
  spent : (t : State) → Steps S s budget t → Counted S s budget (ended (answer_of 70 budget t) t)
  -- the last step finished or raised an error: it counts too
  stopped :
      (n k : ℕ) (t u : State) → n < budget → Steps S s n t → step_of S t ≡ stop k u
      → Counted S s budget (ended (answer_of k (n + 1) u) u)
  -- the next step can't be taken: it doesn't count
  faulted :
      (n : ℕ) (t u : State) → n < budget → Steps S s n t → step_of S t ≡ fault u → Counted S s budget (ended (answer_of 60 n u) u)

-- of any image, state and budget
abbrev pub CountsSteps : Type 0
CountsSteps = (S : Storage) (s : State) (b : ℕ) → Counted S s b (run_of S b s)

-- "70 only with the full budget counted": of any image, state and budget too
abbrev pub WholeBudget : Type 0
WholeBudget =
    (S : Storage) (s : State) (b : ℕ) → (run_of S b s).answer.number ≡ 70 → (run_of S b s).answer.count ≡ b
