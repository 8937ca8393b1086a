-- "Every chunk number, each once": document 02, 4/12, as statements; proofs/Laws has a proof of each. Assumes nothing.
use Rattle.std.specs.Prelude.{Bool, true, false, cond, ◌≡◌, List, [], ◌∷◌, ◌++◌, ℕ, suc, ◌+◌, ◌-◌, ◌^◌, ◌≤◌, ◌<◌, length, get_or, take, ℤ, pos, neg_ℤ, ◌+ℤ◌, ◌-ℤ◌, ◌*ℤ◌, ◌≤ℤ◌, ◌<ℤ◌, Ok}
use Rattle.std.specs.Int.Signed.{lt_z}
use Rattle.integer.specs.Floor.{floor_q}
use Rattle.storage.specs.Layout.{Storage}
use Rattle.constant.specs.declared.Value.{Value}
use Rattle.constant.specs.declared.Value.TheVariants.{Nil, Integer}
use Rattle.checker.specs.Check.{check_of}
use Rattle.state.specs.Frames.{mark_in}
use Rattle.state.specs.States.{State}
use Rattle.fitness.specs.Fit.{fit_of}
use Rattle.step.specs.Step.{on, step_of}
use Rattle.step.specs.Run.{ended, answer_of, run_of}
use Rattle.laws.specs.Statements.{after_runs, joined, Steps}
use Rattle.laws.specs.Passes.{LoopAt, Prepares, Controls, number_in, visits, Comes, begins_pass, Reached, KeptUntil, Story, Behind, Returning, Keeping}

-- ---- "start, start + step, and so on, up to the last one not past the limit; none if start is past it": whole numbers, none of them wrapped

-- document 01: "past the end is index < limit where step < 0, else limit < index"
abbrev pub is_past : ℤ → ℤ → ℤ → Bool
is_past limit step x = cond (lt_z step (pos 0)) (lt_z x limit) (lt_z limit x)

pub data Chunks (limit step : ℤ) : ℤ → List Value → Type 0 where
  no_chunk : {x : ℤ} → is_past limit step x ≡ true → Chunks limit step x []
  next_chunk : {x : ℤ} {xs : List Value} → is_past limit step x ≡ false → Chunks limit step (x +ℤ step) xs → Chunks limit step x (Integer x ∷ xs)

-- ---- what is supposed

-- "For integer start, limit and .. step, Prep jumping to a NumericForLoop of the same base, in an accepted image": of any fit state that is running
pub record Setting (S : Storage) (L : LoopAt) (s : State) (start limit step : ℤ) : Type 0 where
  pub accepted : check_of S ≡ Ok tt
  pub fit : fit_of S s ≡ true
  pub running : mark_in s.frames ≡ 70
  pub prepares : Prepares S L s
  pub controls : Controls S L s start limit step

-- "nonzero step"
abbrev pub NotZero : ℤ → ℤ → Type 0
NotZero limit step = step ≡ pos 0 → ⊥

-- as a whole number it lies in -2^63 to 2^63 - 1
pub record Fits64 (x : ℤ) : Type 0 where
  pub least : neg_ℤ (pos (2 ^ 63)) ≤ℤ x
  pub most : x <ℤ pos (2 ^ 63)

-- "Suppose limit + step fits 64 bits."
abbrev pub SumFits : ℤ → ℤ → Type 0
SumFits limit step = Fits64 (limit +ℤ step)

pub record Bounded (limit step : ℤ) : Type 0 where
  pub nonzero : NotZero limit step
  pub fits : SumFits limit step

-- "suppose every pass .. comes back .. with registers base to base + 2 unchanged"
pub record AllBack (S : Storage) (L : LoopAt) (e : State) : Type 0 where
  pub returning : Returning S L e
  pub keeping : Keeping S L e

-- ---- the law

-- What begins the first pass, or finds that there is none: it differs by edition. In images of Lua 5.3 it is the first visit, to which Prep jumps.
abbrev pub Opening : Type 1
Opening = Storage → LoopAt → State → ℕ → State → Type 0

abbrev pub first_visit : Opening
first_visit S L s n e = Comes S L s n e

-- The story is told to its end, behind the loop instruction, and register base + 3 holds at the starts of its passes exactly the numbers of the list. `before` is
-- how many steps lead from Prep to what opens it, `steps` how many from there to the end.
pub record TellsAll (opening : Opening) (S : Storage) (L : LoopAt) (s : State) (start limit step : ℤ) : Type 0 where
  pub before : ℕ
  pub opener : State
  pub opened : opening S L s before opener
  pub numbers : List Value
  pub steps : ℕ
  pub after : State
  pub story : Story S L opener numbers steps after
  pub behind : Behind L after
  pub exactly : Chunks limit step start numbers

-- the law, by what is supposed of limit and step and of the passes
abbrev pub LawUnder : Opening → (ℤ → ℤ → Type 0) → (Storage → LoopAt → State → Type 0) → Type 0
LawUnder opening Limits Passes =
    (S : Storage) (L : LoopAt) (s : State) (start limit step : ℤ) → Setting S L s start limit step → Limits limit step
    → ((n : ℕ) (e : State) → opening S L s n e → Passes S L e) → TellsAll opening S L s start limit step

-- ---- what is common to all editions

-- What is done at s with the number x that is next: if x isn't past the limit a pass begins, base and base + 3 hold x, limit and step stay; else the machine goes on
-- behind the loop instruction.
pub data Turns (S : Storage) (L : LoopAt) (limit step : ℤ) (s : State) (x : ℤ) : Type 0 where
  jumps_on :
      (t : State) → is_past limit step x ≡ false → begins_pass S s ≡ true → step_of S s ≡ on t → Controls S L t x limit step
      → number_in S L t ≡ Integer x → Turns S L limit step s x
  goes_behind : (t : State) → is_past limit step x ≡ true → begins_pass S s ≡ false → step_of S s ≡ on t → Behind L t → Turns S L limit step s x

-- what an edition has to show of a loop: what opens the first pass is reached and does so with start, and a visit with a number that isn't past the limit goes on
-- by one step
pub record ByOne (opening : Opening) (S : Storage) (L : LoopAt) (s : State) (start limit step : ℤ) : Type 0 where
  pub before : ℕ
  pub opener : State
  pub opened : opening S L s before opener
  pub reached : Steps S s before opener
  pub turns : Turns S L limit step opener start
  pub onward :
      (u : State) (v : ℤ) → fit_of S u ≡ true → mark_in u.frames ≡ 70 → visits L u ≡ true → Controls S L u v limit step
      → is_past limit step v ≡ false → Turns S L limit step u (v +ℤ step)

-- then the story is told to its end, with the numbers of the list
abbrev pub AnyEdition : Type 1
AnyEdition =
    (opening : Opening) (S : Storage) (L : LoopAt) (s : State) (start limit step : ℤ) → Setting S L s start limit step → NotZero limit step
    → ByOne opening S L s start limit step → ((n : ℕ) (e : State) → opening S L s n e → AllBack S L e)
    → TellsAll opening S L s start limit step

-- ---- the law of Lua 5.3

-- "register base + 3 holds at the starts of the passes exactly start, start + step, and so on, up to the last one not past the limit; none if start is past it"
abbrev pub EveryChunk : Type 0
EveryChunk = LawUnder first_visit Bounded AllBack

-- Of a story that has not come to its end, or never does: where the passes before the last one kept the controls, the numbers so far are the first ones of the
-- list, whatever the last one does.
abbrev pub ChunksSoFar : Type 0
ChunksSoFar =
    (S : Storage) (L : LoopAt) (s : State) (start limit step : ℤ) → Setting S L s start limit step → Bounded limit step
    → (k : ℕ) (e : State) → first_visit S L s k e
    → (xs : List Value) (n : ℕ) (t : State) (r : Reached S L e xs n t) → KeptUntil S L r → (ys : List Value) × Chunks limit step start (xs ++ ys)

-- A state has one story at most: its values, its length and where it ends.
pub record SameStory (xs ys : List Value) (n m : ℕ) (f g : State) : Type 0 where
  pub numbers : xs ≡ ys
  pub steps : n ≡ m
  pub after : f ≡ g

abbrev pub OneStory : Type 0
OneStory =
    (S : Storage) (L : LoopAt) (e : State) (xs ys : List Value) (n m : ℕ) (f g : State) → Story S L e xs n f → Story S L e ys m g
    → SameStory xs ys n m f g

-- ---- how many they are, which, in order, each once

-- y is further on than x, the way that the step goes
abbrev pub is_further : ℤ → ℤ → ℤ → Bool
is_further step x y = cond (lt_z step (pos 0)) (lt_z y x) (lt_z x y)

-- the number at i, from 0
abbrev pub chunk_at : ℤ → ℤ → ℕ → ℤ
chunk_at start step i = start +ℤ pos i *ℤ step

-- none where start is past the limit, else (limit - start) // step + 1
abbrev pub how_many : ℤ → ℤ → ℤ → ℤ
how_many start limit step = cond (is_past limit step start) (pos 0) (floor_q (limit -ℤ start) step +ℤ pos 1)

pub record ClosedNumbers (start limit step : ℤ) (xs : List Value) : Type 0 where
  pub many : pos (length xs) ≡ how_many start limit step
  -- start + i × step, and not past the limit
  pub each : (i : ℕ) → i < length xs → get_or xs i Nil ≡ Integer (chunk_at start step i)
  pub within : (i : ℕ) → i < length xs → is_past limit step (chunk_at start step i) ≡ false
  -- in order, so each once
  pub order : (i j : ℕ) → i < j → is_further step (chunk_at start step i) (chunk_at start step j) ≡ true
  pub once : (i j : ℕ) → i < length xs → j < length xs → get_or xs i Nil ≡ get_or xs j Nil → i ≡ j

abbrev pub ClosedForm : Type 0
ClosedForm =
    (start limit step : ℤ) (xs : List Value) → NotZero limit step → Chunks limit step start xs → ClosedNumbers start limit step xs

-- ---- "and the budget suffices": the same of runs

unfoldable pub sum_of : List ℕ → ℕ
sum_of [] = 0
sum_of (b ∷ bs) = b + sum_of bs

-- n steps that lead from s to t, carried out by runs: one after another on whatever budgets, and what is left of a larger budget goes on from t
pub record Carried (S : Storage) (s : State) (n : ℕ) (t : State) : Type 0 where
  pub exact : (bs : List ℕ) → sum_of bs ≡ n → after_runs S bs s ≡ t
  pub beyond : (bs : List ℕ) → n ≤ sum_of bs → after_runs S bs s ≡ (run_of S (sum_of bs - n) t).state
  pub answered : (b : ℕ) → run_of S (n + b) s ≡ joined (ended (answer_of 70 n t) t) (run_of S b t)

abbrev pub RunsCarry : Type 0
RunsCarry =
    (S : Storage) (s t : State) (n : ℕ) → check_of S ≡ Ok tt → fit_of S s ≡ true → mark_in s.frames ≡ 70 → Steps S s n t
    → Carried S s n t

-- number i of a story, in runs: after k + steps in all a pass has just begun, and register base + 3 holds that number
pub record PassInRuns (S : Storage) (L : LoopAt) (s : State) (k : ℕ) (e : State) (xs : List Value) (i : ℕ) : Type 0 where
  pub steps : ℕ
  pub start : State
  pub reached : Reached S L e (take (suc i) xs) steps start
  pub holds : number_in S L start ≡ get_or xs i Nil
  pub carried : Carried S s (k + steps) start

-- so runs come by the start of every pass, also of a story that has no end, and by the end
pub record InRuns (S : Storage) (L : LoopAt) (s : State) (k : ℕ) (e : State) : Type 0 where
  pub reaching : (xs : List Value) (n : ℕ) (t : State) → Reached S L e xs n t → Carried S s (k + n) t
  pub passing : (xs : List Value) (n : ℕ) (f : State) → Story S L e xs n f → (i : ℕ) → i < length xs → PassInRuns S L s k e xs i
  pub ending : (xs : List Value) (n : ℕ) (f : State) → Story S L e xs n f → Carried S s (k + n) f

abbrev pub ChunksInRuns : Type 0
ChunksInRuns =
    (S : Storage) (L : LoopAt) (s : State) (start limit step : ℤ) → Setting S L s start limit step
    → (k : ℕ) (e : State) → first_visit S L s k e → InRuns S L s k e
