-- What closures share: document 02, 6/12, as statements of every fit state; proofs/Laws has a proof of each. Assumes nothing.
use Rattle.std.specs.Prelude.{true, ◌↔◌, ◌⊎◌, ◌≡◌, List, [], ◌∷◌, ℕ, ◌+◌, ◌-◌, ◌<◌, ◌≤◌, get_or, set, Ok}
use Rattle.image.specs.Instruction.{packed}
use Rattle.image.specs.Frames.{opens, const, code, ends, desc}
use Rattle.storage.specs.Layout.{Storage}
use Rattle.storage.specs.Fields.{descriptors_of, descriptor_of}
use Rattle.comparison.specs.Comparison.{is_equal_of}
use Rattle.constant.specs.declared.Value.TheVariants.{Function}
use Rattle.checker.specs.Check.{check_of}
use Rattle.checker.specs.declared.Instruction.{Instruction}
use Rattle.checker.specs.declared.Instruction.TheVariants as instruction
use Rattle.state.specs.Record.{innermost}
use Rattle.state.specs.States.{State, state}
use Rattle.state.specs.declared.Activation.{Activation}
use Rattle.cells.specs.Cells.{entry_in, held_in, cell_in, place_of, free_entry}
use Rattle.cells.specs.Capture.{captures_of, free_cells, needed, refusal}
use Rattle.fitness.specs.Fit.{fit_of, decoded_at}
use Rattle.step.specs.Step.{on, stop, marked, step_of}
use Rattle.step.specs.Run.{outcome, run_of}
use Rattle.laws.specs.Examples.{read_from, running}

-- ---- a state's innermost activation, and its next instruction

abbrev pub inner : Storage → State → Activation
inner S s = innermost S.table s.frames

abbrev pub coming_up : Storage → State → Instruction
coming_up S s = decoded_at S.table S.code (inner S s).prototype (inner S s).instruction

-- the step goes on, to a state of which P holds
pub record StepsTo (S : Storage) (s : State) (P : State → Type 0) : Type 0 where
  pub to : State
  pub step : step_of S s ≡ on to
  pub so : P to

-- ---- what a register and an upvalue hold

pub record Content : Type 0 where
  pub kind : ℕ
  pub word : ℕ

abbrev pub content_at : State → ℕ → Content
content_at s i = record { kind = get_or s.kinds i 0; word = get_or s.words i 0 }

-- the number of the cell that is upvalue u of closure x. A closure is told as an activation's record holds it: 0 none, else its entry + 1
abbrev pub cell_of : State → ℕ → ℕ → ℕ
cell_of s x u = held_in s.frames x u - 1

abbrev pub upvalue_of : State → ℕ → ℕ → Content
upvalue_of s x u = content_at s (place_of s.frames (cell_of s x u))

-- its cell is in use; it is open on register r; it is closed
abbrev pub IsUsed : State → ℕ → ℕ → Type 0
IsUsed s x u = 0 < cell_in s.frames (cell_of s x u)

abbrev pub IsOpenOn : State → ℕ → ℕ → ℕ → Type 0
IsOpenOn s x u r = cell_in s.frames (cell_of s x u) ≡ 2 + r

abbrev pub IsClosed : State → ℕ → ℕ → Type 0
IsClosed s x u = cell_in s.frames (cell_of s x u) ≡ 1

-- upvalue u of closure x and upvalue v of closure y are one cell
abbrev pub Share : State → ℕ → ℕ → ℕ → ℕ → Type 0
Share s x u y v = cell_of s x u ≡ cell_of s y v

-- ---- "An open cell is the register: two closures over one register share it."

abbrev pub OpenIsRegister : Type 0
OpenIsRegister = (s : State) (x u r : ℕ) → IsOpenOn s x u r → upvalue_of s x u ≡ content_at s r

abbrev pub OneRegisterShared : Type 0
OneRegisterShared =
    (S : Storage) (s : State) → fit_of S s ≡ true → (x u y v r : ℕ) → IsOpenOn s x u r → IsOpenOn s y v r → Share s x u y v

-- ---- "GetUpValue (a dest, b upvalue), SetUpValue (a upvalue, b source)", open or closed

abbrev pub GetsUpvalue : Type 0
GetsUpvalue =
    (S : Storage) (s : State) (dest u : ℕ) → fit_of S s ≡ true → coming_up S s ≡ instruction.GetUpValue dest u
    → StepsTo S s (λ t. content_at t ((inner S s).base + dest) ≡ upvalue_of s (inner S s).closure u)

-- what is stored through one closure is there through every closure that shares the cell, and through no other
pub record Stored (s t : State) (x u : ℕ) (c : Content) : Type 0 where
  pub shared : (y v : ℕ) → Share s x u y v → upvalue_of t y v ≡ c
  pub others : (y v : ℕ) → IsUsed s y v → (Share s x u y v → ⊥) → upvalue_of t y v ≡ upvalue_of s y v

abbrev pub SetsUpvalue : Type 0
SetsUpvalue =
    (S : Storage) (s : State) (u source : ℕ) → fit_of S s ≡ true → coming_up S s ≡ instruction.SetUpValue u source
    → StepsTo S s (λ t. Stored s t (inner S s).closure u (content_at s ((inner S s).base + source)))

-- ---- "Closure with descriptors": "00 and a parent's register, or 01 and the parent's upvalue number"; "the lowest free ones taken"

-- entry e of t is a closure of prototype q, made in s by the activation a; the entries of before are as they were
pub record Made (S : Storage) (a : Activation) (s t : State) (q e : ℕ) : Type 0 where
  pub free : entry_in s.frames e ≡ 0
  pub lowest : (i : ℕ) → i < e → 0 < entry_in s.frames i
  pub entry : entry_in t.frames e ≡ q + 1
  pub registers :
      (j : ℕ) → j < descriptors_of S.table q → descriptor_of S.table q j < 256
      → IsOpenOn t (e + 1) j (a.base + descriptor_of S.table q j)
  pub upvalues :
      (j : ℕ) → j < descriptors_of S.table q → 256 ≤ descriptor_of S.table q j
      → cell_of t (e + 1) j ≡ cell_of s a.closure (descriptor_of S.table q j - 256)
  pub others : (x u : ℕ) → (x ≡ e + 1 → ⊥) → cell_of t x u ≡ cell_of s x u

abbrev pub MakesClosure : Type 0
MakesClosure =
    (S : Storage) (s : State) (dest q : ℕ) → fit_of S s ≡ true → coming_up S s ≡ instruction.Closure dest q
    → refusal S.table q (inner S s).base s.frames ≡ 0
    → StepsTo S s
    (λ t. Made S (inner S s) s t q (free_entry s.frames)
    × (content_at t ((inner S s).base + dest) ≡ record { kind = 5; word = free_entry s.frames }))

-- "53 no closure entry, then 54 too few cells, both leaving what 50 leaves"
abbrev pub NoEntry : Type 0
NoEntry =
    (S : Storage) (s : State) (dest q : ℕ) → coming_up S s ≡ instruction.Closure dest q → ((e : ℕ) → e < 64 → 0 < entry_in s.frames e)
    → step_of S s ≡ stop 53 (marked 53 0 s)

abbrev pub TooFewCells : Type 0
TooFewCells =
    (S : Storage) (s : State) (dest q e : ℕ) → coming_up S s ≡ instruction.Closure dest q → e < 64 → entry_in s.frames e ≡ 0
    → free_cells s.frames 128 < needed S.table q (inner S s).base s.frames (captures_of S.table q)
    → step_of S s ≡ stop 54 (marked 54 0 s)

-- ---- "closes that register .. and all above it": a cell takes its register's value and is no longer the register; its number and the entries over it stay

pub record Closes (r : ℕ) (s t : State) : Type 0 where
  pub cell : (x u : ℕ) → cell_of t x u ≡ cell_of s x u
  pub keeps : (x u : ℕ) → upvalue_of t x u ≡ upvalue_of s x u
  pub above : (x u j : ℕ) → IsOpenOn s x u j → r ≤ j → IsClosed t x u
  pub below : (x u j : ℕ) → IsOpenOn s x u j → j < r → IsOpenOn t x u j

abbrev pub JumpCloses : Type 0
JumpCloses =
    (S : Storage) (s : State) (from target : ℕ) → fit_of S s ≡ true → coming_up S s ≡ instruction.Close from target
    → StepsTo S s (λ t. Closes ((inner S s).base + from) s t)

-- "Return closes the activation's cells": also the outermost one's, which stops with 0. Values handed down go into the caller's registers, and so into its open cells
pub record Returns (S : Storage) (s : State) : Type 0 where
  pub to : State
  pub step : (step_of S s ≡ on to) ⊎ (step_of S s ≡ stop 0 to)
  pub cell : (x u : ℕ) → cell_of to x u ≡ cell_of s x u
  pub closes : (x u j : ℕ) → IsOpenOn s x u j → (inner S s).base ≤ j → IsClosed to x u × (upvalue_of to x u ≡ upvalue_of s x u)

abbrev pub ReturnCloses : Type 0
ReturnCloses =
    (S : Storage) (s : State) (start n : ℕ) → fit_of S s ≡ true → coming_up S s ≡ instruction.Return start n → Returns S s

-- ---- a closed cell is nobody's register

abbrev pub ClosedKeeps : Type 0
ClosedKeeps =
    (s : State) (x u r kind word : ℕ) → IsClosed s x u → r < 2048
    → upvalue_of (state s.frames (set s.kinds r kind) (set s.words r word)) x u ≡ upvalue_of s x u

abbrev pub ClosedSpares : Type 0
ClosedSpares =
    (S : Storage) (s : State) (u source : ℕ) → fit_of S s ≡ true → coming_up S s ≡ instruction.SetUpValue u source
    → IsClosed s (inner S s).closure u → StepsTo S s (λ t. (r : ℕ) → r < 2048 → content_at t r ≡ content_at s r)

-- ---- "two functions are equal when they are one entry"

abbrev pub OneEntry : Type 0
OneEntry = (words texts : List ℕ) (e d : ℕ) → (is_equal_of words texts (Function e) (Function d) ≡ true) ↔ (e ≡ d)

-- ---- two helpers that remember one date: "next" adds 1 to it, "tell" tells it

abbrev pub helpers : Storage
helpers =
    read_from 4
    -- Closure of 1, Call it for two values, Call the first, Call the second for its value, Return that
    (opens 2 0
    ∷ code (packed 17 0 0 1 0)
    ∷ code (packed 10 0 0 0 2)
    ∷ code (packed 10 0 0 0 0)
    ∷ code (packed 10 0 1 0 1)
    ∷ code (packed 12 0 1 1 0)
    -- register 0 becomes 5, Closures of 2 and 3 over it, Call the first, Return both
    ∷ opens 4 0
    ∷ const 2 5
    ∷ code (packed 1 0 0 0 0)
    ∷ code (packed 17 0 1 2 0)
    ∷ code (packed 17 0 2 3 0)
    ∷ code (packed 0 0 3 1 0)
    ∷ code (packed 10 0 3 0 0)
    ∷ code (packed 12 0 1 2 0)
    -- GetUpValue, Add 1, SetUpValue, Return
    ∷ opens 1 0
    ∷ desc 0 0
    ∷ const 2 1
    ∷ code (packed 24 0 0 0 0)
    ∷ code (packed 33 2 0 0 0)
    ∷ code (packed 25 0 0 0 0)
    ∷ code (packed 12 0 0 0 0)
    -- GetUpValue, Return
    ∷ opens 1 0
    ∷ desc 0 0
    ∷ code (packed 24 0 0 0 0)
    ∷ code (packed 12 0 0 1 0)
    ∷ ends 4
    ∷ [])

-- one "next" while the register is live and the cell open, one when it has returned and the cell is closed: 7 is told
abbrev pub Remembered : Type 0
Remembered =
    (check_of helpers ≡ Ok tt) × ((fit_of helpers running ≡ true)
    × (((run_of helpers 21 running).answer ≡ outcome 0 21 0 4)
    × (content_at (run_of helpers 21 running).state 1 ≡ record { kind = 2; word = 7 })))
