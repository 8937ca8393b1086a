-- The count of a run is the number of steps that the definition takes, and 70 is answered only where that is the whole budget. Assumes nothing.
use mathlib.Core.Path.{◌≡◌, refl, sym, ◌∙◌}
use Prim.Native.Nat.{ℕ, zero, suc, ◌+◌}
use native.Mathlib.Omega.{arith}
use borrow.Author.Tests.{eqb-false}
use lib.Dec.{eqb}
use Rattle.choices.proofs.Choices.{by_bool}
use Rattle.storage.specs.Layout.{Storage}
use Rattle.state.specs.States.{State}
use Rattle.step.specs.Step.{Turn, on, stop, fault, step_of}
use Rattle.step.specs.Run.{Ended, ended, answer_of, standing_of, after, run_from, run_of}
use Rattle.laws.specs.Statements.{Steps, none, more, Counted, stood, spent, stopped, faulted, CountsSteps, WholeBudget}
use Rattle.laws.proofs.Marks.{halts-apart, marks}

module _ (S : Storage) where
  module _ (s : State) (budget : ℕ) where
    abbrev Goes : ℕ → Type 0
    Goes left = (done : ℕ) (t : State) → done + left ≡ budget → Steps S s done t → Counted S s budget (run_from S left done t)

    -- what the next step makes of it
    turned :
        (left : ℕ) → Goes left → (done : ℕ) (t : State) → done + suc left ≡ budget → Steps S s done t → (x : Turn) → step_of S t ≡ x
        → Counted S s budget
        (after x (λ u. run_from S left (done + 1) u) (λ n u. ended (answer_of n (done + 1) u) u)
        (λ u. ended (answer_of 60 done u) u))
    unfolding after
    turned left ih done t b h (on u) e = ih (done + 1) u (omega arith) (more h e)
    turned left ih done t b h (stop n u) e = stopped done n t u (omega arith) h e
    turned left ih done t b h (fault u) e = faulted done t u (omega arith) h e

    from : (left : ℕ) → Goes left
    unfolding run_from
    from zero done t b h = let e : done ≡ budget = omega arith in rw e (spent t (rw e at h))
    from (suc left) done t b h = turned left (from left) done t b h (step_of S t) refl

pub counted : CountsSteps
unfolding run_of
counted S s b =
    by_bool (eqb (standing_of S s).number 70) (λ e. rw e (from S s b b 0 s (omega arith) none))
    (λ e. rw e (stood (eqb-false _ _ e)))

-- ---- 70

number_of : (n c : ℕ) (t : State) → (answer_of n c t).number ≡ n
unfolding answer_of
number_of n c t = refl

count_of : (n c : ℕ) (t : State) → (answer_of n c t).count ≡ c
unfolding answer_of
count_of n c t = refl

-- a step that stops does so with 0 or a Lua error's number
halts : (S : Storage) (t u : State) (k : ℕ) → step_of S t ≡ stop k u → k ≡ 70 → ⊥
halts S t u k e = halts-apart k (rw e at (marks S t)).1

whole : {S : Storage} {s : State} {budget : ℕ} {e : Ended} → Counted S s budget e → e.answer.number ≡ 70 → e.answer.count ≡ budget
whole (stood n) h = absurd (n h)
whole (spent t x) h = count_of 70 _ t
whole {S} (stopped n k t u l x e) h = absurd (halts S t u k e (sym (number_of k (n + 1) u) ∙ h))
whole (faulted n t u l x e) h = let z : ◌≡◌ {A = ℕ} 60 70 = sym (number_of 60 n u) ∙ h in absurd (omega arith)

pub whole_budget : WholeBudget
whole_budget S s b = whole (counted S s b)
