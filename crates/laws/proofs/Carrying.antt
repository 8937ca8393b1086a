-- Steps of the definition carried out by runs: on whatever budgets, one after another, as on their sum; and of a loop's passes and its end. Assumes nothing.
use mathlib.Core.Path.{◌≡◌, refl, sym, ap, ◌∙◌}
use mathlib.Core.Bool.{true}
use mathlib.Core.List.{List, [], ◌∷◌}
use Prim.Native.Nat.{ℕ, suc, ◌+◌, ◌-◌, ◌≤◌}
use native.Mathlib.Omega.{arith}
use lib.Dec.{eqb}
use lib.ListN.{take}
use Rattle.choices.proofs.Choices.{by_bool}
use Rattle.storage.specs.Layout.{Storage}
use Rattle.constant.specs.declared.Value.{Value}
use Rattle.checker.specs.Kept.{Demanded}
use Rattle.checker.proofs.Exact.{exact}
use Rattle.state.specs.States.{State}
use Rattle.fitness.specs.Fit.{fit_of}
use Rattle.fitness.proofs.Facts.{fit-facts, facts-fit}
use Rattle.step.specs.Step.{on, step_of}
use Rattle.step.specs.Run.{Ended, ended, answer_of, standing_of, after, run_from, run_of}
use Rattle.laws.specs.Statements as statements
use Rattle.laws.specs.Statements.{Steps, after_runs, joined, Resumable}
use Rattle.laws.specs.Passes.{Reached}
use Rattle.laws.specs.Chunks.{sum_of, Carried, RunsCarry, ChunksInRuns}
use Rattle.laws.proofs.Fitting.{Running}
use Rattle.laws.proofs.Runs.{run-whole}
use Rattle.laws.proofs.NoFault.{ends-apart}
use Rattle.laws.proofs.Splits.{runs_on, split-any}
use Rattle.laws.proofs.Stories.{in_turn, comes-steps, reached-steps, story_steps, pass_of}

-- ---- steps are what a run does

module _ (S : Storage) where
  turned_on : (s t : State) (left done : ℕ) → step_of S s ≡ on t → run_from S (suc left) done s ≡ run_from S left (done + 1) t
  unfolding run_from after
  turned_on s t left done e = rw e

  steps-run : {s t : State} {n : ℕ} → Steps S s n t → (b done : ℕ) → run_from S (n + b) done s ≡ run_from S b (done + n) t
  steps-run {s = s} statements.none b done =
      let e : 0 + b ≡ b = omega arith in
      let d : done + 0 ≡ done = omega arith in
      rw (e, d)
  steps-run {s = s} (statements.more {n = n} {t = t} {u = u} h e) b done =
      let i : n + 1 + b ≡ n + suc b = omega arith in
      let j : done + n + 1 ≡ done + (n + 1) = omega arith in
      ap (λ (x : ℕ). run_from S x done s) i ∙ steps-run h (suc b) done ∙ turned_on t u b (done + n) e ∙ ap (λ (x : ℕ). run_from S b x u) j

  nothing_left : (done : ℕ) (t : State) → run_from S 0 done t ≡ ended (answer_of 70 done t) t
  unfolding run_from
  nothing_left done t = refl

  -- a run on no budget leaves the state as it is
  no_budget : (s : State) → (run_of S 0 s).state ≡ s
  unfolding run_of run_from
  no_budget s = by_bool (eqb (standing_of S s).number 70) (λ e. rw e) (λ e. rw e)

module _ (S : Storage) (demanded : Demanded S) where
  -- ---- runs on whatever budgets are one run on their sum

  resumes : (s : State) → fit_of S s ≡ true → (a b : ℕ) → Resumable S a b s
  resumes s fit a b =
      let w = run-whole S demanded a s fit in
      record { fit = w.fit; goes = (λ z n. ends-apart a (run_of S a s).answer w.ends z) }

  one-run : (bs : List ℕ) (s : State) → fit_of S s ≡ true → after_runs S bs s ≡ (run_of S (sum_of bs) s).state
  unfolding after_runs sum_of
  one-run [] s fit = sym (no_budget S s)
  one-run (b ∷ bs) s fit =
      one-run bs (run_of S b s).state (run-whole S demanded b s fit).fit
      ∙ ap (λ (x : Ended). x.state) (split-any S s b (sum_of bs) (λ _. resumes s fit b (sum_of bs)))

  -- ---- steps from a running state

  module _ (s t : State) (n : ℕ) (r : Running S s) (h : Steps S s n t) where
    fit : fit_of S s ≡ true
    fit = facts-fit S s r.fit

    spent : run_of S n s ≡ ended (answer_of 70 n t) t
    spent =
        let e : n ≡ n + 0 = omega arith in
        let d : 0 + n ≡ n = omega arith in
        runs_on S s fit r.runs n ∙ ap (λ (x : ℕ). run_from S x 0 s) e ∙ steps-run S h 0 0 ∙ nothing_left S (0 + n) t
        ∙ ap (λ (x : ℕ). ended (answer_of 70 x t) t) d

    goes_on : (b : ℕ) → run_of S (n + b) s ≡ joined (ended (answer_of 70 n t) t) (run_of S b t)
    goes_on b =
        sym (split-any S s n b (λ _. resumes s fit n b)) ∙ ap (λ (x : Ended). joined x (run_of S b x.state)) spent

    carried-past : (bs : List ℕ) → n ≤ sum_of bs → after_runs S bs s ≡ (run_of S (sum_of bs - n) t).state
    carried-past bs l =
        let e : sum_of bs ≡ n + (sum_of bs - n) = omega arith in
        one-run bs s fit ∙ ap (λ (x : ℕ). (run_of S x s).state) e ∙ ap (λ (x : Ended). x.state) (goes_on (sum_of bs - n))

    pub carried : Carried S s n t
    carried =
        record {
          exact = (λ bs e.
              let z : sum_of bs - n ≡ 0 = omega arith in
              carried-past bs (omega arith) ∙ ap (λ (x : ℕ). (run_of S x t).state) z ∙ no_budget S t);
          beyond = carried-past;
          answered = goes_on;
        }

pub runs-carry : RunsCarry
runs-carry S s t n accepted fit runs h = carried S ((exact S).0 accepted) s t n (record { fit = fit-facts S s fit; runs = runs }) h

pub chunks_in_runs : ChunksInRuns
chunks_in_runs S L s start limit step h k e come =
    let reach : (xs : List Value) (n : ℕ) (t : State) → Reached S L e xs n t → Carried S s (k + n) t =
    λ xs n t r. runs-carry S s t (k + n) h.accepted h.fit h.running (in_turn S L (comes-steps S L come) (reached-steps S L r)) in
    record {
      reaching = reach;
      passing = (λ xs n f x i l.
          let p = pass_of S L x i l in
          record {
            steps = p.steps;
            start = p.start;
            reached = p.reached;
            holds = p.holds;
            carried = reach (take (suc i) xs) p.steps p.start p.reached;
          });
      ending = (λ xs n f x. runs-carry S s f (k + n) h.accepted h.fit h.running (in_turn S L (comes-steps S L come) (story_steps S L x)));
    }
