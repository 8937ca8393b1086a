-- Runs of an accepted image from a fit state: the state is fit again, and the answer is 0, a Lua error, or 70 with the whole budget counted. Assumes nothing.
use mathlib.Core.Path.{◌≡◌, refl, ◌∙◌}
use mathlib.Core.Bool.{true}
use mathlib.Core.List.{List, [], ◌∷◌}
use Prim.Native.Nat.{ℕ, zero, suc, ◌+◌, ◌-◌, ◌<◌}
use native.Mathlib.Omega.{arith}
use borrow.Author.Tests.{eqb-true, eqb-false}
use lib.Dec.{eqb}
use Rattle.storage.specs.Layout.{Storage}
use Rattle.storage.specs.Fields.{prototypes_of, registers_of, instructions_of}
use Rattle.storage.proofs.Six.{readable_back}
use Rattle.checker.specs.Kept.{Demanded}
use Rattle.choices.proofs.Choices.{cond_cases}
use Rattle.state.specs.Frames.{mark_in, depth_in, prototype_in, instruction_in, base_of}
use Rattle.state.specs.Record.{innermost}
use Rattle.effects.proofs.Raises.{named-few}
use Rattle.effects.specs.Effects.{Sight, sight, effect_of}
use Rattle.state.proofs.Windows.{base-last}
use Rattle.fitness.specs.Fit.{mark_fits, decoded_at, register_fits, fit_of}
use Rattle.fitness.specs.Facts.{Valid, Fit}
use Rattle.fitness.proofs.Facts.{mark-cases, fit-facts, facts-fit}
use Rattle.state.specs.States.{State}
use Rattle.reach.proofs.Reaching.{effect_suits}
use Rattle.step.specs.Step.{Turn, on, stop, fault, step_of}
use Rattle.step.specs.declared.Outcome.{Outcome}
use Rattle.step.specs.Run.{Ended, ended, answer_of, standing_of, after, run_from, run_of}
use Rattle.laws.specs.Statements.{Ends, finished, failed, used, after_runs}
use Rattle.laws.proofs.Frames.{there-prototype, there-instruction}
use Rattle.laws.proofs.Values.{effect_holds}
use Rattle.laws.proofs.Naming.{decoded-good, effect_tells}
use Rattle.laws.proofs.Marks as marks
use Rattle.laws.proofs.Marks.{Halts}
use Rattle.laws.proofs.Fitting.{Running}
use Rattle.laws.proofs.Steps.{Stays, applied}

-- ---- marks

mark-halts : (m : ℕ) → mark_fits m ≡ true → (m ≡ 70 → ⊥) → Halts m
mark-halts m e n = mark-cases m e (λ z. absurd (n z)) (λ z. rw z marks.finished) (λ z. marks.failed z)

halts-ends : (budget : ℕ) (o : Outcome) (n : ℕ) → o.number ≡ n → Halts n → Ends budget o
halts-ends budget o n z marks.finished = finished z
halts-ends budget o n z (marks.failed x) = failed (rw z x)

-- ---- one step

live :
    (t c f : List ℕ) (m base n : ℕ) (k w : List ℕ) → Valid t c f m k w → m ≡ base + n → (r : ℕ) → r < n
    → register_fits t c f k w (base + r) ≡ true
unfolding Valid
live t c f m base n k w v e r l = v (base + r) (omega arith)

pub step_stays : (S : Storage) (s : State) → Demanded S → Running S s → Stays S (step_of S s)
unfolding step_of innermost
step_stays S s demanded h =
    let t : List ℕ = S.table in
    let f : List ℕ = s.frames in
    let i : ℕ = depth_in f - 1 in
    let q : ℕ = prototype_in f i in
    let p : ℕ = instruction_in f i in
    let base : ℕ = base_of t f i in
    let st = h.fit.stack in
    let o = st.steady.some in
    let there = st.there i (omega arith) in
    let hq : q < prototypes_of t = there-prototype t f i there in
    let hp : p < instructions_of t q = there-instruction t f i there in
    let g : Sight = sight t S.kinds S.words S.texts s.kinds s.words q base in
    let end : base_of t f (depth_in f) ≡ base + registers_of t q = base-last t f (depth_in f) o in
    applied S s h.fit h.runs demanded (effect_of g (decoded_at t S.code q p)) (effect_suits t S.code q p g)
    (effect_holds S f demanded.long (readable_back demanded.reads) s.kinds s.words q base p hq
    (live t S.kinds f (base_of t f (depth_in f)) base (registers_of t q) s.kinds s.words h.fit.valid end) hp)
    (effect_tells g (decoded_at t S.code q p) (decoded-good S demanded q p hq hp))
    (named-few g (decoded_at t S.code q p))

module _ (S : Storage) (demanded : Demanded S) where
  -- what a run from a running state, with so many instructions left and so many done, answers and leaves
  data Ran (done left : ℕ) (e : Ended) : Type 0 where
    spent : e.answer.number ≡ 70 → e.answer.count ≡ done + left → Running S e.state → Ran done left e
    halted : Halts e.answer.number → Fit S e.state → Ran done left e

  more : (left done : ℕ) (e : Ended) → Ran (done + 1) left e → Ran done (suc left) e
  more left done e (spent a b c) = spent a (b ∙ (omega arith)) c
  more left done e (halted a b) = halted a b

  ran-by :
      (left done : ℕ) (x : Turn) → Stays S x → ((s : State) → Running S s → Ran (done + 1) left (run_from S left (done + 1) s))
      → Ran done (suc left)
      (after x (λ t. run_from S left (done + 1) t) (λ n t. ended (answer_of n (done + 1) t) t) (λ t. ended (answer_of 60 done t) t))
  unfolding after answer_of
  ran-by left done (on s) h ih = more left done _ (ih s h)
  ran-by left done (stop n s) h ih = halted h.halts h.fit
  ran-by left done (fault s) h ih = absurd h

  ran : (left done : ℕ) (s : State) → Running S s → Ran done left (run_from S left done s)
  unfolding run_from answer_of
  ran zero done s h = spent refl (omega arith) h
  ran (suc left) done s h = ran-by left done (step_of S s) (step_stays S s demanded h) (λ t g. ran left (done + 1) t g)

  -- what any run answers and leaves
  pub record Whole (budget : ℕ) (e : Ended) : Type 0 where
    pub fit : fit_of S e.state ≡ true
    pub ends : Ends budget e.answer

  whole_of : (budget : ℕ) (e : Ended) → Ran 0 budget e → Whole budget e
  whole_of budget e (spent a b c) = record { fit = facts-fit S e.state c.fit; ends = used a (b ∙ (omega arith)) }
  whole_of budget e (halted a b) = record { fit = facts-fit S e.state b; ends = halts-ends budget e.answer e.answer.number refl a }

  pub run-whole : (budget : ℕ) (s : State) → fit_of S s ≡ true → Whole budget (run_of S budget s)
  unfolding run_of standing_of answer_of
  run-whole budget s fit =
      let m : ℕ = mark_in s.frames in
      let h = fit-facts S s fit in
      rw fit
      (cond_cases (Whole budget) (eqb m 70) _ _
      (λ e. whole_of budget _ (ran budget 0 s (record { fit = h; runs = eqb-true _ _ e })))
      (λ e. record { fit = fit; ends = halts-ends budget (answer_of m 0 s) m refl (mark-halts m h.mark (eqb-false _ _ e)) }))

  -- whatever budgets follow
  pub after-fit : (bs : List ℕ) (s : State) → fit_of S s ≡ true → fit_of S (after_runs S bs s) ≡ true
  unfolding after_runs
  after-fit [] s fit = fit
  after-fit (b ∷ bs) s fit = after-fit bs (run_of S b s).state (run-whole b s fit).fit
