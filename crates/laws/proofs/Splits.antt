-- Runs of a, then b, are one run of a + b. Assumes nothing.
use mathlib.Core.Path.{◌≡◌, refl, sym, ap, ◌∙◌}
use mathlib.Core.Bool.{true, false}
use Prim.Native.Nat.{ℕ, zero, suc, ◌+◌, ◌≤◌}
use native.Mathlib.Omega.{arith}
use native.Mathlib.Nat.{zero-add, suc-add}
use borrow.Author.Tests.{ne_eqb, eqb-true}
use lib.Dec.{eqb}
use lib.ListN.{length}
use Rattle.choices.proofs.Choices.{by_bool}
use Rattle.storage.specs.Layout.{Storage}
use Rattle.state.specs.Frames.{mark_in}
use Rattle.state.proofs.Fields.{mark-length, mark-mark}
use Rattle.fitness.specs.Fit.{fit_of}
use Rattle.fitness.proofs.Facts.{fit-facts}
use Rattle.state.specs.States.{State, frames_size}
use Rattle.step.specs.Step.{Turn, on, stop, fault, step_of}
use Rattle.step.specs.Run.{Ended, ended, outcome, naming, answer_of, standing_of, after, run_from, run_of}
use Rattle.laws.specs.Statements.{joined, two_runs, Resumable, SplitAny}
use Rattle.laws.proofs.Marks.{Halts, halts-apart, halts-small, MarkedAs, Marks, marks}

-- how a run of a running machine ended, before it is answered by a number: with its count and the state that it left
data Ran : Type 0 where
  used : ℕ → State → Ran
  halted : ℕ → ℕ → State → Ran
  broke : ℕ → State → Ran

abbrev answered : Ran → Ended
answered (used c t) = ended (answer_of 70 c t) t
answered (halted n c t) = ended (answer_of n c t) t
answered (broke c t) = ended (answer_of 60 c t) t

-- c steps were counted before
abbrev later : ℕ → Ran → Ran
later c (used d t) = used (c + d) t
later c (halted n d t) = halted n (c + d) t
later c (broke d t) = broke (c + d) t

-- a run that used its budget goes on
abbrev goes_on : Ran → (ℕ → State → Ran) → Ran
goes_on (used c t) f = f c t
goes_on (halted n c t) f = halted n c t
goes_on (broke c t) f = broke c t

abbrev turned : Turn → ℕ → (State → Ran) → Ran
turned (on t) done go = go t
turned (stop n t) done go = halted n (done + 1) t
turned (fault t) done go = broke done t

module _ (S : Storage) where
  unfoldable ran_from : ℕ → ℕ → State → Ran
  ran_from zero done s = used done s
  ran_from (suc left) done s = turned (step_of S s) done (λ t. ran_from left (done + 1) t)

  -- ---- a run is such a run, answered

  after_turn :
      (x : Turn) (done : ℕ) (f : State → Ended) (g : State → Ran) → ((t : State) → f t ≡ answered (g t))
      → after x f (λ n t. ended (answer_of n (done + 1) t) t) (λ t. ended (answer_of 60 done t) t) ≡ answered (turned x done g)
  unfolding after
  after_turn (on t) done f g h = h t
  after_turn (stop n t) done f g h = refl
  after_turn (fault t) done f g h = refl

  ran : (left done : ℕ) (s : State) → run_from S left done s ≡ answered (ran_from left done s)
  unfolding run_from ran_from
  ran zero done s = refl
  ran (suc left) done s =
      after_turn (step_of S s) done (λ t. run_from S left (done + 1) t) (λ t. ran_from left (done + 1) t) (λ t. ran left (done + 1) t)

  -- ---- a, then b

  splits-turn :
      (x : Turn) (done : ℕ) (f g : State → Ran) (k : ℕ → State → Ran) → ((t : State) → f t ≡ goes_on (g t) k)
      → turned x done f ≡ goes_on (turned x done g) k
  splits-turn (on t) done f g k h = h t
  splits-turn (stop n t) done f g k h = refl
  splits-turn (fault t) done f g k h = refl

  splits : (a b done : ℕ) (s : State) → ran_from (a + b) done s ≡ goes_on (ran_from a done s) (ran_from b)
  unfolding ran_from
  splits zero b done s = rw zero-add
  splits (suc a) b done s =
      rw suc-add
      (splits-turn (step_of S s) done (λ t. ran_from (a + b) (done + 1) t) (λ t. ran_from a (done + 1) t) (ran_from b)
      (λ t. splits a b (done + 1) t))

  -- ---- counting on from c

  later-turn :
      (x : Turn) (c done : ℕ) (f g : State → Ran) → ((t : State) → f t ≡ later c (g t))
      → turned x (c + done) f ≡ later c (turned x done g)
  later-turn (on t) c done f g h = h t
  later-turn (stop n t) c done f g h = let e : c + done + 1 ≡ c + (done + 1) = omega arith in rw e
  later-turn (fault t) c done f g h = refl

  counts-on : (left c done : ℕ) (s : State) → ran_from left (c + done) s ≡ later c (ran_from left done s)
  unfolding ran_from
  counts-on zero c done s = refl
  counts-on (suc left) c done s =
      let e : c + done + 1 ≡ c + (done + 1) = omega arith in
      later-turn (step_of S s) c done (λ t. ran_from left (c + done + 1) t) (λ t. ran_from left (done + 1) t)
      (λ t. ap (λ (x : ℕ). ran_from left x t) e ∙ counts-on left c (done + 1) t)

  counts-from : (left c : ℕ) (s : State) → ran_from left c s ≡ later c (ran_from left 0 s)
  counts-from left c s =
      let e : c ≡ c + 0 = omega arith in
      ap (λ (x : ℕ). ran_from left x s) e ∙ counts-on left c 0 s

  -- ---- how the machine stands after it

  abbrev Stands : Ran → Type 0
  Stands (used c t) = mark_in t.frames ≡ 70
  Stands (halted n c t) = Halts n × (frames_size ≤ length t.frames → mark_in t.frames ≡ n)
  Stands (broke c t) = (mark_in t.frames ≡ 70) × (step_of S t ≡ fault t)

  pub stopped : (n : ℕ) (t : State) → MarkedAs n t → Halts n → frames_size ≤ length t.frames → mark_in t.frames ≡ n
  stopped n t m halts l =
      let e = m.same in
      let f = m.before.frames in
      let h : length t.frames ≡ length f = ap (λ (x : State). length x.frames) e ∙ mark-length f n m.operand in
      ap (λ (x : State). mark_in x.frames) e ∙ mark-mark f n m.operand (omega arith) (halts-small n halts)

  stands-turn :
      (s : State) → mark_in s.frames ≡ 70 → (x : Turn) → step_of S s ≡ x → Marks s x → (done : ℕ) (g : State → Ran)
      → ((t : State) → mark_in t.frames ≡ 70 → Stands (g t)) → Stands (turned x done g)
  stands-turn s m (on t) e k done g h = h t (k ∙ m)
  stands-turn s m (stop n t) e k done g h = (k.1, λ l. stopped n t k.0 k.1 l)
  stands-turn s m (fault t) e k done g h = (ap (λ (x : State). mark_in x.frames) k ∙ m, ap (step_of S) k ∙ e)

  stands : (left done : ℕ) (s : State) → mark_in s.frames ≡ 70 → Stands (ran_from left done s)
  unfolding ran_from
  stands zero done s m = m
  stands (suc left) done s m =
      stands-turn s m (step_of S s) refl (marks S s) done (λ t. ran_from left (done + 1) t) (λ t n. stands left (done + 1) t n)

  -- ---- a run of a fit machine, by its mark

  module _ (t : State) (fit : fit_of S t ≡ true) where
    pub runs_on : mark_in t.frames ≡ 70 → (b : ℕ) → run_of S b t ≡ run_from S b 0 t
    unfolding run_of standing_of answer_of
    runs_on m b = rw (fit, m)

    pub repeats : (n : ℕ) → Halts n → mark_in t.frames ≡ n → (b : ℕ) → run_of S b t ≡ ended (answer_of n 0 t) t
    unfolding run_of standing_of answer_of
    repeats n h m b = rw (fit, m, ne_eqb n 70 (halts-apart n h))

  number_of : (n c : ℕ) (t : State) → (answer_of n c t).number ≡ n
  unfolding answer_of
  number_of n c t = refl

  count_of : (n c : ℕ) (t : State) → (answer_of n c t).count ≡ c
  unfolding answer_of
  count_of n c t = refl

  -- a machine that answers 70 on no budget is fit and running
  running : (s : State) → (standing_of S s).number ≡ 70 → (fit_of S s ≡ true) × (mark_in s.frames ≡ 70)
  unfolding standing_of
  running s =
      by_bool (fit_of S s) (λ e. rw e (λ h. (refl, sym (number_of (mark_in s.frames) 0 s) ∙ h))) (λ e. rw e (λ h. absurd (omega arith)))

  nothing-counted : (s : State) → (standing_of S s).count ≡ 0
  unfolding standing_of
  nothing-counted s = by_bool (fit_of S s) (λ e. rw e (count_of (mark_in s.frames) 0 s)) (λ e. rw e)

  -- ---- two answers as one

  joins :
      (n c : ℕ) (t : State) (y : Ran) → joined (ended (answer_of n c t) t) (answered y) ≡ answered (later c y)
  unfolding answer_of
  joins n c t (used d u) = refl
  joins n c t (halted k d u) = refl
  joins n c t (broke d u) = refl

  same-again : (n c k : ℕ) (t : State) → joined (ended (answer_of n c t) t) (ended (answer_of k 0 t) t) ≡ ended (answer_of k c t) t
  unfolding answer_of
  same-again n c k t = let e : c + 0 ≡ c = omega arith in rw e

  -- a fault is met again
  faults : (b : ℕ) (t : State) → step_of S t ≡ fault t → (b ≡ 0 → ⊥) → run_from S b 0 t ≡ ended (answer_of 60 0 t) t
  unfolding run_from after
  faults zero t e h = absurd (h refl)
  faults (suc b) t e h = rw e

  module _ (a b : ℕ) (s : State) where
    -- however the first run ended
    ended-first :
        (x : Ran) → Stands x → fit_of S (answered x).state ≡ true → ((answered x).answer.number ≡ 60 → b ≡ 0 → ⊥)
        → joined (answered x) (run_of S b (answered x).state) ≡ answered (goes_on x (ran_from b))
    ended-first (used c t) m fit goes =
        ap (joined (answered (used c t))) (runs_on t fit m b ∙ ran b 0 t) ∙ joins 70 c t (ran_from b 0 t)
        ∙ ap answered (sym (counts-from b c t))
    ended-first (halted n c t) m fit goes =
        ap (joined (answered (halted n c t))) (repeats t fit n m.0 (m.1 (fit-facts S t fit).stack.steady.long) b) ∙ same-again n c n t
    ended-first (broke c t) m fit goes =
        ap (joined (answered (broke c t))) (runs_on t fit m.0 b ∙ faults b t m.1 (goes (number_of 60 c t))) ∙ same-again 60 c 60 t

    first : fit_of S s ≡ true → mark_in s.frames ≡ 70 → (n : ℕ) → run_of S n s ≡ answered (ran_from n 0 s)
    first fit m n = runs_on s fit m n ∙ ran n 0 s

    -- of a running machine
    splits-running : fit_of S s ≡ true → mark_in s.frames ≡ 70 → Resumable S a b s → two_runs S a b s ≡ run_of S (a + b) s
    splits-running fit m r =
        let e = first fit m a in
        ap (λ (x : Ended). joined x (run_of S b x.state)) e
        ∙ ended-first (ran_from a 0 s) (stands a 0 s m) (sym (ap (λ (x : Ended). fit_of S x.state) e) ∙ r.fit)
        (λ h. r.goes (ap (λ (x : Ended). x.answer.number) e ∙ h))
        ∙ ap answered (sym (splits a b 0 s))
        ∙ sym (first fit m (a + b))

    -- of any other
    stood : eqb (standing_of S s).number 70 ≡ false → (n : ℕ) → run_of S n s ≡ ended (standing_of S s) s
    unfolding run_of
    stood e n = rw e

    twice : joined (ended (standing_of S s) s) (ended (standing_of S s) s) ≡ ended (standing_of S s) s
    twice =
        let o = standing_of S s in
        let z = nothing-counted s in
        let e : o.count + o.count ≡ o.count = omega arith in
        ap (λ (c : ℕ). ended (naming (outcome o.number c o.prototype o.instruction) o.operand) s) e

    splits-stood : eqb (standing_of S s).number 70 ≡ false → two_runs S a b s ≡ run_of S (a + b) s
    splits-stood e =
        ap (λ (x : Ended). joined x (run_of S b x.state)) (stood e a) ∙ ap (joined (ended (standing_of S s) s)) (stood e b) ∙ twice
        ∙ sym (stood e (a + b))

pub split-any : SplitAny
split-any S s a b h =
    by_bool (eqb (standing_of S s).number 70)
    (λ e. let n = eqb-true (standing_of S s).number 70 e in
    splits-running S a b s (running S s n).0 (running S s n).1 (h n))
    (splits-stood S a b s)
