-- A step of a fit, running state of an accepted image: no fault, and fit again. One law for each effect. Assumes nothing.
use mathlib.Core.Path.{◌≡◌, refl, sym, ◌∙◌}
use mathlib.Core.Bool.{true, false≢true}
use mathlib.Core.List.{List}
use Prim.Native.Nat.{ℕ, ◌+◌, ◌-◌, ◌<◌, ◌≤◌}
use native.Mathlib.Omega.{arith}
use borrow.Author.Tests.{ltb-false, leb-true, leb-false, eqb-true, ne_eqb}
use lib.Dec.{ltb, leb, eqb}
use lib.ListN.{length, get_or, set, length-set}
use Rattle.storage.specs.Layout.{Storage}
use Rattle.storage.specs.Fields.{prototypes_of, registers_of, parameters_of, instructions_of}
use Rattle.checker.specs.Check.{limits_of}
use Rattle.checker.specs.Kept.{Demanded}
use Rattle.checker.specs.Decode.{class_of}
use Rattle.checker.specs.declared.Instruction.{Instruction}
use Rattle.checker.specs.declared.Instruction.TheVariants as instruction
use Rattle.checker.specs.declared.Class.{Class}
use Rattle.checker.specs.declared.Class.TheVariants.{Calls, Returns, Other}
use Rattle.choices.proofs.Choices.{cond_cases}
use Rattle.state.specs.Frames.{mark_in, depth_in, prototype_in, instruction_in, closure_in, base_of, depth_with, instruction_with, opened_with}
use Rattle.state.specs.Window.{fewer, window_of}
use Rattle.state.specs.declared.Activation.{Activation}
use Rattle.effects.specs.Raising.{raised_by}
use Rattle.effects.specs.declared.Effect.{Effect}
use Rattle.effects.specs.declared.Effect.TheVariants.{Set, Goto, Clear, Loop, Enter, Leave, Fail, Fault, Get, Put, Close, Capture}
use Rattle.effects.specs.declared.Go.{Go}
use Rattle.effects.specs.declared.Go.TheVariants.{Next, To}
use Rattle.cells.specs.Cells.{entry_in, free_entry}
use Rattle.cells.specs.Closing.{closed_from}
use Rattle.cells.specs.Capture.{captured, refusal}
use Rattle.cells.proofs.Laws.{used-entry}
use Rattle.cells.proofs.Entries.{entry-behind, ahead-low}
use Rattle.cells.proofs.Closed.{Sized, spares_below}
use Rattle.cells.proofs.Captured.{captured-ahead, captured-length}
use Rattle.cells.proofs.Opening.{refusal-cases}
use Rattle.fitness.specs.Fit.{decoded_at, is_call, is_return, before_in, waits_in, register_fits}
use Rattle.state.specs.States.{State, state}
use Rattle.state.specs.Marks.{is_lua_error}
use Rattle.state.proofs.Marks.{error_bounds, error_some}
use Rattle.state.proofs.Fields.{mark-mark, depth-mark, depth-operand, gone-mark, gone-operand, gone-depth, gone-prototype, gone-instruction, gone-behind}
use Rattle.state.proofs.Windows.{base-last, base-mono, base_same}
use Rattle.state.proofs.Heads.{ahead-depth, ahead-same}
use Rattle.state.proofs.Stacks.{closed-depth, closed-end, grown-mark, grown-operand, grown-depth, grown-end}
use Rattle.fitness.specs.Facts.{Stack, Valid, Fit}
use Rattle.fitness.proofs.Facts.{finished-fits, error_fits}
use Rattle.fitness.proofs.Keeping.{Sound, fit-sound, function-entry, entry_known, sized, closed-sound, gone-sound, grown-sound, upvalue-fits}
use Rattle.fitness.proofs.Storing.{Keeps, beyond-window, set_keeps, copy-keeps, fill-keeps, window-keeps, keeps_on, keeps-sound, registers-sound, left-sound}
use Rattle.fitness.proofs.Capturing.{made-sound}
use Rattle.fitness.proofs.Descriptors.{prototypes-few, descriptors-few}
use Rattle.reach.specs.Suits.{Suits, Goes}
use Rattle.reach.proofs.Capturing.{closure_captures, captures-few, captures-registers, captures_upvalues}
use Rattle.step.specs.Step.{Turn, on, stop, fault, placed, marked, callee_of, caller_of, called, enter_of, window_closed, back_of, leave_of, upvalue_place, moved_on, close_of, capture_of, carried_out}
use Rattle.laws.specs.Holds.{Holds}
use Rattle.laws.specs.Statements.{LuaError}
use Rattle.laws.proofs.Windows.{length-window, length-stores, fewer-left, window-grow}
use Rattle.laws.proofs.Frames.{there-prototype, there-instruction}
use Rattle.laws.proofs.Stacks.{stack-pop, stack_gone, stack_grown}
use Rattle.laws.proofs.Marks.{Halts, finished, failed}
use Rattle.laws.proofs.Bounds.{few-instructions}
use Rattle.laws.proofs.Naming.{Tells}
use Rattle.laws.proofs.Moves.{following-small, placed-there}
use Rattle.laws.proofs.Fitting.{Running, runs_by, marked-fit, Alike, alike_runs, alike-gone}

pub record Halted (S : Storage) (n : ℕ) (s : State) : Type 0 where
  pub fit : Fit S s
  pub mark : mark_in s.frames ≡ n
  pub halts : Halts n

abbrev pub Stays : Storage → Turn → Type 0
Stays S (on t) = Running S t
Stays S (stop n t) = Halted S n t
Stays S (fault t) = ⊥

-- ---- a fit and running state

module _ (S : Storage) (s : State) (h : Fit S s) (runs : mark_in s.frames ≡ 70) where
  abbrev t : List ℕ
  t = S.table

  abbrev c : List ℕ
  c = S.kinds

  abbrev f : List ℕ
  f = s.frames

  abbrev st : Stack S.table S.code f
  st = h.stack

  abbrev d : ℕ
  d = depth_in f

  -- the innermost activation
  abbrev q : ℕ
  q = prototype_in f (d - 1)

  abbrev p : ℕ
  p = instruction_in f (d - 1)

  abbrev base : ℕ
  base = base_of t f (d - 1)

  abbrev a : Activation
  a = record { depth = d; prototype = q; instruction = p; base = base; closure = closure_in f (d - 1) }

  abbrev here : Instruction
  here = decoded_at t S.code q p

  -- the live registers end where the innermost window does
  end : base_of t f d ≡ base + registers_of t q
  end = base-last t f d st.steady.some

  own-known : q < prototypes_of t
  own-known = there-prototype t f (d - 1) (st.there (d - 1) (omega (arith, st.steady.some)))

  -- each register of its window holds a value
  register-fits : (r : ℕ) → r < registers_of t q → register_fits t c f s.kinds s.words (base + r) ≡ true
  unfolding Valid
  register-fits r l = let b = end in h.valid (base + r) (omega arith)

  sound : Sound t c s (base_of t f d) d
  sound = fit-sound S s h

  size : Sized s
  size = sized s (base_of t f d) h.closures.cells (omega (arith, st.steady.ends)) st.steady.long h.kinds_long h.words_long

  -- ---- an error, and the outermost Return

  fails : (n operand : ℕ) → LuaError n → operand ≤ 3 → Halted S n (marked n operand s)
  fails n operand e few =
      let small : n < 256 = omega (arith, (error_bounds n e).1) in
      record {
        fit = marked-fit S s h n operand small (error_fits n e) few (λ z. absurd (error_some n e z));
        mark = mark-mark f n operand st.steady.long small;
        halts = failed e;
      }

  -- ---- registers change, and the innermost activation goes on

  moved :
      (k w : List ℕ) (go : Go) → Goes (instructions_of t q) p go → Keeps t c f s.kinds s.words k w → length k ≡ length s.kinds
      → length w ≡ length s.words → Running S (state (instruction_with (d - 1) (placed a go).instruction f) k w)
  moved k w go to keeps lk lw =
      alike-gone S s h runs (state f k w)
      (record {
        ahead = λ k l. refl;
        long = refl;
        kinds_long = rw lk h.kinds_long;
        words_long = rw lw h.words_long;
        sound = keeps-sound t c f s.kinds s.words (base_of t f d) d (omega (arith, st.steady.ends)) sound k w keeps;
      })
      (placed a go).instruction (placed-there a (instructions_of t q) go to)

  -- ---- cells are closed

  module _ (r : ℕ) where
    abbrev shut : State
    shut = closed_from r s

    closed-alike : Alike S s h runs shut
    closed-alike =
        let x = spares_below r s 128 in
        record {
          ahead = ahead-low f shut.frames x.low;
          long = x.frames;
          kinds_long = rw x.kinds h.kinds_long;
          words_long = rw x.words h.words_long;
          sound = closed-sound t c r s (base_of t f d) d size st.steady.few (omega (arith, st.steady.ends)) sound;
        }

  close-stays : (from target : ℕ) → target < instructions_of t q → Stays S (close_of a s from target)
  unfolding close_of placed
  close-stays from target to = alike-gone S s h runs (closed_from (base + from) s) (closed-alike (base + from)) target to

  finishes : d ≤ 1 → is_return (class_of here) ≡ true → Halted S 0 (marked 0 0 (window_closed a s))
  finishes one r =
      let u = window_closed a s in
      let g = u.frames in
      let x = closed-alike base in
      let ahead = x.ahead in
      let fit = (alike_runs S s h runs u x).fit in
      let e : d ≡ 1 = omega (arith, st.steady.some) in
      let z : d - 1 ≡ 0 = omega arith in
      let same = ahead-same f g ahead 0 (omega arith) in
      let at : is_return (class_of (decoded_at t S.code (prototype_in f 0) (instruction_in f 0))) ≡ true = rw z at r in
      record {
        fit = marked-fit S u fit 0 0 (omega arith) finished-fits (omega arith)
            (λ _. (ahead-depth f g ahead ∙ e, rw (same.prototype, same.instruction) at));
        mark = mark-mark g 0 0 fit.stack.steady.long (omega arith);
        halts = finished;
      }

  -- ---- Call

  module _
      (demanded : Demanded S) (function arguments : ℕ) (given : function + 1 + arguments ≤ registers_of t q) (next : p + 1 < instructions_of t q)
      (calls : is_call (class_of here) ≡ true) where
    abbrev gone : List ℕ
    gone = instruction_with (d - 1) (p + 1) f

    few-deep : d - 1 < 16
    few-deep = omega (arith, st.steady.some, st.steady.few)

    -- the caller waits after its Call
    waiting : waits_in t S.code gone (d - 1) ≡ true
    unfolding waits_in before_in
    waiting =
        let e : p + 1 - 1 ≡ p = omega arith in
        rw (
          gone-instruction f (d - 1) (p + 1) few-deep st.steady.long,
          gone-prototype f (d - 1) (p + 1) (d - 1),
          ne_eqb (p + 1) 0 (λ z. omega arith),
          e,
        ) calls

    -- the entry that is called, and its prototype
    abbrev e : ℕ
    e = get_or s.words (base + function) 0

    abbrev r : ℕ
    r = entry_in f e - 1

    abbrev wide : ℕ
    wide = registers_of t r

    abbrev taken : ℕ
    taken = fewer arguments (parameters_of t r)

    abbrev filled : List ℕ → List ℕ
    filled l = window_of l (base + (function + 1)) (base + registers_of t q) taken wide

    abbrev grown : List ℕ
    grown = depth_with (d + 1) (opened_with d r (e + 1) gone)

    abbrev opened : State
    opened = state grown (filled s.kinds) (filled s.words)

    used : get_or s.kinds (base + function) 0 ≡ 5 → 0 < entry_in f e
    unfolding register_fits
    used n = function-entry t c f (get_or s.kinds (base + function) 0) e n (register-fits function (omega arith))

    called_as : 0 < entry_in f e → d < 16 → called t a s function arguments (callee_of t a r e) ≡ opened
    unfolding called placed
    called_as live few =
        let there = st.there (d - 1) (omega (arith, st.steady.some)) in
        let i = there-instruction t f (d - 1) there in
        let n = few-instructions S h.reads q own-known in
        let m = used-entry f e live in
        rw (following-small d (omega arith), following-small p (omega arith), following-small e (omega arith))

    module _ (live : 0 < entry_in f e) (few : d < 16) (fits : base + registers_of t q + wide ≤ 2048) where
      abbrev known : r < prototypes_of t
      known = entry_known t c f e h.closures.entries live

      stands : Stack t S.code gone
      stands = stack_gone t S.code f st (p + 1) next

      deep : d ≡ depth_in gone
      deep = sym (gone-depth f (d - 1) (p + 1))

      gone-base : base_of t gone d ≡ base + registers_of t q
      gone-base = base_same t f gone d (λ i _. gone-prototype f (d - 1) (p + 1) i) ∙ end

      -- the callee's window holds values, and its activation is over an entry of its prototype
      grown-keeps : Sound t c opened (base + registers_of t q + wide) (d + 1)
      grown-keeps =
          let k = filled s.kinds in
          let w = filled s.words in
          let m = base + registers_of t q + wide in
          let b = end in
          let ll : taken ≤ arguments = fewer-left arguments (parameters_of t r) in
          let lk = h.kinds_long in
          let lw = h.words_long in
          let v = window-grow t c f (base + registers_of t q) (base + (function + 1)) taken wide s.kinds s.words (omega arith)
          (rw end at h.valid) (omega arith) (omega arith) in
          let one = registers-sound t c f s.kinds s.words k w (base_of t f d) m d (omega arith) sound v
          (beyond-window s.kinds (base + (function + 1)) (base + registers_of t q) taken wide (omega arith))
          (beyond-window s.words (base + (function + 1)) (base + registers_of t q) taken wide (omega arith)) in
          let two = gone-sound t c f k w m d one (d - 1) (p + 1) few-deep in
          let same = entry-behind f gone (gone-behind f (d - 1) (p + 1) few-deep) e in
          rw same at
          (grown-sound t c gone k w m d two e stands.steady.long (omega (arith, st.steady.some)) few (rw same live))

      enters : Running S opened
      enters =
          let some = (demanded.each r known).some in
          let more : 0 < instructions_of t r = omega (arith, some) in
          let lk = h.kinds_long in
          let lw = h.words_long in
          let b = gone-base in
          let room : base_of t gone d + wide ≤ 2048 = omega arith in
          runs_by S opened h.lent h.reads (base + registers_of t q + wide) (d + 1)
          (record {
            kinds_long = rw length-window lk;
            words_long = rw length-window lw;
            mark = grown-mark t gone d r (e + 1) stands.steady deep few ∙ gone-mark f (d - 1) (p + 1) ∙ runs;
            operand = rw (grown-operand t gone d r (e + 1) stands.steady deep few, gone-operand f (d - 1) (p + 1)) h.operand;
            stack = stack_grown t S.code gone stands d r (e + 1) deep few waiting known more room;
            ends = grown-end t gone d r (e + 1) stands.steady deep few ∙ omega arith;
            deep = grown-depth t gone d r (e + 1) stands.steady deep few;
            sound = grown-keeps;
          })

    entered :
        get_or s.kinds (base + function) 0 ≡ 5 → d < 16 → base + registers_of t q + wide ≤ 2048
        → Running S (called t a s function arguments (callee_of t a r e))
    entered fn few fits = let live = used fn in rw (called_as live few) (enters live few fits)

    enter-stays : Stays S (enter_of t a s function arguments)
    unfolding enter_of is_lua_error
    enter-stays =
        cond_cases (Stays S) (eqb (get_or s.kinds (base + function) 0) 5) _ _
        (λ fn. cond_cases (Stays S) (leb 16 d) _ _ (λ _. fails 51 0 refl (omega arith))
        (λ few. cond_cases (Stays S) (ltb 2048 (base + registers_of t q + wide)) _ _ (λ _. fails 52 0 refl (omega arith))
        (λ fits. entered (eqb-true _ _ fn) (leb-false _ _ few) (ltb-false _ _ fits))))
        (λ _. fails 50 0 refl (omega arith))

  -- ---- Return

  module _ (start n : ℕ) (given : start + n ≤ registers_of t q) where
    abbrev u : State
    u = window_closed a s

    returned :
        (deep : 1 < d) (dst asked : ℕ)
        → Running S
        (state (depth_with (d - 1) u.frames) (window_of u.kinds (base + start) dst n asked) (window_of u.words (base + start) dst n asked))
    returned deep dst asked =
        let x = closed-alike base in
        let y = alike_runs S s h runs u x in
        let g = u.frames in
        let sg = y.fit.stack in
        let e : depth_in g ≡ d = ahead-depth f g x.ahead in
        let more : 1 < depth_in g = omega arith in
        let b = end in
        let i = st.steady.ends in
        let lk = x.kinds_long in
        let lw = x.words_long in
        let keeps = window-keeps t c g (base_of t f d) (base + start) n u.kinds u.words (omega arith) lk lw (omega arith) x.sound.valid dst asked in
        let v = depth_with (d - 1) g in
        let stack : Stack t S.code v = rw e at (stack-pop t S.code g sg more) in
        let ends : base_of t v (depth_in v) ≡ base_of t g (d - 1) = rw e at (closed-end t g sg.steady more) in
        runs_by S (state v (window_of u.kinds (base + start) dst n asked) (window_of u.words (base + start) dst n asked)) h.lent h.reads base (d - 1)
        (record {
          kinds_long = rw length-window lk;
          words_long = rw length-window lw;
          mark = depth-mark g (d - 1) ∙ y.runs;
          operand = rw (depth-operand g (d - 1)) y.fit.operand;
          stack = stack;
          ends = ends ∙ base_same t f g (d - 1) (λ j l. (ahead-same f g x.ahead j (omega (arith, st.steady.few))).prototype);
          deep = rw e at (closed-depth t g sg.steady more);
          sound = left-sound t c base s (base_of t f d) d size st.steady.few (omega arith) (base-mono t f (d - 1) d (omega arith)) sound _ _ keeps;
        })

    abbrev b : Activation
    b = caller_of t f a

    back-stays : 1 < d → (x : Class) → is_call x ≡ true → Stays S (back_of a b s start n x)
    unfolding back_of
    back-stays deep (Calls function asked) e = returned deep (b.base + function) asked
    back-stays deep (Returns x m) e = absurd (false≢true e)
    back-stays deep Other e = absurd (false≢true e)

    -- the caller stands after a Call
    caller : 1 < d → is_call (class_of (before_in t S.code f (d - 2))) ≡ true
    unfolding waits_in
    caller deep = st.waits (d - 2) (omega arith)

    leave-stays : is_return (class_of here) ≡ true → Stays S (leave_of t S.code a s start n)
    unfolding leave_of
    leave-stays r =
        cond_cases (Stays S) (leb d 1) _ _ (λ one. finishes (leb-true _ _ one) r)
        (λ deep. back-stays (leb-false _ _ deep) (class_of (before_in t S.code f (d - 2))) (caller (leb-false _ _ deep)))

  -- ---- Closure

  module _ (dest n : ℕ) (next : p + 1 < instructions_of t q) (known : n < prototypes_of t) (told : here ≡ instruction.Closure dest n) where
    abbrev made : List ℕ
    made = captured t n base (closure_in f (d - 1)) (free_entry f) f

    made-stays : refusal t n base f ≡ 0 → Stays S (capture_of t a s dest n)
    unfolding capture_of
    made-stays free =
        let in-range = closure_captures t S.code q p dest n told in
        let few = prototypes-few S h.reads in
        let lk = h.kinds_long in
        let lw = h.words_long in
        rw free
        (alike-gone S s h runs (state made (set s.kinds (base + dest) 5) (set s.words (base + dest) (free_entry f)))
        (record {
          ahead = captured-ahead t n base (closure_in f (d - 1)) (free_entry f) f;
          long = captured-length t n base (closure_in f (d - 1)) (free_entry f) f;
          kinds_long = rw length-set lk;
          words_long = rw length-set lw;
          sound = made-sound t c s (base_of t f d) d n base dest sound st.steady.long lk lw (omega (arith, st.steady.some)) st.steady.few
              st.steady.ends (sym end) known (omega arith) (captures-few t q n in-range) (descriptors-few S h.reads q own-known)
              (captures-registers t q n in-range) (captures_upvalues t q n in-range) free;
        })
        (placed a Next).instruction (placed-there a (instructions_of t q) Next next))

    capture-stays : Stays S (capture_of t a s dest n)
    unfolding capture_of is_lua_error
    capture-stays =
        refusal-cases t n base f made-stays (λ e. rw e (fails 53 0 refl (omega arith))) (λ e. rw e (fails 54 0 refl (omega arith)))

  -- ---- GetUpValue and SetUpValue: a value from one place to another

  copied-stays :
      (from to : ℕ) → p + 1 < instructions_of t q → register_fits t c f s.kinds s.words from ≡ true → Stays S (moved_on a s from to)
  unfolding moved_on
  copied-stays from to next fits =
      moved _ _ Next next (copy-keeps t c f s.kinds s.words h.kinds_long h.words_long from to fits) (length-set s.kinds to _)
      (length-set s.words to _)

  -- ---- an effect a line

  pub applied : Demanded S → (e : Effect) → Suits (limits_of t q) p e → Holds S f e → Tells here e → (raised_by e).named ≤ 3 → Stays S (carried_out t S.code a s e)
  unfolding carried_out raised_by
  applied demanded (Set r k w go) u v n few =
      moved _ _ go u.1 (set_keeps t c f s.kinds s.words h.kinds_long h.words_long (base + r) k w v) (length-set s.kinds (base + r) k)
      (length-set s.words (base + r) w)
  applied demanded (Goto go) u v n few = moved s.kinds s.words go u (λ j l x. x) refl refl
  applied demanded (Clear r m) u v n few =
      moved _ _ Next u.1 (fill-keeps t c f s.kinds s.words h.kinds_long h.words_long m (base + r))
      (length-stores _ m s.kinds (base + r) (base + r)) (length-stores _ m s.words (base + r) (base + r))
  applied demanded (Loop r k w to) u v n few =
      let lk = h.kinds_long in
      let lw = h.words_long in
      let k₁ = set s.kinds (base + r) k in
      let w₁ = set s.words (base + r) w in
      moved _ _ (To to) u.1
      (keeps_on t c f s.kinds s.words k₁ w₁ (set k₁ (base + (r + 3)) k) (set w₁ (base + (r + 3)) w)
      (set_keeps t c f s.kinds s.words lk lw (base + r) k w v)
      (set_keeps t c f k₁ w₁ (rw length-set lk) (rw length-set lw) (base + (r + 3)) k w v))
      (simp length-set) (simp length-set)
  applied demanded (Enter function arguments) u v n few = enter-stays demanded function arguments u.0 u.1 n
  applied demanded (Leave start m) u v n few = leave-stays start m u n
  applied demanded (Fail m named) u v n few = fails m named u few
  applied demanded Fault u v n few = absurd n
  applied demanded (Get dest x) u v n few =
      let own-few = descriptors-few S h.reads q own-known in
      let up = u.1.0 in
      copied-stays (upvalue_place a s x) (base + dest) u.1.1
      (upvalue-fits t c s (base_of t f d) d (d - 1) x sound (omega (arith, st.steady.some)) up (omega arith))
  applied demanded (Put x source) u v n few =
      copied-stays (base + source) (upvalue_place a s x) u.1.1 (register-fits source u.1.0)
  applied demanded (Close from to) u v n few = close-stays from to u.1
  applied demanded (Capture dest m) u v n few = capture-stays dest m u.1.1 u.1.0 n
