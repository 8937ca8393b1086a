-- A state is fit by its parts; and it is fit again under another mark, at another instruction, and where registers, entries and cells change. Assumes nothing.
use mathlib.Core.Path.{◌≡◌, sym, ap, ◌∙◌, subst}
use mathlib.Core.Bool.{true}
use mathlib.Core.List.{List}
use Prim.Native.Nat.{ℕ, ◌-◌, ◌/◌, ◌%◌, ◌<◌, ◌≤◌}
use native.Mathlib.Omega.{arith}
use lib.ListN.{length}
use Rattle.storage.specs.Layout.{Storage, long_enough}
use Rattle.storage.specs.Fields.{instructions_of}
use Rattle.storage.specs.Stored.{reads_back}
use Rattle.checker.specs.Decode.{class_of}
use Rattle.state.specs.Frames.{mark_in, operand_in, depth_in, prototype_in, instruction_in, base_of, mark_with, instruction_with}
use Rattle.state.specs.States.{State, state, registers_size}
use Rattle.state.proofs.Fields.{mark-mark, mark-operand, mark-depth, mark-same, gone-mark, gone-operand, gone-depth}
use Rattle.state.proofs.Stacks.{marked-end, gone-end}
use Rattle.state.proofs.Heads.{Ahead, ahead-depth, ahead-same, ahead-end}
use Rattle.fitness.specs.Fit.{mark_fits, decoded_at, is_return}
use Rattle.fitness.specs.Facts.{Stack, Fit}
use Rattle.fitness.proofs.Facts.{running-fits}
use Rattle.fitness.proofs.Keeping.{Sound, fit-sound, sound_as, mark-sound, gone-sound}
use Rattle.step.specs.Step.{marked}
use Rattle.laws.proofs.Stacks.{stack_mark, stack_ahead, stack_gone}

-- a fit state that is running
pub record Running (S : Storage) (s : State) : Type 0 where
  pub fit : Fit S s
  pub runs : mark_in s.frames ≡ 70

-- all but its image, with `end` registers live and `depth` activations
pub record Parts (S : Storage) (s : State) (end depth : ℕ) : Type 0 where
  pub kinds_long : registers_size ≤ length s.kinds
  pub words_long : registers_size ≤ length s.words
  pub mark : mark_in s.frames ≡ 70
  pub operand : operand_in s.frames ≤ 3
  pub stack : Stack S.table S.code s.frames
  pub ends : base_of S.table s.frames (depth_in s.frames) ≡ end
  pub deep : depth_in s.frames ≡ depth
  pub sound : Sound S.table S.kinds s end depth

pub runs_by : (S : Storage) (s : State) → long_enough S ≡ true → reads_back S ≡ true → (end depth : ℕ) → Parts S s end depth → Running S s
runs_by S s lent reads end depth p =
    let z = sound_as S.table S.kinds s end _ depth _ p.ends p.deep p.sound in
    record {
      fit = record {
        lent = lent;
        reads = reads;
        kinds_long = p.kinds_long;
        words_long = p.words_long;
        mark = rw p.mark running-fits;
        operand = p.operand;
        stack = p.stack;
        closed = (λ e. absurd (let z = sym p.mark ∙ e in omega arith));
        valid = z.valid;
        closures = z.closures;
      };
      runs = p.mark;
    }

module _ (S : Storage) (s : State) (h : Fit S s) where
  abbrev t : List ℕ
  t = S.table

  abbrev f : List ℕ
  f = s.frames

  abbrev d : ℕ
  d = depth_in f

  abbrev end : ℕ
  end = base_of t f d

  -- ---- another mark: a finished machine is one activation at a Return

  abbrev Returns : Type 0
  Returns = (d ≡ 1) × (is_return (class_of (decoded_at t S.code (prototype_in f 0) (instruction_in f 0))) ≡ true)

  pub marked-fit : (n operand : ℕ) → n < 256 → mark_fits n ≡ true → operand ≤ 3 → (n ≡ 0 → Returns) → Fit S (marked n operand s)
  marked-fit n operand small fits few closed =
      let long = h.stack.steady.long in
      let mm : mark_in (mark_with n operand f) ≡ n = mark-mark f n operand long small in
      let same = mark-same f n operand 0 in
      let z = sound_as t S.kinds (marked n operand s) end _ d _ (marked-end t f n operand) (mark-depth f n operand)
      (mark-sound t S.kinds f s.kinds s.words end d (fit-sound S s h) n operand) in
      record {
        lent = h.lent;
        reads = h.reads;
        kinds_long = h.kinds_long;
        words_long = h.words_long;
        mark = rw mm fits;
        operand = rw (mark-operand f n operand long small) few;
        stack = stack_mark t S.code f h.stack n operand;
        closed = (λ e. let c = closed (sym mm ∙ e) in (mark-depth f n operand ∙ c.0, rw (same.prototype, same.instruction) c.1));
        valid = z.valid;
        closures = z.closures;
      }

  module _ (runs : mark_in f ≡ 70) where
    -- ---- the innermost activation at another instruction

    pub gone-runs : (x : ℕ) → x < instructions_of t (prototype_in f (d - 1)) → Running S (state (instruction_with (d - 1) x f) s.kinds s.words)
    gone-runs x to =
        let st = h.stack.steady in
        runs_by S (state (instruction_with (d - 1) x f) s.kinds s.words) h.lent h.reads end d
        (record {
          kinds_long = h.kinds_long;
          words_long = h.words_long;
          mark = gone-mark f (d - 1) x ∙ runs;
          operand = rw (gone-operand f (d - 1) x) h.operand;
          stack = stack_gone t S.code f h.stack x to;
          ends = gone-end t f (d - 1) x;
          deep = gone-depth f (d - 1) x;
          sound = gone-sound t S.kinds f s.kinds s.words end d (fit-sound S s h) (d - 1) x (omega (arith, st.some, st.few));
        })

    -- ---- registers, entries and cells change

    pub record Alike (u : State) : Type 0 where
      pub ahead : Ahead f u.frames
      pub long : length u.frames ≡ length f
      pub kinds_long : registers_size ≤ length u.kinds
      pub words_long : registers_size ≤ length u.words
      pub sound : Sound t S.kinds u end d

    pub alike_runs : (u : State) → Alike u → Running S u
    alike_runs u a =
        let g = u.frames in
        let word = a.ahead 0 (omega arith) in
        let o : operand_in g ≡ operand_in f = ap (λ (x : ℕ). x / 256) word in
        runs_by S u h.lent h.reads end d
        (record {
          kinds_long = a.kinds_long;
          words_long = a.words_long;
          mark = ap (λ (x : ℕ). x % 256) word ∙ runs;
          operand = rw o h.operand;
          stack = stack_ahead t S.code f h.stack g a.ahead a.long;
          ends = ahead-end f g a.ahead t h.stack.steady;
          deep = ahead-depth f g a.ahead;
          sound = a.sound;
        })

-- and then the innermost activation goes on
pub alike-gone :
    (S : Storage) (s : State) (h : Fit S s) (runs : mark_in s.frames ≡ 70) (u : State) → Alike S s h runs u → (x : ℕ)
    → x < instructions_of S.table (prototype_in s.frames (depth_in s.frames - 1))
    → Running S (state (instruction_with (depth_in s.frames - 1) x u.frames) u.kinds u.words)
alike-gone S s h runs u a x to =
    let f = s.frames in
    let g = u.frames in
    let st = h.stack.steady in
    let e : depth_in g ≡ depth_in f = ahead-depth f g a.ahead in
    let q = (ahead-same f g a.ahead (depth_in f - 1) (omega (arith, st.some, st.few))).prototype in
    let r = alike_runs S s h runs u a in
    subst (λ (n : ℕ). Running S (state (instruction_with (n - 1) x g) u.kinds u.words)) e (gone-runs S u r.fit r.runs x (rw (e, q) to))
