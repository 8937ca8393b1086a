-- A step leaves the mark as it is, or stops and marks the machine with its number, or is a fault and leaves everything. Assumes nothing.
use mathlib.Core.Path.{◌≡◌, refl, ap, ◌∙◌}
use mathlib.Core.List.{List}
use Prim.Native.Nat.{ℕ, ◌+◌, ◌-◌, ◌%◌, ◌<◌}
use native.Mathlib.Omega.{arith}
use lib.Dec.{eqb, leb, ltb}
use lib.ListN.{get_or}
use Rattle.choices.proofs.Choices.{by_bool}
use Rattle.storage.specs.Layout.{Storage}
use Rattle.storage.specs.Fields.{registers_of}
use Rattle.checker.specs.Decode.{class_of}
use Rattle.checker.specs.declared.Class.{Class}
use Rattle.checker.specs.declared.Class.TheVariants.{Calls, Returns, Other}
use Rattle.checker.specs.Check.{limits_of}
use Rattle.state.specs.Frames.{mark_in, opened_with}
use Rattle.state.specs.Marks.{is_lua_error}
use Rattle.state.proofs.Marks.{error_bounds, error_stands}
use Rattle.state.proofs.Fields.{depth-mark, gone-mark, opened-mark}
use Rattle.state.specs.Record.{innermost}
use Rattle.state.specs.declared.Activation.{Activation}
use Rattle.effects.specs.declared.Go.{Go}
use Rattle.effects.specs.declared.Go.TheVariants.{Next}
use Rattle.effects.specs.declared.Effect.{Effect}
use Rattle.effects.specs.declared.Effect.TheVariants.{Set, Goto, Clear, Loop, Enter, Leave, Fail, Fault, Get, Put, Close, Capture}
use Rattle.fitness.specs.Fit.{before_in}
use Rattle.state.specs.States.{State}
use Rattle.cells.specs.Cells.{entry_in, free_entry}
use Rattle.cells.specs.Closing.{closed_from}
use Rattle.cells.specs.Capture.{captured}
use Rattle.cells.proofs.Closed.{spares_below}
use Rattle.cells.proofs.Captured.{captured-ahead}
use Rattle.cells.proofs.Opening.{refusal-cases}
use Rattle.reach.specs.Suits.{Suits}
use Rattle.reach.proofs.Reaching.{effect_suits}
use Rattle.step.specs.Step.{Turn, on, stop, fault, marked, gone_on, callee_of, caller_of, called_in, called, enter_of, window_closed, back_of, leave_of, moved_on, close_of, capture_of, carried_out, effect_at, step_of}
use Rattle.laws.specs.Statements.{LuaError}

-- 0 or a Lua error's number
pub data Halts : ℕ → Type 0 where
  finished : Halts 0
  failed : {n : ℕ} → LuaError n → Halts n

pub halts-apart : (n : ℕ) → Halts n → n ≡ 70 → ⊥
halts-apart n finished e = omega arith
halts-apart n (failed h) e = error_stands n h e

-- it is a byte
pub halts-small : (n : ℕ) → Halts n → n < 256
halts-small n finished = omega arith
halts-small n (failed h) = omega (arith, (error_bounds n h).1)

-- t is a state marked with n and some operand
pub record MarkedAs (n : ℕ) (t : State) : Type 0 where
  pub before : State
  pub operand : ℕ
  pub same : t ≡ marked n operand before

abbrev pub Marks : State → Turn → Type 0
Marks s (on t) = mark_in t.frames ≡ mark_in s.frames
Marks s (stop n t) = MarkedAs n t × Halts n
Marks s (fault t) = t ≡ s

-- ---- effect by effect

module _ (table code : List ℕ) (a : Activation) (s : State) where
  went : (go : Go) → mark_in (gone_on s.frames a go) ≡ mark_in s.frames
  went go = gone-mark s.frames (a.depth - 1) _

  calls : (b : Activation) → mark_in (called_in s.frames a b) ≡ mark_in s.frames
  calls b =
      depth-mark (opened_with a.depth b.prototype b.closure (gone_on s.frames a Next)) b.depth
      ∙ opened-mark (gone_on s.frames a Next) a.depth b.prototype b.closure
      ∙ went Next

  with-mark : (n operand : ℕ) (t : State) → MarkedAs n (marked n operand t)
  with-mark n operand t = record { before = t; operand = operand; same = refl }

  -- closing cells leaves what stands before them
  closes : (r : ℕ) → mark_in (closed_from r s).frames ≡ mark_in s.frames
  closes r = ap (λ (x : ℕ). x % 256) ((spares_below r s 128).low 0 (omega arith))

  enters : (function arguments : ℕ) → Marks s (enter_of table a s function arguments)
  unfolding enter_of called is_lua_error
  enters function arguments =
      let n = get_or s.words (a.base + function) 0 in
      let q = entry_in s.frames n - 1 in
      by_bool (eqb (get_or s.kinds (a.base + function) 0) 5)
      (λ e. rw e (by_bool (leb 16 a.depth) (λ f. rw f (with-mark 51 0 s, failed refl))
      (λ f. rw f (by_bool (ltb 2048 (a.base + registers_of table a.prototype + registers_of table q))
      (λ g. rw g (with-mark 52 0 s, failed refl))
      (λ g. rw g (calls (callee_of table a q n)))))))
      (λ e. rw e (with-mark 50 0 s, failed refl))

  backs : (b : Activation) (start n : ℕ) (c : Class) → Marks s (back_of a b s start n c)
  unfolding back_of
  backs b start n (Calls function returns) = depth-mark (window_closed a s).frames b.depth ∙ closes a.base
  backs b start n (Returns r m) = refl
  backs b start n Other = refl

  leaves : (start n : ℕ) → Marks s (leave_of table code a s start n)
  unfolding leave_of
  leaves start n =
      by_bool (leb a.depth 1) (λ e. rw e (with-mark 0 0 (window_closed a s), finished))
      (λ e. rw e (backs (caller_of table s.frames a) start n (class_of (before_in table code s.frames (a.depth - 2)))))

  closing : (from target : ℕ) → Marks s (close_of a s from target)
  unfolding close_of
  closing from target = gone-mark (closed_from (a.base + from) s).frames (a.depth - 1) _ ∙ closes (a.base + from)

  captures : (dest q : ℕ) → Marks s (capture_of table a s dest q)
  unfolding capture_of is_lua_error
  captures dest q =
      let f = captured table q a.base a.closure (free_entry s.frames) s.frames in
      refusal-cases table q a.base s.frames
      (λ e. rw e
      (gone-mark f (a.depth - 1) _
      ∙ ap (λ (x : ℕ). x % 256) (captured-ahead table q a.base a.closure (free_entry s.frames) s.frames 0 (omega arith))))
      (λ e. rw e (with-mark 53 0 s, failed refl)) (λ e. rw e (with-mark 54 0 s, failed refl))

  carried : (q p : ℕ) (e : Effect) → Suits (limits_of table q) p e → Marks s (carried_out table code a s e)
  unfolding carried_out moved_on
  carried q p (Set r k w go) h = went go
  carried q p (Goto go) h = went go
  carried q p (Clear r n) h = went Next
  carried q p (Loop r k w t) h = went _
  carried q p (Enter function arguments) h = enters function arguments
  carried q p (Leave start n) h = leaves start n
  carried q p (Fail n named) h = (with-mark n named s, failed h)
  carried q p Fault h = refl
  carried q p (Get dest u) h = went Next
  carried q p (Put u source) h = went Next
  carried q p (Close from target) h = closing from target
  carried q p (Capture dest n) h = captures dest n

pub marks : (S : Storage) (s : State) → Marks s (step_of S s)
unfolding step_of
marks S s =
    let a = innermost S.table s.frames in
    carried S.table S.code a s a.prototype a.instruction (effect_at S a s)
    (effect_suits S.table S.code a.prototype a.instruction _)
