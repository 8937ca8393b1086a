-- A start that is accepted leaves a fit state. Assumes nothing.
use mathlib.Core.Path.{◌≡◌, refl, sym, ap, ◌∙◌}
use mathlib.Core.Bool.{Bool, true, ◌&&◌}
use mathlib.Core.List.{List}
use Prim.Native.Nat.{ℕ, ◌-◌, ◌<◌, ◌≤◌}
use native.Mathlib.Omega.{arith}
use borrow.Author.Tests.{ltb-true}
use lib.Dec.{eqb, leb, ltb}
use lib.ListN.{length, get_or}
use Rattle.choices.proofs.Choices.{by_bool, and_right, and_left}
use Rattle.storage.specs.Layout.{Storage}
use Rattle.storage.specs.Fields.{prototypes_of, registers_of, parameters_of, instructions_of}
use Rattle.constant.specs.Values.{is_value}
use Rattle.storage.proofs.Six.{readable_back}
use Rattle.checker.specs.Check.{check_of}
use Rattle.checker.specs.Kept.{Demanded}
use Rattle.std.specs.Prelude.{Ok, Err}
use Rattle.checker.specs.Check.{Checked}
use Rattle.checker.specs.declared.Refusal.{Refusal}
use Rattle.checker.proofs.Exact.{exact}
use Rattle.state.specs.Frames.{mark_in, operand_in, depth_in, prototype_in, instruction_in, base_of, mark_with, depth_with, opened_with}
use Rattle.state.specs.Window.{fewer, window_from}
use Rattle.state.proofs.Fields.{mark-length, mark-mark, mark-operand, depth-length, depth-mark, depth-operand, depth-depth, opened-length, opened-mark, opened-operand, opened-depth, opened-prototype, opened-instruction}
use Rattle.state.proofs.Windows.{base-none, base-last}
use Rattle.fitness.specs.Fit.{value_fits, fit_of}
use Rattle.fitness.specs.Facts.{Fit}
use Rattle.fitness.proofs.Facts.{long-facts, facts-fit}
use Rattle.choices.specs.Below.{all_below}
use Rattle.choices.proofs.Below.{all-at}
use Rattle.state.specs.States.{State, state_long, frames_size, registers_size}
use Rattle.fitness.proofs.Parts.{value-other}
use Rattle.fitness.proofs.Keeping.{Sound}
use Rattle.fitness.proofs.Storing.{begun-sound}
use Rattle.reach.proofs.Capturing.{kept-bare}
use Rattle.starter.specs.Start.{argument_fits, permitted, no_closures, no_cells, begun, Started, started, checked_start, start_of}
use Rattle.laws.specs.Statements.{Begun}
use Rattle.laws.proofs.Constants.{registers-fit}
use Rattle.laws.proofs.Windows.{length-stores, length-first, fewer-left, window-first}
use Rattle.laws.proofs.Frames.{there_of}
use Rattle.laws.proofs.Fitting.{runs_by}

-- ---- what an accepted start has found

refused-apart : (e : Refusal) (s t : State) → started (Err e) s ≡ started (Ok tt) t → ⊥
refused-apart r s t e =
    let a : ◌≡◌ {A = Checked} (Err r) (Ok tt) = ap (λ (x : Started). x.answer) e in
    let z : ◌≡◌ {A = ℕ} 0 1 = cc in
    omega arith

module _ (S : Storage) (arg_kinds arg_words : List ℕ) (s t : State) where
  record Passed : Type 0 where
    long : state_long s ≡ true
    accepted : check_of S ≡ Ok tt
    arguments : permitted arg_kinds arg_words ≡ true
    left : t ≡ begun S.table arg_kinds arg_words s

  passed : Begun S arg_kinds arg_words s t → Passed
  unfolding start_of checked_start
  passed e =
      by_bool (state_long s) (λ l. by-check l (check_of S) refl (rw l at e)) (λ l. absurd (refused-apart _ s t (rw l at e)))
    where
      by-check :
          state_long s ≡ true → (c : Checked) → check_of S ≡ c → checked_start c S.table arg_kinds arg_words s ≡ started (Ok tt) t → Passed
      by-check l (Ok u) c e =
          by_bool (permitted arg_kinds arg_words)
          (λ p. record { long = l; accepted = c; arguments = p; left = sym (ap (λ (x : Started). x.state) (rw p at e)) })
          (λ p. absurd (refused-apart _ s t (rw p at e)))
      by-check l (Err r) c e = absurd (refused-apart r s t e)

-- ---- arguments

module _ (t c frames arg_kinds arg_words : List ℕ) where
  argument-fits : (i : ℕ) → argument_fits arg_kinds arg_words i ≡ true → value_fits t c frames (get_or arg_kinds i 0) (get_or arg_words i 0) ≡ true
  unfolding argument_fits
  argument-fits i e =
      let k : ℕ = get_or arg_kinds i 0 in
      let w : ℕ = get_or arg_words i 0 in
      let small : k < 4 = ltb-true _ _ (and_left (ltb k 4) (is_value k w) e) in
      sym (value-other t c frames k w (and_right (ltb k 4) (is_value k w) e) (λ z. omega arith) (λ z. omega arith))

  arguments-fit :
      permitted arg_kinds arg_words ≡ true → (i : ℕ) → i < length arg_kinds → value_fits t c frames (get_or arg_kinds i 0) (get_or arg_words i 0) ≡ true
  unfolding permitted
  arguments-fit e i h =
      let a : Bool = eqb (length arg_kinds) (length arg_words) && leb (length arg_kinds) 8 in
      argument-fits i
      (all-at (argument_fits arg_kinds arg_words) (length arg_kinds)
      (and_right a (all_below (argument_fits arg_kinds arg_words) (length arg_kinds)) e) i h)

-- ---- the state

module _
    (S : Storage) (arg_kinds arg_words : List ℕ) (s : State) (demanded : Demanded S) (long : state_long s ≡ true)
    (arguments : permitted arg_kinds arg_words ≡ true) where
  abbrev t : List ℕ
  t = S.table

  abbrev f0 : List ℕ
  f0 = no_closures s.frames

  abbrev f1 : List ℕ
  f1 = mark_with 70 0 f0

  abbrev f2 : List ℕ
  f2 = depth_with 1 f1

  abbrev g : List ℕ
  g = opened_with 0 0 0 f2

  lengths : (frames_size ≤ length s.frames) × ((registers_size ≤ length s.kinds) × (registers_size ≤ length s.words))
  lengths = long-facts S s long

  f0-long : frames_size ≤ length f0
  f0-long = rw length-stores lengths.0

  f1-long : frames_size ≤ length f1
  f1-long = omega (arith, f0-long, mark-length f0 70 0)

  f2-long : frames_size ≤ length f2
  f2-long = omega (arith, f1-long, depth-length f1 1)

  depth : depth_in g ≡ 1
  depth = opened-depth f2 0 0 0 ∙ depth-depth f1 1 f1-long

  mark : mark_in g ≡ 70
  mark = opened-mark f2 0 0 0 ∙ depth-mark f1 1 ∙ mark-mark f0 70 0 f0-long (omega arith)

  operand : operand_in g ≡ 0
  operand = opened-operand f2 0 0 0 ∙ depth-operand f1 1 ∙ mark-operand f0 70 0 f0-long (omega arith)

  prototype : prototype_in g 0 ≡ 0
  prototype = opened-prototype f2 0 0 0 (omega arith) f2-long

  instruction : instruction_in g 0 ≡ 0
  instruction = opened-instruction f2 0 0 0 (omega arith) f2-long

  some : 0 < prototypes_of t
  some = omega (arith, demanded.some)

  base : base_of t g (depth_in g) ≡ registers_of t 0
  base = rw (depth, base-last t g 1 (omega arith), ← base-none t g, prototype) (omega arith)

  -- the arguments fill the window, and no closure is left
  sound : Sound t S.kinds (begun t arg_kinds arg_words s) (registers_of t 0) 1
  unfolding begun
  sound =
      let lk = lengths.1.0 in
      let lw = lengths.1.1 in
      let small = (registers-fit S (readable_back demanded.reads) 0 some).1 in
      let n : ℕ = fewer (length arg_kinds) (parameters_of t 0) in
      let few : n ≤ length arg_kinds = fewer-left (length arg_kinds) (parameters_of t 0) in
      let more : 0 < instructions_of t 0 = omega (arith, (demanded.each 0 some).some) in
      let k = no_cells s.kinds in
      let w = no_cells s.words in
      let kl : registers_size ≤ length k = rw length-stores lk in
      let wl : registers_size ≤ length w = rw length-stores lw in
      begun-sound t S.kinds s.frames (window_from arg_kinds k n (registers_of t 0)) (window_from arg_words w n (registers_of t 0)) (registers_of t 0) lengths.0
      (kept-bare t S.code ((demanded.each 0 some).each 0 more))
      (window-first t S.kinds g arg_kinds arg_words n (registers_of t 0) k w (omega arith) (omega arith)
      (λ j m. arguments-fit t S.kinds g arg_kinds arg_words arguments j (omega arith)))

  facts : Fit S (begun t arg_kinds arg_words s)
  unfolding begun
  facts =
      let lk = lengths.1.0 in
      let lw = lengths.1.1 in
      let small = (registers-fit S (readable_back demanded.reads) 0 some).1 in
      let more : 0 < instructions_of t 0 = omega (arith, (demanded.each 0 some).some) in
      (runs_by S (begun t arg_kinds arg_words s) demanded.long (readable_back demanded.reads) (registers_of t 0) 1
      (record {
        kinds_long = rw (length-first, length-stores) lk;
        words_long = rw (length-first, length-stores) lw;
        mark = mark;
        operand = rw operand (omega arith);
        stack = record {
          steady = record {
            long = omega (arith, f2-long, opened-length f2 0 0 0);
            some = rw depth (omega arith);
            few = rw depth (omega arith);
            ends = rw base (omega arith);
          };
          there = (λ i m.
              let b : i < 1 = rw depth at m in
              let z : i ≡ 0 = omega arith in
              rw z (there_of t g 0 0 0 prototype instruction some more));
          waits = (λ i m. let b : i < 1 - 1 = rw depth at m in absurd (omega arith));
        };
        ends = base;
        deep = depth;
        sound = sound;
      })).fit

-- ---- the start

module _ (S : Storage) (arg_kinds arg_words : List ℕ) (s t : State) (e : Begun S arg_kinds arg_words s t) where
  -- the checker has accepted the image
  pub begun_demanded : Demanded S
  begun_demanded = (exact S).0 (passed S arg_kinds arg_words s t e).accepted

  pub begun-fit : fit_of S t ≡ true
  begun-fit =
      let p = passed S arg_kinds arg_words s t e in
      rw p.left
      (facts-fit S (begun S.table arg_kinds arg_words s)
      (facts S arg_kinds arg_words s begun_demanded p.long p.arguments))
