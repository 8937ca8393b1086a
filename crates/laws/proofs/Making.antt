-- A Closure that is carried out: its entry, the cells that it is over, and where it is refused. Assumes nothing.
use mathlib.Core.Path.{◌≡◌, refl, sym, ap, ◌∙◌}
use mathlib.Core.Bool.{false}
use mathlib.Core.List.{List}
use Prim.Native.Nat.{ℕ, ◌+◌, ◌-◌, ◌<◌, ◌≤◌}
use native.Mathlib.Omega.{arith}
use borrow.Author.Tests.{ltb-true, ltb-false, lt-ltb, le-ltb, le-leb, lt-leb, leb-true, leb-false, eqb-false}
use lib.Dec.{leb, ltb, eqb}
use lib.ListN.{set}
use lib.Seq.{get_or-set_same}
use Rattle.choices.proofs.Choices.{by_bool}
use Rattle.storage.specs.Layout.{Storage}
use Rattle.storage.specs.Fields.{prototypes_of, descriptors_of, descriptor_of}
use Rattle.checker.specs.declared.Instruction.TheVariants as instruction
use Rattle.effects.specs.Effects.{effect_of}
use Rattle.effects.specs.declared.Go.TheVariants.{Next}
use Rattle.state.specs.Frames.{depth_in, prototype_in, base_of}
use Rattle.state.specs.Record.{innermost}
use Rattle.state.specs.States.{State, state}
use Rattle.state.specs.declared.Activation.{Activation}
use Rattle.state.proofs.Fields.{Behind, gone-behind}
use Rattle.state.proofs.Windows.{base-last}
use Rattle.state.proofs.Inmost.{window-inside}
use Rattle.cells.specs.Cells.{entry_in, upvalue_in, held_in, cell_in, is_free, cell_with, free_entry}
use Rattle.cells.specs.Capture.{open_word, opened_for, held_for, captured, free_cells, needed, captures_of, refusal}
use Rattle.cells.proofs.Shapes.{held-some}
use Rattle.cells.proofs.Making.{word-near}
use Rattle.cells.proofs.Laws.{seek-low, used, with_at, free-at}
use Rattle.cells.proofs.Entries.{held_low, entry-behind, held-behind, cell-behind}
use Rattle.cells.proofs.Opening.{captures-all, opens-for, granted-both}
use Rattle.cells.proofs.Captured.{captured-near}
use Rattle.fitness.specs.Facts.{Fit}
use Rattle.fitness.proofs.Facts.{fit-facts}
use Rattle.fitness.proofs.Keeping.{Sound, fit-sound}
use Rattle.fitness.proofs.Capturing.{made-sound, entry-made, upvalue-made}
use Rattle.fitness.proofs.Descriptors.{prototypes-few, descriptors-few}
use Rattle.reach.proofs.Capturing.{closure_captures, captures-few, captures-registers, captures_upvalues}
use Rattle.step.specs.Step.{on, stop, gone_on, marked, capture_of, carried_out, step_of}
use Rattle.laws.specs.Sharing as statements
use Rattle.laws.specs.Sharing.{inner, coming_up, content_at, cell_of, IsOpenOn, Made}
use Rattle.laws.proofs.Sharing.{shallow, own-known, in_kinds, in_words, named}

-- ---- a free entry is the lowest one, or below there is none

free-low : (f : List ℕ) (i : ℕ) → i < free_entry f → 0 < entry_in f i
unfolding free_entry
free-low f i l =
    let n = eqb-false (entry_in f i) 0 (seek-low (is_free f) 64 0 i (omega arith) l) in
    omega (arith, n)

free-most : (f : List ℕ) (e : ℕ) → entry_in f e ≡ 0 → free_entry f ≤ e
free-most f e z =
    by_bool (leb (free_entry f) e) (λ b. leb-true (free_entry f) e b)
    (λ b. let l = free-low f e (leb-false (free_entry f) e b) in absurd (omega arith))

-- ---- a Closure that is refused

module _ (S : Storage) (s : State) (dest q : ℕ) (e : coming_up S s ≡ instruction.Closure dest q) where
  refused : (n : ℕ) → eqb n 0 ≡ false → refusal S.table q (inner S s).base s.frames ≡ n → step_of S s ≡ stop n (marked n 0 s)
  unfolding step_of effect_of carried_out capture_of
  refused n z r = rw (e, r, z)

pub no-entry : statements.NoEntry
unfolding refusal
no-entry S s dest q e all =
    let f = s.frames in
    let l : 64 ≤ free_entry f = by_bool (ltb (free_entry f) 64)
    (λ b. let m = ltb-true (free_entry f) 64 b in
    let x = all (free_entry f) m in
    let z = free-at f m in
    absurd (omega arith))
    (λ b. ltb-false (free_entry f) 64 b) in
    refused S s dest q e 53 refl (rw (le-leb 64 (free_entry f) l))

pub too_few-cells : statements.TooFewCells
unfolding refusal
too_few-cells S s dest q i e l z few =
    let f = s.frames in
    let m = free-most f i z in
    refused S s dest q e 54 refl
    (rw (lt-leb 64 (free_entry f) (omega arith), lt-ltb (free_cells f 128) (needed S.table q (inner S s).base f (captures_of S.table q)) few))

-- ---- one that is made

module _ (S : Storage) (s : State) (h : Fit S s) (dest q : ℕ) (e : coming_up S s ≡ instruction.Closure dest q)
    (granted : refusal S.table q (inner S s).base s.frames ≡ 0) where
  abbrev t : List ℕ
  t = S.table

  abbrev f : List ℕ
  f = s.frames

  abbrev a : Activation
  a = inner S s

  abbrev new : ℕ
  new = free_entry f

  abbrev made : List ℕ
  made = captured t q a.base a.closure new f

  -- the cells that are missing are opened
  abbrev opened : List ℕ
  opened = opened_for t q a.base (descriptors_of t q) f

  near : a.base ≤ 2048
  near = omega (arith, window-inside t f a h.stack.steady refl)

  few : descriptors_of t q ≤ 8
  few = captures-few t a.prototype q (closure_captures t S.code a.prototype a.instruction dest q e)

  -- what is known of the entry and its upvalues, from the activation's parts
  record Known : Type 0 where
    sound : Sound t S.kinds (state made (set s.kinds (a.base + dest) 5) (set s.words (a.base + dest) new)) (base_of t f (depth_in f)) (depth_in f)
    entry : entry_in made new ≡ q + 1
    upvalue : (j : ℕ) → j < descriptors_of t q → upvalue_in made new j ≡ held_for opened a.base a.closure (descriptor_of t q j)

  known : Known
  unfolding innermost
  known =
      let st = h.stack.steady in
      let d = depth_in f in
      let base = base_of t f (d - 1) in
      let p = prototype_in f (d - 1) in
      let in-range = closure_captures t S.code p _ dest q e in
      let there : q < prototypes_of t = (named S s h (instruction.Closure dest q) e).1.0 in
      let all = prototypes-few S h.reads in
      let small : q < 0xffff_ffff_ffff_ffff = omega arith in
      let own = descriptors-few S h.reads p (own-known S s h) in
      let some : 0 < d = omega (arith, st.some) in
      let window = sym (base-last t f d st.some) in
      record {
        sound = made-sound t S.kinds s (base_of t f d) d q base dest (fit-sound S s h) st.long h.kinds_long h.words_long some st.few st.ends
            window there small few own (captures-registers t p q in-range) (captures_upvalues t p q in-range) granted;
        entry = entry-made t S.kinds s (base_of t f d) d q base dest (fit-sound S s h) st.long h.kinds_long h.words_long some st.few
            st.ends window there small few own (captures-registers t p q in-range) (captures_upvalues t p q in-range) granted;
        upvalue = λ j l. rw (captures-all t q few) at
            (upvalue-made t S.kinds s (base_of t f d) d q base dest (fit-sound S s h) st.long h.kinds_long h.words_long some st.few
            st.ends window there small few own (captures-registers t p q in-range) (captures_upvalues t p q in-range) granted j l);
      }

  -- as many cells as descriptors, and all else as it was when these had been opened
  all : captures_of t q ≡ descriptors_of t q
  all = captures-all t q few

  cell_as : (c : ℕ) → cell_in made c ≡ cell_in opened c
  cell_as c = rw all at ((captured-near t q a.base a.closure new f).cell c)

  held-opened : (x u : ℕ) → held_in opened x u ≡ held_in f x u
  held-opened = held_low f opened (opens-for t q a.base f (descriptors_of t q)).low

  held-made : (x u : ℕ) → (x ≡ new + 1 → ⊥) → held_in made x u ≡ held_in f x u
  unfolding held_in
  held-made x u n =
      let near = rw all at (captured-near t q a.base a.closure new f).upvalue in
      by_bool (ltb 0 x)
      (λ l. let m = ltb-true 0 x l in
      let o = held-opened x u in
      rw l (near (x - 1) u (λ z. n (omega arith)) ∙ rw l at o))
      (λ l. rw l)

  -- ---- the state that it leaves

  abbrev gone : List ℕ
  gone = gone_on made a Next

  behind : Behind made gone
  behind = gone-behind made (a.depth - 1) _ (shallow S s h)

  abbrev left : State
  left = state gone (set s.kinds (a.base + dest) 5) (set s.words (a.base + dest) new)

  held_new : (j : ℕ) → j < descriptors_of t q → held_in gone (new + 1) j ≡ held_for opened a.base a.closure (descriptor_of t q j)
  held_new j l =
      let z : new + 1 - 1 ≡ new = omega arith in
      held-behind made gone behind (new + 1) j ∙ held-some made (new + 1) j (omega arith) ∙ ap (λ (x : ℕ). upvalue_in made x j) z ∙ known.upvalue j l

  -- "00 and a parent's register": the cell that is open on it
  on-register :
      (j : ℕ) → j < descriptors_of t q → descriptor_of t q j < 256 → IsOpenOn left (new + 1) j (a.base + descriptor_of t q j)
  unfolding held_for
  on-register j l m =
      let d = descriptor_of t q j in
      let x = open_word a.base d in
      let c = cell_with opened x in
      let has = known.sound.closures.entries.has new q j (known.entry ∙ omega arith) l (omega (arith, few)) in
      let up : upvalue_in made new j ≡ c + 1 = rw (lt-ltb d 256 m) at (known.upvalue j l) in
      let z : c + 1 - 1 ≡ c = omega arith in
      let lc : c < 128 = used made c (rw (up, z) at has.1) in
      let held : held_in gone (new + 1) j ≡ c + 1 = rw (lt-ltb d 256 m) at (held_new j l) in
      rw (held, z) (cell-behind made gone behind c ∙ cell_as c ∙ with_at opened x lc ∙ sym (word-near a.base d near))

  -- "01 and the parent's upvalue number": its cell, open or closed
  of_parent :
      (j : ℕ) → j < descriptors_of t q → 256 ≤ descriptor_of t q j → cell_of left (new + 1) j ≡ cell_of s a.closure (descriptor_of t q j - 256)
  unfolding held_for
  of_parent j l m =
      let d = descriptor_of t q j in
      let held : held_in gone (new + 1) j ≡ held_in opened a.closure (d - 256) = rw (le-ltb d 256 m) at (held_new j l) in
      rw (held, held-opened a.closure (d - 256))

  makes : Made S a s left q new
  makes =
      record {
        free = free-at f (granted-both t q a.base f granted).0;
        lowest = free-low f;
        entry = entry-behind made gone behind new ∙ known.entry;
        registers = on-register;
        upvalues = of_parent;
        others = λ x u n. rw (held-behind made gone behind x u, held-made x u n);
      }

  made-step : step_of S s ≡ on left
  unfolding step_of effect_of carried_out capture_of
  made-step = rw (e, granted)

  dest_holds : content_at left (a.base + dest) ≡ record { kind = 5; word = new }
  dest_holds =
      let l = (named S s h (instruction.Closure dest q) e).0 in
      rw (get_or-set_same s.kinds (a.base + dest) 5 0 (in_kinds S s h dest l), get_or-set_same s.words (a.base + dest) new 0 (in_words S s h dest l))

pub makes_closure : statements.MakesClosure
makes_closure S s dest q fit e granted =
    let h = fit-facts S s fit in
    record { to = left S s h dest q e granted; step = made-step S s h dest q e granted; so = (makes S s h dest q e granted, dest_holds S s h dest q e granted) }
