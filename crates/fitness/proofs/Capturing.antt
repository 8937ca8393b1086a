-- A closure that is made keeps what closures ask of a fit state: first the cells that are missing are opened, then a free entry is written, then a register. The
-- premises are what rule 16 of the checker leaves of the table, and that nothing is refused (53, 54). Assumes nothing.
use mathlib.Core.Path.{◌≡◌, refl, sym, ap, ◌∙◌}
use mathlib.Core.Bool.{true}
use mathlib.Core.List.{List}
use Prim.Native.Nat.{ℕ, suc, ◌+◌, ◌-◌, ◌<◌, ◌≤◌}
use native.Mathlib.Omega.{arith}
use borrow.Author.Tests.{lt-ltb, ltb-true, ltb-false, eqb-true, eqb-false}
use lib.Dec.{ltb, eqb}
use lib.ListN.{length, set}
use Rattle.choices.proofs.Choices.{by_bool}
use Rattle.storage.specs.Fields.{prototypes_of, registers_of, descriptors_of, descriptor_of}
use Rattle.constant.specs.Values.{is_value}
use Rattle.state.specs.Frames.{prototype_in, closure_in}
use Rattle.state.specs.States.{State, state, frames_size, registers_size}
use Rattle.state.proofs.Heads.{ahead-same}
use Rattle.cells.specs.Cells.{entry_in, upvalue_in, held_in, cell_in, place_of, free_entry, cell_to}
use Rattle.cells.specs.Capture.{captures_of, open_word, opened_for, held_for, captured, free_cells, needed, refusal}
use Rattle.cells.proofs.Shapes.{upvalue-few}
use Rattle.cells.proofs.Making.{word-near, as_none, as_some}
use Rattle.cells.proofs.Laws.{free-at, at_register, place_as, cell_same, cell_other, low_same}
use Rattle.cells.proofs.Entries.{Low, entry-low, upvalue-low, ahead-low, Near}
use Rattle.cells.proofs.Opening.{captures-all, granted-both, opens-for, ready, held-used}
use Rattle.cells.proofs.Captured.{captured-near, captured-entry, captured-upvalue}
use Rattle.fitness.specs.Fit.{value_fits}
use Rattle.fitness.specs.Facts.{Valid}
use Rattle.fitness.proofs.Keeping.{Sound, More, more_same, valid-on, place-on, entries-on, cells-on, calls-on, upvalue-there}
use Rattle.fitness.proofs.Storing.{put-sound}

module _ (table consts k w : List ℕ) (end depth : ℕ) (deep : depth ≤ 16) where
  abbrev Fits : List ℕ → Type 0
  Fits f = Sound table consts (state f k w) end depth

  -- ---- a free cell becomes open on a live register without one

  module _ (f : List ℕ) (c r : ℕ) (long : frames_size ≤ length f) (lc : c < 128) (free : cell_in f c ≡ 0) (live : r < end)
      (none : (d : ℕ) → cell_in f d ≡ 2 + r → ⊥) (h : Fits f) where
    abbrev f' : List ℕ
    f' = cell_to f c (2 + r)

    abbrev low : Low f f'
    low = low_same f c (2 + r)

    here : cell_in f' c ≡ 2 + r
    here = cell_same f c (2 + r) lc long

    there : (d : ℕ) → (d ≡ c → ⊥) → cell_in f' d ≡ cell_in f d
    there = cell_other f c (2 + r)

    open-sound : Fits f'
    unfolding Valid
    open-sound =
        let same = entry-low f f' low in
        let more = more_same f f' same in
        let act = ahead-same f f' (ahead-low f f' low) in
        let s = state f k w in
        let s' = state f' k w in
        record {
          valid = valid-on table consts f f' more end k w h.valid;
          closures = record {
            entries = entries-on table f f' same (upvalue-low f f' low)
                (λ d g. by_bool (eqb d c) (λ q. rw (eqb-true d c q, here) (omega arith)) (λ q. rw (there d (eqb-false d c q)) g))
                h.closures.entries;
            cells = record {
              live = (λ d g.
                  by_bool (eqb d c) (λ q. rw (eqb-true d c q, here) (omega arith))
                  (λ q. let t = there d (eqb-false d c q) in let x = h.closures.cells.live d (omega arith) in omega arith));
              once = (λ d d' g q.
                  by_bool (eqb d c)
                  (λ a. by_bool (eqb d' c) (λ b. eqb-true d c a ∙ sym (eqb-true d' c b))
                  (λ b. absurd (none d' (sym (there d' (eqb-false d' c b)) ∙ sym q ∙ ap (cell_in f') (eqb-true d c a) ∙ here))))
                  (λ a. let t = there d (eqb-false d c a) in
                  by_bool (eqb d' c)
                  (λ b. absurd (none d (sym t ∙ q ∙ ap (cell_in f') (eqb-true d' c b) ∙ here)))
                  (λ b. h.closures.cells.once d d' (rw t at g) (sym t ∙ q ∙ there d' (eqb-false d' c b)))));
            };
            held = (λ d g.
                by_bool (eqb d c)
                (λ q. rw (eqb-true d c q, at_register f' c r here) (place-on table consts s s' more r r refl refl (h.valid r live)))
                (λ q. let t = there d (eqb-false d c q) in
                rw (place_as f f' d t)
                (place-on table consts s s' more (place_of f d) (place_of f d) refl refl (h.closures.held d (rw t at g)))));
            calls = calls-on table f f' same depth (λ i g. (act i (omega arith)).closure) (λ i g. (act i (omega arith)).prototype)
                h.closures.calls;
          };
        }

  -- ---- the descriptors of prototype q, for a closure made in the window at `base`

  module _ (q base : ℕ) (near : base ≤ 2048)
      (named : (j : ℕ) → j < captures_of table q → descriptor_of table q j < 256 → base + descriptor_of table q j < end) where
    named-sound :
        (g : List ℕ) (c j : ℕ) → frames_size ≤ length g → c < 128 → cell_in g c ≡ 0 → j < captures_of table q → descriptor_of table q j < 256
        → ((d : ℕ) → cell_in g d ≡ open_word base (descriptor_of table q j) → ⊥) → Fits g → Fits (cell_to g c (open_word base (descriptor_of table q j)))
    named-sound g c j long lc free l d none h =
        let r = base + descriptor_of table q j in
        let e : open_word base (descriptor_of table q j) ≡ 2 + r = sym (word-near base (descriptor_of table q j) near) in
        rw e (open-sound g c r long lc free (named j l d) (rw e at none) h)

    module _ (f : List ℕ) (long : frames_size ≤ length f) (h : Fits f) (enough : needed table q base f (captures_of table q) ≤ free_cells f 128) where
      opened-sound : Fits (opened_for table q base (captures_of table q) f)
      opened-sound = (ready table q base (λ g. Fits g) named-sound f long h enough (captures_of table q) (omega arith)).kept

      -- what each of them names is in use then, where the parent's upvalues are
      opened-used :
          (closure : ℕ)
          → ((j : ℕ) → j < captures_of table q → 256 ≤ descriptor_of table q j
          → (0 < held_in f closure (descriptor_of table q j - 256)) × (0 < cell_in f (held_in f closure (descriptor_of table q j - 256) - 1)))
          → (j : ℕ) → j < captures_of table q
          → (0 < held_for (opened_for table q base (captures_of table q) f) base closure (descriptor_of table q j))
          × (0 < cell_in (opened_for table q base (captures_of table q) f)
          (held_for (opened_for table q base (captures_of table q) f) base closure (descriptor_of table q j) - 1))
      opened-used = held-used table q base (λ g. Fits g) named-sound f long h enough

  -- ---- a free entry is written

  -- what a new entry must have
  record New (f : List ℕ) (e q : ℕ) : Type 0 where
    there : q < prototypes_of table
    has : (j : ℕ) → j < descriptors_of table q → j < 8 → (0 < upvalue_in f e j) × (0 < cell_in f (upvalue_in f e j - 1))
    spare : (j : ℕ) → descriptors_of table q ≤ j → upvalue_in f e j ≡ 0

  near-sound :
      (f f' : List ℕ) (e : ℕ) → Near e f f' → entry_in f e ≡ 0 → ((q : ℕ) → entry_in f' e ≡ suc q → New f' e q) → Fits f → Fits f'
  near-sound f f' e near free new h =
      let s = state f k w in
      let s' = state f' k w in
      let act = ahead-same f f' near.low in
      let keeps : (d : ℕ) → 0 < entry_in f d → entry_in f' d ≡ entry_in f d = (λ d g.
      near.entry d (λ q. let z : entry_in f d ≡ 0 = rw q free in omega arith)) in
      let more : More f f' = (λ d g. rw (keeps d g) g) in
      let old = h.closures in
      record {
        valid = valid-on table consts f f' more end k w h.valid;
        closures = record {
          entries = record {
            there = (λ d q g.
                by_bool (eqb d e) (λ a. (new q (rw (← eqb-true d e a) g)).there)
                (λ a. old.entries.there d q (sym (near.entry d (eqb-false d e a)) ∙ g)));
            has = (λ d q j g l m.
                by_bool (eqb d e) (λ a. rw (eqb-true d e a) ((new q (rw (← eqb-true d e a) g)).has j l m))
                (λ a. let n = eqb-false d e a in
                let x = old.entries.has d q j (sym (near.entry d n) ∙ g) l m in
                rw (near.upvalue d j n, near.cell (upvalue_in f d j - 1)) x));
            spare = (λ d q j g l.
                by_bool (eqb d e) (λ a. rw (eqb-true d e a) ((new q (rw (← eqb-true d e a) g)).spare j l))
                (λ a. let n = eqb-false d e a in near.upvalue d j n ∙ old.entries.spare d q j (sym (near.entry d n) ∙ g) l));
          };
          cells = cells-on f f' end near.cell old.cells;
          held = (λ c g.
              rw (place_as f f' c (near.cell c))
              (place-on table consts s s' more (place_of f c) (place_of f c) refl refl (old.held c (rw (near.cell c) at g))));
          calls = record {
            outer = λ g. (act 0 (omega arith)).closure ∙ old.calls.outer g;
            plain = λ g. rw (act 0 (omega arith)).prototype (old.calls.plain g);
            inner = (λ i z g.
                let x = old.calls.inner i z g in
                let a = act i (omega arith) in
                rw (a.closure, a.prototype) (x.0, keeps (closure_in f i - 1) (let y = x.1 in omega arith) ∙ x.1));
          };
        };
      }

-- ---- the whole: a closure of prototype q, made in the innermost activation, over what rule 16 lets it name

module _ (table consts : List ℕ) (s : State) (end depth q base dest : ℕ) (h : Sound table consts s end depth)
    (lf : frames_size ≤ length s.frames) (lk : registers_size ≤ length s.kinds) (lw : registers_size ≤ length s.words)
    (some : 0 < depth) (deep : depth ≤ 16) (inside : end ≤ 2048) (window : base + registers_of table (prototype_in s.frames (depth - 1)) ≡ end)
    (known : q < prototypes_of table) (small : q < 0xffff_ffff_ffff_ffff)
    (few : descriptors_of table q ≤ 8) (own-few : descriptors_of table (prototype_in s.frames (depth - 1)) ≤ 8)
    (registers : (j : ℕ) → j < descriptors_of table q → descriptor_of table q j < 256
    → descriptor_of table q j < registers_of table (prototype_in s.frames (depth - 1)))
    (upvalues : (j : ℕ) → j < descriptors_of table q → 256 ≤ descriptor_of table q j
    → descriptor_of table q j - 256 < descriptors_of table (prototype_in s.frames (depth - 1)))
    (free : refusal table q base s.frames ≡ 0) where
  abbrev f : List ℕ
  f = s.frames

  abbrev e : ℕ
  e = free_entry f

  abbrev closure : ℕ
  closure = closure_in f (depth - 1)

  abbrev f₁ : List ℕ
  f₁ = opened_for table q base (captures_of table q) f

  abbrev made : List ℕ
  made = captured table q base closure e f

  abbrev granted : (e < 64) × (needed table q base f (captures_of table q) ≤ free_cells f 128)
  granted = granted-both table q base f free

  all : captures_of table q ≡ descriptors_of table q
  all = captures-all table q few

  named : (j : ℕ) → j < captures_of table q → descriptor_of table q j < 256 → base + descriptor_of table q j < end
  named j l m = let x = registers j (rw all at l) m in omega arith

  one : Sound table consts (state f₁ s.kinds s.words) end depth
  one = opened-sound table consts s.kinds s.words end depth deep q base (omega arith) named f lf h granted.1

  -- the activation's upvalue that a descriptor names is in use
  inherited : (j : ℕ) → j < captures_of table q → 256 ≤ descriptor_of table q j
      → (0 < held_in f closure (descriptor_of table q j - 256)) × (0 < cell_in f (held_in f closure (descriptor_of table q j - 256) - 1))
  inherited j l m =
      let x = upvalues j (rw all at l) m in
      upvalue-there table consts s end depth (depth - 1) (descriptor_of table q j - 256) h (omega arith) x (omega arith)

  -- its closure is not the free entry
  apart : closure ≡ e + 1 → ⊥
  apart z =
      let old = h.closures.calls in
      by_bool (eqb (depth - 1) 0)
      (λ a. let y : depth - 1 ≡ 0 = eqb-true (depth - 1) 0 a in
      let c : closure ≡ 0 = rw y (old.outer some) in
      omega arith)
      (λ a. let y = eqb-false (depth - 1) 0 a in
      let p = (old.inner (depth - 1) (omega (arith, y)) (omega arith)).1 in
      let i : closure - 1 ≡ e = omega arith in
      let g : entry_in f (closure - 1) ≡ 0 = rw i (free-at f granted.0) in
      omega arith)

  -- the entry is one of prototype q, over what its descriptors name
  pub entry-made : entry_in made e ≡ q + 1
  entry-made = rw (lt-ltb q 0xffff_ffff_ffff_ffff small) at (captured-entry table q base closure e f lf granted.0)

  pub upvalue-made : (j : ℕ) → j < descriptors_of table q → upvalue_in made e j ≡ held_for f₁ base closure (descriptor_of table q j)
  upvalue-made j l =
      captured-upvalue table q base closure e f lf granted.0 (λ _ _ _. apart) j (omega arith)
      ∙ sym (as_some table q base closure f₁ j (descriptors_of table q) (sym all) l (descriptor_of table q j) _ refl refl)

  upvalue-spare : (j : ℕ) → descriptors_of table q ≤ j → upvalue_in made e j ≡ 0
  upvalue-spare j l =
      by_bool (ltb j 8)
      (λ a. captured-upvalue table q base closure e f lf granted.0 (λ _ _ _. apart) j (ltb-true j 8 a)
      ∙ sym (as_none table q base closure f₁ j (descriptors_of table q) (sym all) l))
      (λ a. sym (upvalue-few made e j granted.0 (ltb-false j 8 a)))

  near : Near e f₁ made
  near = captured-near table q base closure e f

  fresh : (p : ℕ) → entry_in made e ≡ suc p → New table consts s.kinds s.words end depth deep made e p
  fresh p g =
      let z : p ≡ q = let y = entry-made in omega arith in
      rw z
      (record {
        there = known;
        has = (λ j l m.
            rw (upvalue-made j l, near.cell (held_for f₁ base closure (descriptor_of table q j) - 1))
            (opened-used table consts s.kinds s.words end depth deep q base (omega arith) named f lf h granted.1 closure inherited j
            (rw all l)));
        spare = upvalue-spare;
      })

  -- the entry is a function value
  function-fits : value_fits table consts made 5 e ≡ true
  unfolding value_fits is_value
  function-fits = rw (entry-made, lt-ltb 0 (q + 1) (omega arith))

  -- the cells are opened, the entry is written
  pub captured-sound : Sound table consts (state made s.kinds s.words) end depth
  captured-sound =
      let low = (opens-for table q base f (captures_of table q)).low in
      near-sound table consts s.kinds s.words end depth deep f₁ made e near (entry-low f f₁ low e ∙ free-at f granted.0) fresh one

  -- and register dest holds it
  pub made-sound : Sound table consts (state made (set s.kinds (base + dest) 5) (set s.words (base + dest) e)) end depth
  made-sound =
      put-sound table consts made s.kinds s.words end depth (omega arith) captured-sound lk lw (base + dest) 5 e function-fits
