-- What closures ask of a fit state is kept by every change of `frames` that a step makes: of the mark, of an instruction, an activation less or more, cells closed;
-- and a start has it. Capturing has the cells and the entry of a new closure, Storing the registers. Assumes nothing.
use mathlib.Core.Path.{◌≡◌, refl, sym, ◌∙◌}
use mathlib.Core.Logic.{⊎_elim}
use mathlib.Core.Bool.{Bool, true, cond, ◌&&◌}
use mathlib.Core.List.{List}
use Prim.Native.Nat.{ℕ, ◌+◌, ◌-◌, ◌<◌, ◌≤◌}
use native.Mathlib.Omega.{arith}
use borrow.Author.Tests.{lt-ltb, leb-true, leb-false, ltb-true, eqb-true, eqb-false, eq-eqb}
use lib.Dec.{eqb, leb, ltb}
use lib.ListN.{length, get_or}
use Rattle.choices.proofs.Choices.{by_bool, and_left, and_right}
use Rattle.storage.specs.Layout.{Storage}
use Rattle.storage.specs.Fields.{prototypes_of, first_constant, descriptors_of}
use Rattle.constant.specs.Values.{is_value}
use Rattle.state.specs.Frames.{entry_slot, slots, depth_in, prototype_in, closure_in, base_of, mark_with, depth_with, instruction_with, opened_with}
use Rattle.state.specs.States.{State, state, cell_room, frames_size, registers_size}
use Rattle.state.proofs.Fields.{Behind, behind-on, mark-same, mark-behind, depth_same, depth-behind, gone-prototype, gone_closure, gone-behind, opened-prototype, opened_closure, opened-same, opened-behind}
use Rattle.state.proofs.Heads.{ahead-same}
use Rattle.cells.specs.Cells.{entry_in, upvalue_in, held_in, cell_in, place_of}
use Rattle.cells.specs.Closing.{closed_from}
use Rattle.cells.proofs.Shapes.{held-some}
use Rattle.cells.proofs.Laws.{place_as}
use Rattle.cells.proofs.Entries.{Low, entry-low, upvalue-low, ahead-low, entry-behind, upvalue-behind, cell-behind, zero-entry, zero-cell}
use Rattle.cells.proofs.Closed.{Sized, Kept, kept-below, none_open}
use Rattle.fitness.specs.Fit.{value_fits, register_fits}
use Rattle.fitness.specs.Facts.{Valid, Entries, Cells, Calls, Closures, Fit}

-- what a step keeps of registers and closures, with `end` registers live and `depth` activations
pub record Sound (table const_kinds : List ℕ) (s : State) (end depth : ℕ) : Type 0 where
  pub valid : Valid table const_kinds s.frames end s.kinds s.words
  pub closures : Closures table const_kinds s end depth

-- a fit state has it
pub fit-sound : (S : Storage) (s : State) → Fit S s → Sound S.table S.kinds s (base_of S.table s.frames (depth_in s.frames)) (depth_in s.frames)
fit-sound S s h = record { valid = h.valid; closures = h.closures }

-- as many registers and activations by another name
pub sound_as :
    (table consts : List ℕ) (s : State) (end end' depth depth' : ℕ) → end' ≡ end → depth' ≡ depth → Sound table consts s end depth
    → Sound table consts s end' depth'
sound_as table consts s end end' depth depth' e d h = rw (e, d) h

-- entries in use stay in use
abbrev pub More : List ℕ → List ℕ → Type 0
More f f' = (e : ℕ) → 0 < entry_in f e → 0 < entry_in f' e

pub more_same : (f f' : List ℕ) → ((e : ℕ) → entry_in f' e ≡ entry_in f e) → More f f'
more_same f f' same e l = rw (same e) l

-- ---- what is a value in more entries

module _ (table consts : List ℕ) where
  pub value_on :
      (f f' : List ℕ) → More f f' → (kind word : ℕ) → value_fits table consts f kind word ≡ true → value_fits table consts f' kind word ≡ true
  unfolding value_fits
  value_on f f' more kind word t =
      let a : Bool = is_value kind word in
      let b : Bool = ltb 0 (entry_in f word) in
      let text : Bool = cond (eqb kind 4) (ltb word (first_constant table (prototypes_of table)) && eqb (get_or consts word 0) 4) true in
      by_bool (eqb kind 5)
      (λ e. let t' : a && b && text ≡ true = rw e at t in
      let g : b ≡ true = and_right a b (and_left (a && b) text t') in
      rw (e, lt-ltb 0 (entry_in f' word) (more word (ltb-true _ _ g)), and_left a b (and_left (a && b) text t')) (and_right (a && b) text t'))
      (λ e. rw e (rw e at t))

  -- a place whose value stays, or is moved from another place
  pub place-on :
      (s s' : State) → More s.frames s'.frames → (p p' : ℕ) → get_or s'.kinds p' 0 ≡ get_or s.kinds p 0
      → get_or s'.words p' 0 ≡ get_or s.words p 0 → register_fits table consts s.frames s.kinds s.words p ≡ true
      → register_fits table consts s'.frames s'.kinds s'.words p' ≡ true
  unfolding register_fits
  place-on s s' more p p' ek ew t = rw (ek, ew) (value_on s.frames s'.frames more _ _ t)

  pub valid-on :
      (f f' : List ℕ) → More f f' → (m : ℕ) (k w : List ℕ) → Valid table consts f m k w → Valid table consts f' m k w
  unfolding Valid
  valid-on f f' more m k w v j l = place-on (state f k w) (state f' k w) more j j refl refl (v j l)

  -- a function value is an entry in use, of a prototype that is there
  pub function-entry : (f : List ℕ) (kind word : ℕ) → kind ≡ 5 → value_fits table consts f kind word ≡ true → 0 < entry_in f word
  unfolding value_fits
  function-entry f kind word e t =
      let a : Bool = is_value kind word in
      let b : Bool = ltb 0 (entry_in f word) in
      let text : Bool = cond (eqb kind 4) (ltb word (first_constant table (prototypes_of table)) && eqb (get_or consts word 0) 4) true in
      let t' : a && b && text ≡ true = rw (eq-eqb kind 5 e) at t in
      ltb-true _ _ (and_right a b (and_left (a && b) text t'))

  pub entry_known : (f : List ℕ) (e : ℕ) → Entries table f → 0 < entry_in f e → entry_in f e - 1 < prototypes_of table
  entry_known f e h l = h.there e (entry_in f e - 1) (omega arith)

-- ---- the parts of fitness after a change of `frames`

module _ (table f f' : List ℕ) (same : (e : ℕ) → entry_in f' e ≡ entry_in f e) where
  -- entries and upvalues are as they were, cells in use stay in use
  pub entries-on :
      ((e j : ℕ) → upvalue_in f' e j ≡ upvalue_in f e j) → ((c : ℕ) → 0 < cell_in f c → 0 < cell_in f' c) → Entries table f → Entries table f'
  entries-on up stay h =
      record {
        there = λ e q g. h.there e q (sym (same e) ∙ g);
        has = λ e q j g l m. let x = h.has e q j (sym (same e) ∙ g) l m in rw (up e j) (x.0, stay (upvalue_in f e j - 1) x.1);
        spare = λ e q j g l. up e j ∙ h.spare e q j (sym (same e) ∙ g) l;
      }

  -- activations are as they were
  pub calls-on :
      (depth : ℕ) → ((i : ℕ) → i < depth → closure_in f' i ≡ closure_in f i) → ((i : ℕ) → i < depth → prototype_in f' i ≡ prototype_in f i)
      → Calls table f depth → Calls table f' depth
  calls-on depth k q h =
      record {
        outer = λ l. k 0 l ∙ h.outer l;
        plain = λ l. rw (q 0 l) (h.plain l);
        inner = λ i z l. let x = h.inner i z l in rw (k i l, q i l, same (closure_in f i - 1)) x;
      }

pub cells-on : (f f' : List ℕ) (end : ℕ) → ((c : ℕ) → cell_in f' c ≡ cell_in f c) → Cells f end → Cells f' end
cells-on f f' end same h =
    record {
      live = λ c l. rw (same c) (h.live c (rw (same c) at l));
      once = λ c d l q. h.once c d (rw (same c) at l) (sym (same c) ∙ q ∙ same d);
    }

-- long enough, with open cells on registers
pub sized :
    (s : State) (end : ℕ) → Cells s.frames end → end ≤ cell_room 0 → frames_size ≤ length s.frames → registers_size ≤ length s.kinds
    → registers_size ≤ length s.words → Sized s
sized s end h e lf lk lw =
    record {
      frames = lf;
      kinds = lk;
      words = lw;
      low = (λ c.
          let f = s.frames in
          by_bool (leb 2 (cell_in f c)) (λ o. let l = h.live c (leb-true 2 (cell_in f c) o) in omega arith)
          (λ o. let l = leb-false 2 (cell_in f c) o in omega arith));
    }

-- fewer activations
pub calls-fewer : (table f : List ℕ) (depth depth' : ℕ) → depth' ≤ depth → Calls table f depth → Calls table f depth'
calls-fewer table f depth depth' l h =
    record {
      outer = λ g. h.outer (omega arith);
      plain = λ g. h.plain (omega arith);
      inner = λ i z g. h.inner i z (omega arith);
    }

module _ (table consts : List ℕ) where
  abbrev S : State → ℕ → ℕ → Type 0
  S s end depth = Sound table consts s end depth

  -- ---- a change before the entries: of the mark, of an activation

  module _ (f f' k w : List ℕ) (end depth : ℕ) (b : Behind f f') (h : S (state f k w) end depth) where
    abbrev more : More f f'
    more = more_same f f' (entry-behind f f' b)

    pub behind-sound : (depth' : ℕ) → Calls table f' depth' → S (state f' k w) end depth'
    behind-sound depth' calls =
        record {
          valid = valid-on table consts f f' more end k w h.valid;
          closures = record {
            entries = entries-on table f f' (entry-behind f f' b) (upvalue-behind f f' b) (λ c l. rw (cell-behind f f' b c) l) h.closures.entries;
            cells = cells-on f f' end (cell-behind f f' b) h.closures.cells;
            held = (λ c l.
                let q = place_as f f' c (cell-behind f f' b c) in
                place-on table consts (state f k w) (state f' k w) more (place_of f c) (place_of f' c) (rw q) (rw q)
                (h.closures.held c (rw (cell-behind f f' b c) at l)));
            calls = calls;
          };
        }

    -- the activations too are as they were
    pub head-sound :
        ((i : ℕ) → i < depth → closure_in f' i ≡ closure_in f i) → ((i : ℕ) → i < depth → prototype_in f' i ≡ prototype_in f i)
        → S (state f' k w) end depth
    head-sound c p = behind-sound depth (calls-on table f f' (entry-behind f f' b) depth c p h.closures.calls)

  module _ (f k w : List ℕ) (end depth : ℕ) (h : S (state f k w) end depth) where
    pub mark-sound : (m o : ℕ) → S (state (mark_with m o f) k w) end depth
    mark-sound m o =
        head-sound f (mark_with m o f) k w end depth (mark-behind f m o) h (λ i l. (mark-same f m o i).closure)
        (λ i l. (mark-same f m o i).prototype)

    pub depth-sound : (n : ℕ) → S (state (depth_with n f) k w) end depth
    depth-sound n =
        head-sound f (depth_with n f) k w end depth (depth-behind f n) h (λ i l. (depth_same f n i).closure)
        (λ i l. (depth_same f n i).prototype)

    pub gone-sound : (i p : ℕ) → i < 16 → S (state (instruction_with i p f) k w) end depth
    gone-sound i p l =
        head-sound f (instruction_with i p f) k w end depth (gone-behind f i p l) h (λ j _. gone_closure f i p l j)
        (λ j _. gone-prototype f i p j)

    -- ---- Call: an activation more, over entry e

    pub grown-sound :
        (e : ℕ) → frames_size ≤ length f → 0 < depth → depth < 16 → 0 < entry_in f e
        → S (state (depth_with (depth + 1) (opened_with depth (entry_in f e - 1) (e + 1) f)) k w) end (depth + 1)
    grown-sound e long some few on =
        let q = entry_in f e - 1 in
        let f₁ = opened_with depth q (e + 1) f in
        let f₂ = depth_with (depth + 1) f₁ in
        let b : Behind f f₂ = behind-on f f₁ f₂ (opened-behind f depth q (e + 1) few) (depth-behind f₁ (depth + 1)) in
        let at = depth_same f₁ (depth + 1) in
        let nc : closure_in f₂ depth ≡ e + 1 = (at depth).closure ∙ opened_closure f depth q (e + 1) few long in
        let np : prototype_in f₂ depth ≡ q = (at depth).prototype ∙ opened-prototype f depth q (e + 1) few long in
        let oc : (i : ℕ) → i < depth → closure_in f₂ i ≡ closure_in f i = (λ i l.
        (at i).closure ∙ (opened-same f depth q (e + 1) few i (omega arith) (λ z. omega arith)).closure) in
        let op : (i : ℕ) → i < depth → prototype_in f₂ i ≡ prototype_in f i = (λ i l.
        (at i).prototype ∙ (opened-same f depth q (e + 1) few i (omega arith) (λ z. omega arith)).prototype) in
        let same = entry-behind f f₂ b in
        let old = h.closures.calls in
        let y : e + 1 - 1 ≡ e = omega arith in
        behind-sound f f₂ k w end depth b h (depth + 1)
        (record {
          outer = λ l. oc 0 some ∙ old.outer some;
          plain = λ l. rw (op 0 some) (old.plain some);
          inner = (λ i z l.
              by_bool (eqb i depth) (λ a. rw (eqb-true i depth a, nc, np, y, same e) (omega arith, omega arith))
              (λ a. let d = eqb-false i depth a in
              let m : i < depth = omega (arith, d) in
              rw (oc i m, op i m, same (closure_in f i - 1)) (old.inner i z m)));
        })

  -- ---- fewer live registers and activations, where no cell is open on what goes

  pub fewer-sound :
      (s : State) (end depth end' depth' : ℕ) → end' ≤ end → depth' ≤ depth → ((c : ℕ) → cell_in s.frames c < 2 + end')
      → S s end depth → S s end' depth'
  unfolding Valid
  fewer-sound s end depth end' depth' l m low h =
      record {
        valid = λ j g. h.valid j (omega arith);
        closures = record {
          entries = h.closures.entries;
          cells = record { live = λ c g. let x = low c in omega arith; once = h.closures.cells.once };
          held = h.closures.held;
          calls = calls-fewer table s.frames depth depth' m h.closures.calls;
        };
      }

  -- ---- closing: a Jump with a close register, and Return

  module _ (r : ℕ) (s s' : State) (end depth : ℕ) (k : Kept r s s') (deep : depth ≤ 16) (inside : end ≤ cell_room 0) (h : S s end depth) where
    abbrev f : List ℕ
    f = s.frames

    abbrev f' : List ℕ
    f' = s'.frames

    abbrev low : Low f f'
    low = k.spares.low

    -- a cell that is open now was so
    was : (c : ℕ) → 2 ≤ cell_in f' c → cell_in f' c ≡ cell_in f c
    was c l = ⊎_elim (λ q. q) (λ q. let u = q.1 in absurd (omega arith)) (k.cell c)

    was-used : (c : ℕ) → 0 < cell_in f' c → 0 < cell_in f c
    was-used c l = ⊎_elim (λ q. omega arith) (λ q. let u = q.0 in omega arith) (k.cell c)

    still-used : (c : ℕ) → 0 < cell_in f c → 0 < cell_in f' c
    still-used c l = ⊎_elim (λ q. omega arith) (λ q. let u = q.1 in omega arith) (k.cell c)

    kept-sound : S s' end depth
    unfolding Valid
    kept-sound =
        let more = more_same f f' (entry-low f f' low) in
        let act = ahead-same f f' (ahead-low f f' low) in
        record {
          valid = (λ j l.
              place-on table consts s s' more j j (k.spares.kind_at j (omega arith)) (k.spares.word_at j (omega arith)) (h.valid j l));
          closures = record {
            entries = entries-on table f f' (entry-low f f' low) (upvalue-low f f' low) still-used h.closures.entries;
            cells = record {
              live = λ c l. let w = was c l in let g = h.closures.cells.live c (omega arith) in omega arith;
              once = (λ c d l q.
                  let w = was c l in let v = was d (omega arith) in h.closures.cells.once c d (omega arith) (omega arith));
            };
            held = (λ c l.
                place-on table consts s s' more (place_of f c) (place_of f' c) (k.kind c) (k.word c) (h.closures.held c (was-used c l)));
            calls = calls-on table f f' (entry-low f f' low) depth (λ i l. (act i (omega arith)).closure) (λ i l. (act i (omega arith)).prototype)
                h.closures.calls;
          };
        }

  module _ (r : ℕ) (s : State) (end depth : ℕ) (z : Sized s) (deep : depth ≤ 16) (inside : end ≤ cell_room 0) (h : S s end depth) where
    -- what stands before the cells, and the registers, are as they were (`spares_below`)
    pub closed-sound : S (closed_from r s) end depth
    closed-sound = kept-sound r s (closed_from r s) end depth (kept-below r s z 128 (omega arith)) deep inside h

    -- and then what stood from r on may go
    pub shut-sound : r ≤ end → (depth' : ℕ) → depth' ≤ depth → S (closed_from r s) r depth'
    shut-sound l depth' m = fewer-sound (closed_from r s) end depth r depth' l m (none_open r s z) closed-sound

  -- ---- an upvalue that the checker lets an instruction name: its cell is in use and holds a value

  module _ (s : State) (end depth i u : ℕ) (h : S s end depth) (l : i < depth)
      (m : u < descriptors_of table (prototype_in s.frames i)) (n : u < 8) where
    abbrev up : ℕ
    up = held_in s.frames (closure_in s.frames i) u

    pub upvalue-there : (0 < up) × (0 < cell_in s.frames (up - 1))
    upvalue-there =
        let f = s.frames in
        by_bool (eqb i 0)
        (λ e. let z : i ≡ 0 = eqb-true i 0 e in
        let p = h.closures.calls.plain (omega arith) in
        let m' : u < descriptors_of table (prototype_in f 0) = rw z at m in
        absurd (omega arith))
        (λ e. let z = eqb-false i 0 e in
        let x = h.closures.calls.inner i (omega (arith, z)) l in
        rw (held-some f (closure_in f i) u (omega (arith, x.0)))
        (h.closures.entries.has (closure_in f i - 1) (prototype_in f i) u (x.1 ∙ omega arith) m n))

    pub upvalue-fits : register_fits table consts s.frames s.kinds s.words (place_of s.frames (up - 1)) ≡ true
    upvalue-fits = h.closures.held (up - 1) upvalue-there.1

  -- ---- start: no entry and no cell in use, one activation without a closure

  pub start-sound :
      (s : State) (end : ℕ) → ((j : ℕ) → entry_slot 0 ≤ j → j < slots → get_or s.frames j 0 ≡ 0) → closure_in s.frames 0 ≡ 0
      → descriptors_of table (prototype_in s.frames 0) ≡ 0 → Valid table consts s.frames end s.kinds s.words → S s end 1
  start-sound s end z outer plain valid =
      let no-entry : (e : ℕ) → entry_in s.frames e ≡ 0 = zero-entry s.frames (λ j a b. z j (omega arith) (omega arith)) in
      let no_cell : (c : ℕ) → cell_in s.frames c ≡ 0 = zero-cell s.frames (λ j a b. z j (omega arith) b) in
      record {
        valid = valid;
        closures = record {
          entries = record {
            there = λ e q g. let y = no-entry e in absurd (omega arith);
            has = λ e q j g l m. let y = no-entry e in absurd (omega arith);
            spare = λ e q j g l. let y = no-entry e in absurd (omega arith);
          };
          cells = record {
            live = λ c l. let y = no_cell c in absurd (omega arith);
            once = λ c d l q. let y = no_cell c in absurd (omega arith);
          };
          held = λ c l. let y = no_cell c in absurd (omega arith);
          calls = record { outer = λ l. outer; plain = λ l. plain; inner = λ i a b. absurd (omega arith) };
        };
      }
