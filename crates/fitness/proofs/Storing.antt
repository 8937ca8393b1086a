-- What closures ask of a fit state is kept by every change of registers that a step makes: values stored, cleared, copied, handed to a window, wherever that is; by a
-- Return, which closes cells first; and a start has it. Assumes nothing.
use mathlib.Core.Path.{◌≡◌, refl, ◌∙◌}
use mathlib.Core.Bool.{true}
use mathlib.Core.List.{List}
use Prim.Native.Nat.{ℕ, zero, suc, ◌+◌, ◌-◌, ◌<◌, ◌≤◌}
use native.Mathlib.Omega.{arith}
use borrow.Author.Tests.{leb-true, leb-false, ltb-true, ltb-false, eqb-true, eqb-false}
use lib.Dec.{eqb, leb, ltb}
use lib.ListN.{length, get_or, set, length-set, get_or-eq_default}
use lib.Seq.{get_or-set_same, get_or-set_other}
use Rattle.choices.proofs.Choices.{by_bool}
use Rattle.slices.specs.Ranges.{stores, fill_of, copy_within}
use Rattle.storage.specs.Fields.{descriptors_of}
use Rattle.constant.specs.Values.{is_value}
use Rattle.state.specs.Frames.{entry_slot, slots, mark_with, depth_with, opened_with}
use Rattle.state.specs.States.{State, state, cell_room, frames_size, registers_size}
use Rattle.state.specs.Window.{fewer, window_of}
use Rattle.state.proofs.Fields.{Behind, behind-on, mark-length, mark-behind, depth-length, depth-behind, opened-prototype, opened_closure, opened-behind}
use Rattle.state.proofs.Windows.{fewer-first, fewer-within}
use Rattle.cells.specs.Cells.{cell_in}
use Rattle.cells.specs.Closing.{closed_from}
use Rattle.cells.proofs.Shapes.{place-open}
use Rattle.cells.proofs.Laws.{used, at_own}
use Rattle.cells.proofs.Closed.{Sized, none_open}
use Rattle.fitness.specs.Fit.{value_fits, register_fits}
use Rattle.fitness.specs.Facts.{Valid}
use Rattle.fitness.proofs.Keeping.{Sound, fewer-sound, depth-sound, closed-sound, start-sound}

-- ---- lists that are stored to

-- the same from the closed cells' values on
abbrev pub Beyond : List ℕ → List ℕ → Type 0
Beyond l l' = (j : ℕ) → cell_room 0 ≤ j → get_or l' j 0 ≡ get_or l j 0

pub beyond-set : (l : List ℕ) (i x : ℕ) → i < cell_room 0 → Beyond l (set l i x)
beyond-set l i x h j g = get_or-set_other l i j x 0 (λ e. omega arith)

module _ (what : List ℕ → ℕ → ℕ) where
  stores-length : (n : ℕ) (l : List ℕ) (src dst : ℕ) → length (stores what n l src dst) ≡ length l
  unfolding stores
  stores-length zero l src dst = refl
  stores-length (suc n) l src dst = stores-length n (set l dst (what l src)) (src + 1) (dst + 1) ∙ length-set l dst (what l src)

  stores-before : (n : ℕ) (l : List ℕ) (src dst j : ℕ) → j < dst → get_or (stores what n l src dst) j 0 ≡ get_or l j 0
  unfolding stores
  stores-before zero l src dst j h = refl
  stores-before (suc n) l src dst j h =
      stores-before n (set l dst (what l src)) (src + 1) (dst + 1) j (omega arith)
      ∙ get_or-set_other l dst j (what l src) 0 (λ e. omega arith)

  pub beyond-stores : (n : ℕ) (l : List ℕ) (src dst : ℕ) → dst + n ≤ cell_room 0 → Beyond l (stores what n l src dst)
  unfolding stores
  beyond-stores zero l src dst h j g = refl
  beyond-stores (suc n) l src dst h j g =
      beyond-stores n (set l dst (what l src)) (src + 1) (dst + 1) (omega arith) j g ∙ beyond-set l dst (what l src) (omega arith) j g

pub beyond-window : (l : List ℕ) (src dst n size : ℕ) → dst + size ≤ cell_room 0 → Beyond l (window_of l src dst n size)
unfolding window_of
beyond-window l src dst n size h j g =
    let m : ℕ = fewer n size in
    let o : m ≤ size = fewer-within n size m refl in
    beyond-stores (λ held at. 0) (size - m) (copy_within m l src dst) (dst + m) (dst + m) (omega arith) j g
    ∙ beyond-stores (λ held at. get_or held at 0) m l src dst (omega arith) j g

set-zero : (l : List ℕ) (i : ℕ) → get_or (set l i 0) i 0 ≡ 0
set-zero l i =
    by_bool (ltb i (length l)) (λ e. get_or-set_same l i 0 0 (ltb-true i (length l) e))
    (λ e. get_or-eq_default (set l i 0) 0 (rw length-set (ltb-false i (length l) e)))

stores-zero : (n : ℕ) (l : List ℕ) (src dst j : ℕ) → dst ≤ j → j < dst + n → get_or (stores (λ held at. 0) n l src dst) j 0 ≡ 0
unfolding stores
stores-zero zero l src dst j h g = absurd (omega arith)
stores-zero (suc n) l src dst j h g =
    by_bool (eqb j dst)
    (λ e. let q : j ≡ dst = eqb-true j dst e in
    rw q (stores-before (λ held at. 0) n (set l dst 0) (src + 1) (dst + 1) dst (omega arith) ∙ set-zero l dst))
    (λ e. let d = eqb-false j dst e in stores-zero n (set l dst 0) (src + 1) (dst + 1) j (omega (arith, d)) (omega arith))

module _ (table consts : List ℕ) where
  -- ---- every place that held a value holds one after

  abbrev pub Keeps : List ℕ → List ℕ → List ℕ → List ℕ → List ℕ → Type 0
  Keeps f k w k' w' =
      (j : ℕ) → j < registers_size → register_fits table consts f k w j ≡ true → register_fits table consts f k' w' j ≡ true

  pub keeps_on : (f k w k' w' k'' w'' : List ℕ) → Keeps f k w k' w' → Keeps f k' w' k'' w'' → Keeps f k w k'' w''
  keeps_on f k w k' w' k'' w'' a b j l h = b j l (a j l h)

  module _ (f : List ℕ) where
    keeps-valid : (m : ℕ) (k w k' w' : List ℕ) → m ≤ registers_size → Keeps f k w k' w' → Valid table consts f m k w → Valid table consts f m k' w'
    unfolding Valid
    keeps-valid m k w k' w' l a v j h = a j (omega arith) (v j h)

    module _ (k w : List ℕ) (lk : registers_size ≤ length k) (lw : registers_size ≤ length w) where
      -- a store of a value, anywhere
      pub set_keeps : (p x y : ℕ) → value_fits table consts f x y ≡ true → Keeps f k w (set k p x) (set w p y)
      unfolding register_fits
      set_keeps p x y ok j l h =
          by_bool (eqb j p)
          (λ e. let q : j ≡ p = eqb-true j p e in
          let hk : p < length k = omega arith in
          let hw : p < length w = omega arith in
          rw (q, get_or-set_same k p x 0 hk, get_or-set_same w p y 0 hw) ok)
          (λ e. let n = eqb-false j p e in rw (get_or-set_other k p j x 0 n, get_or-set_other w p j y 0 n) h)

      -- a copy of a value, from anywhere to anywhere
      pub copy-keeps :
          (from to : ℕ) → register_fits table consts f k w from ≡ true → Keeps f k w (set k to (get_or k from 0)) (set w to (get_or w from 0))
      unfolding register_fits
      copy-keeps from to h = set_keeps to (get_or k from 0) (get_or w from 0) h

    nil-fits : value_fits table consts f 0 0 ≡ true
    unfolding value_fits is_value
    nil-fits = refl

    -- stores of values, anywhere; what is stored is one as long as the first m registers hold values
    stores-keeps :
        (kind word : List ℕ → ℕ → ℕ) (m n src dst : ℕ) (k w : List ℕ) → m ≤ registers_size → registers_size ≤ length k → registers_size ≤ length w
        → ((at : ℕ) (k w : List ℕ) → src ≤ at → at < src + n → Valid table consts f m k w → value_fits table consts f (kind k at) (word w at) ≡ true)
        → Valid table consts f m k w → Keeps f k w (stores kind n k src dst) (stores word n w src dst)
    unfolding stores
    stores-keeps kind word m zero src dst k w lm lk lw ok v = λ j l h. h
    stores-keeps kind word m (suc n) src dst k w lm lk lw ok v =
        let k' = set k dst (kind k src) in
        let w' = set w dst (word w src) in
        let one : Keeps f k w k' w' = set_keeps k w lk lw dst (kind k src) (word w src) (ok src k w (omega arith) (omega arith) v) in
        keeps_on f k w k' w' (stores kind n k' (src + 1) (dst + 1)) (stores word n w' (src + 1) (dst + 1)) one
        (stores-keeps kind word m n (src + 1) (dst + 1) k' w' lm (rw length-set lk) (rw length-set lw)
        (λ at k w a b. ok at k w (omega arith) (omega arith)) (keeps-valid m k w k' w' lm one v))

    module _ (k w : List ℕ) (lk : registers_size ≤ length k) (lw : registers_size ≤ length w) where
      pub fill-keeps : (n dst : ℕ) → Keeps f k w (fill_of n k dst 0) (fill_of n w dst 0)
      unfolding Valid
      fill-keeps n dst =
          stores-keeps (λ held at. 0) (λ held at. 0) 0 n dst dst k w (omega arith) lk lw (λ at k w a b v. nil-fits) (λ j l. absurd (omega arith))

    -- values from live registers on, and nil behind them, anywhere
    pub window-keeps :
        (m src n : ℕ) (k w : List ℕ) → m ≤ registers_size → registers_size ≤ length k → registers_size ≤ length w → src + n ≤ m
        → Valid table consts f m k w → (dst size : ℕ) → Keeps f k w (window_of k src dst n size) (window_of w src dst n size)
    unfolding window_of Valid register_fits
    window-keeps m src n k w lm lk lw inside v dst size =
        let o : ℕ = fewer n size in
        let few : o ≤ n = fewer-first n size o refl in
        let k' = copy_within o k src dst in
        let w' = copy_within o w src dst in
        keeps_on f k w k' w' (fill_of (size - o) k' (dst + o) 0) (fill_of (size - o) w' (dst + o) 0)
        (stores-keeps (λ held at. get_or held at 0) (λ held at. get_or held at 0) m o src dst k w lm lk lw (λ at k w a b v. v at (omega arith)) v)
        (fill-keeps k' w' (rw stores-length lk) (rw stores-length lw) (size - o) (dst + o))

  abbrev S : State → ℕ → ℕ → Type 0
  S s end depth = Sound table consts s end depth

  -- ---- other registers, `end'` of them live

  module _ (f k w k' w' : List ℕ) (end end' depth : ℕ) (grows : end ≤ end') (h : S (state f k w) end depth)
      (valid : Valid table consts f end' k' w') where
    -- each closed cell still holds a value
    cells-sound :
        ((c : ℕ) → c < 128 → register_fits table consts f k w (cell_room c) ≡ true → register_fits table consts f k' w' (cell_room c) ≡ true)
        → S (state f k' w') end' depth
    unfolding Valid
    cells-sound rest =
        record {
          valid = valid;
          closures = record {
            entries = h.closures.entries;
            cells = record {
              live = λ c l. let x = h.closures.cells.live c l in omega arith;
              once = h.closures.cells.once;
            };
            held = (λ c l.
                by_bool (leb 2 (cell_in f c))
                (λ o. let m = leb-true 2 (cell_in f c) o in
                let x = h.closures.cells.live c m in
                rw (← place-open f c (cell_in f c) refl m) (valid (cell_in f c - 2) (omega arith)))
                (λ o. let m = leb-false 2 (cell_in f c) o in
                let own = at_own f c (omega arith) in
                rw own (rest c (used f c l) (rw own at (h.closures.held c l)))));
            calls = h.closures.calls;
          };
        }

    -- places from 2,308 on are as they were
    pub registers-sound : Beyond k k' → Beyond w w' → S (state f k' w') end' depth
    unfolding register_fits
    registers-sound bk bw = cells-sound (λ c l g. rw (bk (cell_room c) (omega arith), bw (cell_room c) (omega arith)) g)

    -- or hold values where they held some
    pub window-sound : Keeps f k w k' w' → S (state f k' w') end' depth
    window-sound a = cells-sound (λ c l. a (cell_room c) (omega arith))

  -- ---- values stored anywhere: to a register, or where a cell in use has its value

  module _ (f k w : List ℕ) (end depth : ℕ) (inside : end ≤ registers_size) (h : S (state f k w) end depth) where
    pub keeps-sound : (k' w' : List ℕ) → Keeps f k w k' w' → S (state f k' w') end depth
    keeps-sound k' w' a =
        window-sound f k w k' w' end end depth (omega arith) h (keeps-valid f end k w k' w' inside a h.valid) a

    module _ (lk : registers_size ≤ length k) (lw : registers_size ≤ length w) where
      pub put-sound : (p x y : ℕ) → value_fits table consts f x y ≡ true → S (state f (set k p x) (set w p y)) end depth
      put-sound p x y ok = keeps-sound (set k p x) (set w p y) (set_keeps f k w lk lw p x y ok)

      pub copied-sound :
          (from to : ℕ) → register_fits table consts f k w from ≡ true → S (state f (set k to (get_or k from 0)) (set w to (get_or w from 0))) end depth
      copied-sound from to ok = keeps-sound (set k to (get_or k from 0)) (set w to (get_or w from 0)) (copy-keeps f k w lk lw from to ok)

  -- ---- Return: cells are closed, values are handed down, the window and its activation go

  pub left-sound :
      (base : ℕ) (s : State) (end depth : ℕ) → Sized s → depth ≤ 16 → end ≤ cell_room 0 → base ≤ end → S s end depth → (k' w' : List ℕ)
      → Keeps (closed_from base s).frames (closed_from base s).kinds (closed_from base s).words k' w'
      → S (state (depth_with (depth - 1) (closed_from base s).frames) k' w') base (depth - 1)
  left-sound base s end depth z deep inside l h k' w' a =
      let t = closed_from base s in
      let h₁ : S (state t.frames t.kinds t.words) end depth = closed-sound table consts base s end depth z deep inside h in
      let h₂ = keeps-sound t.frames t.kinds t.words end depth (omega arith) h₁ k' w' a in
      depth-sound table consts t.frames k' w' base (depth - 1)
      (fewer-sound table consts (state t.frames k' w') end depth base (depth - 1) l (omega arith) (none_open base s z) h₂) (depth - 1)

  -- ---- a start: no entry and no cell is in use, and the outermost activation has no closure

  pub begun-sound :
      (f k w : List ℕ) (end : ℕ) → frames_size ≤ length f → descriptors_of table 0 ≡ 0
      → let g = opened_with 0 0 0 (depth_with 1 (mark_with 70 0 (fill_of (slots - entry_slot 0) f (entry_slot 0) 0))) in
      Valid table consts g end k w → S (state g k w) end 1
  begun-sound f k w end long plain valid =
      let f₀ = fill_of (slots - entry_slot 0) f (entry_slot 0) 0 in
      let f₁ = mark_with 70 0 f₀ in
      let f₂ = depth_with 1 f₁ in
      let g = opened_with 0 0 0 f₂ in
      let b : Behind f₀ g =
      behind-on f₀ f₁ g (mark-behind f₀ 70 0) (behind-on f₁ f₂ g (depth-behind f₁ 1) (opened-behind f₂ 0 0 0 (omega arith))) in
      let m : frames_size ≤ length f₂ = rw (depth-length f₁ 1, mark-length f₀ 70 0, stores-length) long in
      start-sound table consts (state g k w) end
      (λ j a l. b j a ∙ stores-zero (slots - entry_slot 0) f (entry_slot 0) (entry_slot 0) j a (omega arith))
      (opened_closure f₂ 0 0 0 (omega arith) m) (rw (opened-prototype f₂ 0 0 0 (omega arith) m) plain) valid
