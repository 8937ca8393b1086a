-- A window that is filled with values: directly above registers that hold values, and the first one. Assumes nothing.
use mathlib.Core.Path.{◌≡◌, refl, ◌∙◌}
use mathlib.Core.Bool.{true}
use mathlib.Core.List.{List}
use Prim.Native.Nat.{ℕ, zero, suc, ◌+◌, ◌-◌, ◌<◌, ◌≤◌}
use native.Mathlib.Omega.{arith}
use borrow.Author.Tests.{eqb-true, eqb-false}
use lib.Dec.{eqb}
use lib.ListN.{length, get_or, set, length-set}
use lib.Seq.{get_or-set_same, get_or-set_other}
use Rattle.slices.specs.Ranges.{stores, copy_within, copy_from, fill_of}
use Rattle.choices.proofs.Choices.{by_bool}
use Rattle.state.specs.Window.{fewer, window_of, window_from}
use Rattle.state.proofs.Windows.{fewer-first, fewer-within}
use Rattle.constant.specs.Values.{is_value}
use Rattle.fitness.specs.Fit.{value_fits, register_fits}
use Rattle.fitness.specs.Facts.{Valid}

-- ---- lengths stay

pub length-stores : (what : List ℕ → ℕ → ℕ) (n : ℕ) (l : List ℕ) (src dst : ℕ) → length (stores what n l src dst) ≡ length l
unfolding stores
length-stores what zero l src dst = refl
length-stores what (suc n) l src dst = length-stores what n (set l dst (what l src)) (src + 1) (dst + 1) ∙ length-set l dst (what l src)

pub length-window : (l : List ℕ) (src dst n size : ℕ) → length (window_of l src dst n size) ≡ length l
unfolding window_of
length-window l src dst n size = rw (length-stores, length-stores)

pub length-first : (from l : List ℕ) (n size : ℕ) → length (window_from from l n size) ≡ length l
unfolding window_from
length-first from l n size = rw (length-stores, length-stores)

pub fewer-left : (a b : ℕ) → fewer a b ≤ a
fewer-left a b = fewer-first a b (fewer a b) refl

fewer-right : (a b : ℕ) → fewer a b ≤ b
fewer-right a b = fewer-within a b (fewer a b) refl

-- ---- registers that hold values

module _ (t c frames : List ℕ) where
  nil-fits : value_fits t c frames 0 0 ≡ true
  unfolding value_fits is_value
  nil-fits = refl

  valid-none : (k w : List ℕ) → Valid t c frames 0 k w
  unfolding Valid
  valid-none k w j l = absurd (omega arith)

  valid-at : (m at : ℕ) (k w : List ℕ) → Valid t c frames m k w → at < m → value_fits t c frames (get_or k at 0) (get_or w at 0) ≡ true
  unfolding Valid register_fits
  valid-at m at k w v h = v at h

  -- a store of a value to the first register that is not asked for yet
  put-grow :
      (m x y : ℕ) (k w : List ℕ) → m + 1 ≤ length k → m + 1 ≤ length w → value_fits t c frames x y ≡ true → Valid t c frames m k w
      → Valid t c frames (m + 1) (set k m x) (set w m y)
  unfolding Valid register_fits
  put-grow m x y k w lk lw ok v j h =
      by_bool (eqb j m)
      (λ e. let q : j ≡ m = eqb-true j m e in
      let hk : m < length k = omega arith in
      let hw : m < length w = omega arith in
      rw (q, get_or-set_same k m x 0 hk, get_or-set_same w m y 0 hw) ok)
      (λ e. let d = eqb-false j m e in
      rw (get_or-set_other k m j x 0 d, get_or-set_other w m j y 0 d) (v j (omega (arith, d))))

  -- what is stored is a value, at each of n places from src on, as long as the first m registers are valid
  abbrev Values : (List ℕ → ℕ → ℕ) → (List ℕ → ℕ → ℕ) → ℕ → ℕ → ℕ → Type 0
  Values kind word src n m =
      (at m' : ℕ) (k w : List ℕ) → src ≤ at → at < src + n → m ≤ m' → Valid t c frames m' k w → value_fits t c frames (kind k at) (word w at) ≡ true

  -- stores of values
  module _ (kind word : List ℕ → ℕ → ℕ) where
    -- to the registers' end: more registers are valid
    grow :
        (n src m : ℕ) (k w : List ℕ) → m + n ≤ length k → m + n ≤ length w → Values kind word src n m → Valid t c frames m k w
        → Valid t c frames (m + n) (stores kind n k src m) (stores word n w src m)
    unfolding stores
    grow zero src m k w lk lw h v = let e : m + 0 ≡ m = omega arith in rw e v
    grow (suc n) src m k w lk lw h v =
        let e : m + suc n ≡ m + 1 + n = omega arith in
        rw e
        (grow n (src + 1) (m + 1) (set k m (kind k src)) (set w m (word w src)) (rw length-set (omega arith)) (rw length-set (omega arith))
        (λ at m' k' w' from to more. h at m' k' w' (omega arith) (omega arith) (omega arith))
        (put-grow m (kind k src) (word w src) k w (omega arith) (omega arith) (h src m k w (omega arith) (omega arith) (omega arith) v) v))

  nils : (src n m : ℕ) → Values (λ held at. 0) (λ held at. 0) src n m
  nils src n m at m' k w from to more v = nil-fits

  fill-grow :
      (n m : ℕ) (k w : List ℕ) → m + n ≤ length k → m + n ≤ length w → Valid t c frames m k w
      → Valid t c frames (m + n) (fill_of n k m 0) (fill_of n w m 0)
  fill-grow n m k w lk lw v = grow _ _ n m m k w lk lw (nils m n m) v

  copies : (src n m : ℕ) → src + n ≤ m → Values (λ held at. get_or held at 0) (λ held at. get_or held at 0) src n m
  copies src n m h at m' k w from to more v = valid-at m' at k w v (omega arith)

  -- ---- windows

  module _ (m src n size : ℕ) (k w : List ℕ) (h : src + n ≤ m) (v : Valid t c frames m k w) where
    -- a new window directly above the valid registers
    pub window-grow :
        m + size ≤ length k → m + size ≤ length w → Valid t c frames (m + size) (window_of k src m n size) (window_of w src m n size)
    unfolding window_of
    window-grow lk lw =
        let f : ℕ = fewer n size in
        let l1 : f ≤ n = fewer-left n size in
        let l2 : f ≤ size = fewer-right n size in
        let e : m + size ≡ m + f + (size - f) = omega arith in
        rw e
        (fill-grow (size - f) (m + f) (copy_within f k src m) (copy_within f w src m) (rw length-stores (omega arith)) (rw length-stores (omega arith))
        (grow _ _ f src m k w (omega arith) (omega arith) (copies src f m (omega arith)) v))

  -- the first window, filled from other lists
  pub window-first :
      (fk fw : List ℕ) (n size : ℕ) (k w : List ℕ) → size ≤ length k → size ≤ length w
      → ((j : ℕ) → j < n → value_fits t c frames (get_or fk j 0) (get_or fw j 0) ≡ true)
      → Valid t c frames size (window_from fk k n size) (window_from fw w n size)
  unfolding window_from
  window-first fk fw n size k w lk lw h =
      let f : ℕ = fewer n size in
      let l1 : f ≤ n = fewer-left n size in
      let l2 : f ≤ size = fewer-right n size in
      let z : 0 + f ≡ f = omega arith in
      let e : f + (size - f) ≡ size = omega arith in
      rw e at
      (fill-grow (size - f) f (copy_from f fk 0 k 0) (copy_from f fw 0 w 0) (rw length-stores (omega arith)) (rw length-stores (omega arith))
      (rw z at
      (grow (λ held at. get_or fk at 0) (λ held at. get_or fw at 0) f 0 0 k w (omega arith) (omega arith) (λ at m' k' w' from to more v. h at (omega arith)) (valid-none k w))))
