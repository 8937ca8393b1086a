-- A list that stands at a place of another: cut in two, put together, and read element by element. Assumes nothing.
use Prim.Native.Nat.{ℕ, ◌+◌, ◌≤◌, ◌<◌}
use native.Mathlib.Omega.{arith}
use mathlib.Core.Path.{◌≡◌, refl, sym, ap, ap₂, ◌∙◌}
use mathlib.Core.List.{List, [], ◌∷◌, ◌++◌}
use lib.ListN.{length, get_or, take, drop, length-append, length-take, length-drop}
use lib.Seq.{take-add, take-take, drop-drop, take-append_seam, drop-append_seam, drop-cons, get_or-take, get_or-drop, length-take-le}

-- xs stands at top in l
abbrev pub At : List ℕ → ℕ → List ℕ → Type 0
At l top xs = take (length xs) (drop top l) ≡ xs

module _ (l : List ℕ) (top : ℕ) where
  -- ---- two lists in a row

  two : (xs ys : List ℕ) → take (length (xs ++ ys)) (drop top l) ≡ take (length xs) (drop top l) ++ take (length ys) (drop (top + length xs) l)
  two xs ys = rw (length-append xs ys, take-add (length xs) (length ys) (drop top l), drop-drop (length xs) top l)

  pub at_join : (xs ys : List ℕ) → At l top xs → At l (top + length xs) ys → At l top (xs ++ ys)
  at_join xs ys a b = two xs ys ∙ ap₂ (λ (u v : List ℕ). u ++ v) a b

  pub at_first : (xs ys : List ℕ) → At l top (xs ++ ys) → At l top xs
  at_first xs ys a =
      sym (take-take (length xs) (length (xs ++ ys)) (drop top l) (omega (arith, length-append xs ys)))
      ∙ ap (take (length xs)) a
      ∙ take-append_seam xs ys

  pub at_rest : (xs ys : List ℕ) → At l top (xs ++ ys) → At l (top + length xs) ys
  at_rest xs ys a =
      sym (drop-append_seam xs (take (length ys) (drop (top + length xs) l)))
      ∙ ap (drop (length xs)) (ap (λ (u : List ℕ). u ++ take (length ys) (drop (top + length xs) l)) (sym (at_first xs ys a)) ∙ sym (two xs ys) ∙ a)
      ∙ drop-append_seam xs ys

  -- ---- element by element

  pub at-fits : (xs : List ℕ) → At l top xs → 1 ≤ length xs → top + length xs ≤ length l
  at-fits xs a h = omega (arith, ap length a, length-take (length xs) (drop top l), length-drop top l)

  pub at-within : (xs : List ℕ) → At l top xs → top ≤ length l → top + length xs ≤ length l
  at-within xs a h = omega (arith, ap length a, length-take (length xs) (drop top l), length-drop top l)

  pub at-cell : (xs : List ℕ) (i : ℕ) → At l top xs → i < length xs → get_or l (top + i) 0 ≡ get_or xs i 0
  at-cell xs i a h =
      sym (get_or-take (length xs) (drop top l) i 0 h ∙ get_or-drop top l i 0) ∙ ap (λ (u : List ℕ). get_or u i 0) a

  pub at_part : (n : ℕ) → top + n ≤ length l → At l top (take n (drop top l))
  at_part n h =
      ap (λ (m : ℕ). take m (drop top l)) (length-take-le n (drop top l) (omega (arith, length-drop top l)))

pub at-cons : (l : List ℕ) (top x : ℕ) (xs : List ℕ) → top < length l → get_or l top 0 ≡ x → At l (top + 1) xs → At l top (x ∷ xs)
at-cons l top x xs h e a = at_join l top (x ∷ []) xs (rw (drop-cons l top 0 h, e)) a

pub at_head : (l : List ℕ) (top x : ℕ) (xs : List ℕ) → At l top (x ∷ xs) → (top < length l) × (get_or l top 0 ≡ x)
at_head l top x xs a =
    let z : top + 0 ≡ top = omega arith in
    (omega (arith, at-fits l top (x ∷ xs) a (omega arith)), ap (λ (n : ℕ). get_or l n 0) (sym z) ∙ at-cell l top (x ∷ xs) 0 a (omega arith))

pub at-four : (l : List ℕ) (top a b c d : ℕ) → top + 4 ≤ length l → get_or l top 0 ≡ a → get_or l (top + 1) 0 ≡ b
    → get_or l (top + 2) 0 ≡ c → get_or l (top + 3) 0 ≡ d → At l top (a ∷ b ∷ c ∷ d ∷ [])
at-four l top a b c d h e f g m =
    let x : top + 2 ≡ top + 1 + 1 = omega arith in
    let y : top + 3 ≡ top + 1 + 1 + 1 = omega arith in
    at-cons l top a _ (omega arith) e
    (at-cons l (top + 1) b _ (omega arith) f
    (at-cons l (top + 1 + 1) c _ (omega arith) (rw x at g) (at-cons l (top + 1 + 1 + 1) d [] (omega arith) (rw y at m) refl)))
