-- How many bytes a frame's line has: what the code adds up is the length of what is written. Assumes nothing.
use Prim.Native.Nat.{ℕ, ◌+◌, ◌≤◌}
use native.Mathlib.Omega.{arith}
use mathlib.Core.Path.{◌≡◌, refl}
use mathlib.Core.List.{List, ◌∷◌}
use lib.ListN.{length}
use lib.Dec.{eqb}
use Rattle.image.specs.Frames.{F, opens, const, str, code, ends, bad, desc, shape, payload}
use Rattle.image.specs.Write.{written}
use Rattle.image.specs.declared.Frame.{Frame}
use Rattle.image.specs.declared.Frame.TheVariants.{Open, Const, Str, Code, End, Bad, Desc}
use Rattle.choices.proofs.Choices.{cond_cases}
use Rattle.image.proofs.Said.{Said}
use Rattle.image.proofs.Sizes.{line_size, size-line}
use Rattle.storage.specs.Cursor.{size_of}

pub payload-small : (k : ℕ) → payload k ≤ 8
unfolding payload
payload-small k =
    cond_cases (λ (n : ℕ). n ≤ 8) (eqb k 0) _ _ (λ _. omega arith)
    (λ _. cond_cases (λ (n : ℕ). n ≤ 8) (eqb k 1) _ _ (λ _. omega arith) (λ _. omega arith))

pub str-small : (f : Frame) (n : ℕ) → size_of f ≤ 1000 → f ≡ Str n → n ≤ 498
unfolding size_of
str-small f n h e = let g = rw e at h in omega arith

pub size-pos : (f : Frame) → 1 ≤ size_of f
unfolding size_of
size-pos (Open r p) = omega arith
size-pos (Const k w) = omega arith
size-pos (Str n) = omega arith
size-pos (Code w) = omega arith
size-pos (End n) = omega arith
size-pos (Bad k) = omega arith
size-pos (Desc k n) = omega arith

size-shape : (f : F) → size_of (shape f) ≡ line_size f
unfolding size_of shape line_size
size-shape (opens r p) = refl
size-shape (const k w) = refl
size-shape (str l) = refl
size-shape (code w) = refl
size-shape (ends n) = refl
size-shape (bad k) = refl
size-shape (desc k n) = refl

pub size-first : (f : F) (fs : List F) → length (written (f ∷ fs)) ≡ size_of (shape f) + length (written fs)
size-first f fs = omega (arith, size-line f fs, size-shape f)

pub size-said : (f : F) → Said f → size_of (shape f) ≤ 1000
unfolding size_of shape
size-said (opens r p) y = omega arith
size-said (const k w) y = omega (arith, payload-small k)
size-said (str l) y = omega (arith, y.0)
size-said (code w) y = omega arith
size-said (ends n) y = omega arith
size-said (bad k) y = absurd y
size-said (desc k n) y = omega arith
