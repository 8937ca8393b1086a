-- How many bytes lines have, and that frames in a row are written in a row. Assumes nothing.
use Prim.Native.Nat.{ℕ, ◌+◌, ◌*◌}
use native.Mathlib.Omega.{arith}
use mathlib.Core.Path.{◌≡◌, refl, sym, ap, ◌∙◌}
use mathlib.Core.List.{List, [], ◌∷◌, ◌++◌, append_assoc}
use lib.ListN.{length, length-append}
use Rattle.image.specs.Frames.{F, opens, const, str, code, ends, bad, desc, payload}
use Rattle.image.specs.Write.{hex_of, frame_bytes, written}
use Rattle.image.proofs.HexLaws.{hex-length, word-length}

-- two digits for each byte, and the LF
unfoldable pub line_size : F → ℕ
line_size (opens r p) = 7
line_size (const k w) = 5 + 2 * payload k
line_size (str l) = 5 + 2 * length l
line_size (code w) = 13
line_size (ends n) = 5
line_size (bad k) = 1
line_size (desc k n) = 7

size-frame : (f : F) → 2 * length (frame_bytes f) + 1 ≡ line_size f
unfolding frame_bytes line_size
size-frame (opens r p) = refl
size-frame (const k w) = omega (arith, word-length (payload k) w)
size-frame (str l) = omega arith
size-frame (code w) = refl
size-frame (ends n) = refl
size-frame (bad k) = refl
size-frame (desc k n) = refl

pub size-line : (f : F) (fs : List F) → length (written (f ∷ fs)) ≡ line_size f + length (written fs)
unfolding written
size-line f fs =
    omega (arith, length-append (hex_of (frame_bytes f)) (10 ∷ written fs), hex-length (frame_bytes f), size-frame f)

pub size-nil : length (written []) ≡ 0
unfolding written
size-nil = refl

pub written-append : (a b : List F) → written (a ++ b) ≡ written a ++ written b
unfolding written
written-append [] b = refl
written-append (f ∷ a) b =
    ap (λ (l : List ℕ). hex_of (frame_bytes f) ++ 10 ∷ l) (written-append a b)
    ∙ sym (append_assoc (hex_of (frame_bytes f)) (10 ∷ written a) (written b))
