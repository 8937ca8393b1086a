-- Writing: the bytes of a frame, and of an image, one line for each frame. Assumes nothing.
use Rattle.std.specs.Prelude.{ℕ, zero, suc, ◌+◌, ◌/◌, ◌%◌, List, [], ◌∷◌, ◌++◌, ltb, cond}
use Rattle.image.specs.Instruction.{operation_of, flags_of, a_of, b_of, c_of}
use Rattle.image.specs.Frames.{F, opens, const, str, code, ends, bad, desc, payload}

unfoldable pub hex_digit : ℕ → ℕ
hex_digit n = cond (ltb n 10) (48 + n) (87 + n)

unfoldable pub hex_of : List ℕ → List ℕ
hex_of [] = []
hex_of (b ∷ l) = hex_digit (b / 16) ∷ hex_digit (b % 16) ∷ hex_of l

-- the n low bytes of w, high byte first, before rest
unfoldable pub word_bytes : ℕ → ℕ → List ℕ → List ℕ
word_bytes zero w rest = rest
word_bytes (suc n) w rest = word_bytes n (w / 256) (w % 256 ∷ rest)

unfoldable pub frame_bytes : F → List ℕ
frame_bytes (opens r p) = 0xa0 ∷ r ∷ p ∷ []
frame_bytes (const k w) = 0xb0 ∷ k ∷ word_bytes (payload k) w []
frame_bytes (str l) = 0xb0 ∷ 4 ∷ l
frame_bytes (code w) = 0xc0 ∷ operation_of w ∷ flags_of w ∷ a_of w ∷ b_of w ∷ c_of w ∷ []
frame_bytes (ends n) = 0xe0 ∷ n ∷ []
frame_bytes (bad k) = []
frame_bytes (desc k n) = 0xd1 ∷ k ∷ n ∷ []

unfoldable pub written : List F → List ℕ
written [] = []
written (f ∷ fs) = hex_of (frame_bytes f) ++ 10 ∷ written fs
