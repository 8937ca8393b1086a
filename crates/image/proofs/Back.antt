-- Frames that lines can say, written and read again, are the same frames: each line is read from its own digits. Assumes nothing.
use Prim.Native.Nat.{ℕ, suc, ◌*◌, ◌/◌, ◌%◌, ◌^◌, ◌≤◌, ◌<◌}
use native.Mathlib.Omega.{arith}
use mathlib.Core.Path.{◌≡◌, refl, ap, ap₂}
use mathlib.Core.List.{List, [], ◌∷◌, ◌++◌}
use lib.ListN.{length}
use lib.Dec.{eqb}
use borrow.Author.Tests.{le-leb, lt-ltb, eq-eqb}
use Rattle.image.specs.Lines.{ended, onto, lines}
use Rattle.image.specs.Instruction.{operation_of, flags_of, a_of, b_of, c_of}
use Rattle.image.specs.Frames.{F, opens, const, str, code, ends, bad, desc, payload, most_of, word_bytes_of, frame_of, kind_bytes, open_bytes, const_bytes, code_bytes, end_bytes, desc_bytes, line_frame, frames_of}
use Rattle.image.specs.Write.{hex_of, word_bytes, frame_bytes, written}
use Rattle.choices.proofs.Choices.{by_bool}
use Rattle.image.proofs.HexLaws.{AllBytes, bytes-nil, bytes-cons, hex-no_lf, hex-paired, hex-bytes, word-is, word-all, word-length}
use Rattle.image.proofs.Packing.{packed-fields}
use Rattle.image.proofs.Said.{Said, AllSaid, more}

-- ---- lines

lines-hex : (l rest : List ℕ) → lines (hex_of l ++ 10 ∷ rest) ≡ ended (hex_of l) ∷ lines rest
unfolding lines hex_of onto
lines-hex [] rest = refl
lines-hex (b ∷ l) rest = simp (hex-no_lf (b / 16), hex-no_lf (b % 16), lines-hex l rest)

-- ---- frames

-- the largest word of a tag fills its payload
most-fits : (k w : ℕ) → w ≤ most_of k → w < 2 ^ (8 * payload k)
unfolding most_of payload
most-fits k w =
    by_bool (eqb k 0) (λ e. rw e (λ h. omega arith))
    (λ e. by_bool (eqb k 1) (λ f. rw (e, f) (λ h. omega arith)) (λ f. rw (e, f) (λ h. omega arith)))

word-said : (k w : ℕ) → w ≤ most_of k → word_bytes_of k (word_bytes (payload k) w []) ≡ const k w
unfolding word_bytes_of
word-said k w h =
    let e = word-is (payload k) w (most-fits k w h) in
    rw (word-length (payload k) w, e) (simp (eq-eqb (payload k) (payload k) refl, le-leb _ _ h))

kind-said : (f : F) → Said f → kind_bytes (frame_bytes f) ≡ f
unfolding kind_bytes open_bytes const_bytes code_bytes end_bytes desc_bytes frame_bytes
kind-said (opens r p) h = simp (le-leb _ _ h.0, le-leb _ _ h.1.1)
kind-said (const k w) h =
    simp (le-leb 2 (suc (suc (length (word_bytes (payload k) w [])))) (omega arith), lt-ltb _ _ h.0) (word-said k w h.1)
kind-said (str l) h =
    simp (le-leb 2 (suc (suc (length l))) (omega arith), le-leb (suc (suc (length l))) 66 (omega (arith, h.0)))
kind-said (code w) h = ap code (packed-fields w h)
kind-said (ends n) h = refl
kind-said (bad k) h = absurd h
kind-said (desc k n) h = simp (le-leb _ _ h.0)

bytes-said : (f : F) → Said f → AllBytes (frame_bytes f)
unfolding frame_bytes
bytes-said (opens r p) h =
    bytes-cons 0xa0 (r ∷ p ∷ []) (omega arith)
    (bytes-cons r (p ∷ []) (omega (arith, h.1.0)) (bytes-cons p [] (omega (arith, h.1.0, h.1.1)) bytes-nil))
bytes-said (const k w) h =
    bytes-cons 0xb0 (k ∷ word_bytes (payload k) w []) (omega arith)
    (bytes-cons k (word_bytes (payload k) w []) (omega (arith, h.0)) (word-all (payload k) w [] bytes-nil))
bytes-said (str l) h = bytes-cons 0xb0 (4 ∷ l) (omega arith) (bytes-cons 4 l (omega arith) h.1)
bytes-said (code w) h =
    bytes-cons 0xc0 (operation_of w ∷ flags_of w ∷ a_of w ∷ b_of w ∷ c_of w ∷ []) (omega arith)
    (bytes-cons (operation_of w) (flags_of w ∷ a_of w ∷ b_of w ∷ c_of w ∷ []) (omega arith)
    (bytes-cons (flags_of w) (a_of w ∷ b_of w ∷ c_of w ∷ []) (omega arith)
    (bytes-cons (a_of w) (b_of w ∷ c_of w ∷ []) (omega arith)
    (bytes-cons (b_of w) (c_of w ∷ []) (omega arith) (bytes-cons (c_of w) [] (omega arith) bytes-nil)))))
bytes-said (ends n) h = bytes-cons 0xe0 (n ∷ []) (omega arith) (bytes-cons n [] h bytes-nil)
bytes-said (bad k) h = absurd h
bytes-said (desc k n) h =
    bytes-cons 0xd1 (k ∷ n ∷ []) (omega arith)
    (bytes-cons k (n ∷ []) (omega (arith, h.0)) (bytes-cons n [] h.1 bytes-nil))

some_bytes : (f : F) → Said f → 1 ≤ length (hex_of (frame_bytes f))
unfolding frame_bytes hex_of
some_bytes (opens r p) h = omega arith
some_bytes (const k w) h = omega arith
some_bytes (str l) h = omega arith
some_bytes (code w) h = omega arith
some_bytes (ends n) h = omega arith
some_bytes (bad k) h = absurd h
some_bytes (desc k n) h = omega arith

line-said : (f : F) → Said f → frame_of (hex_of (frame_bytes f)) ≡ f
unfolding frame_of
line-said f h =
    let b = bytes-said f h in
    simp (le-leb _ _ (some_bytes f h), hex-paired (frame_bytes f) b, hex-bytes (frame_bytes f) b) (kind-said f h)

pub frames_said : (fs : List F) → AllSaid fs → frames_of (written fs) ≡ fs
unfolding frames_of written line_frame lines
frames_said [] h = refl
frames_said (f ∷ fs) (more a h) =
    rw (lines-hex (frame_bytes f) (written fs)) (ap₂ (λ (x : F) (r : List F). x ∷ r) (line-said f a) (frames_said fs h))
