-- A prototype of a storage that an image reads to has no more instructions than the image has bytes. Assumes nothing.
use Prim.Native.Nat.{ℕ, zero, suc, ◌+◌, ◌<◌, ◌≤◌}
use native.Mathlib.Omega.{arith}
use mathlib.Core.Path.{◌≡◌, refl, ap}
use mathlib.Core.Bool.{true}
use mathlib.Core.List.{List, [], ◌∷◌, ◌++◌}
use lib.ListN.{length, length-append}
use Rattle.image.specs.Frames.{F, ends, shape}
use Rattle.image.specs.Write.{written}
use Rattle.storage.specs.Layout.{Storage}
use Rattle.storage.specs.Fields.{prototypes_of, first_constant, first_instruction, constants_of, instructions_of, descriptors_of}
use Rattle.storage.specs.Stored.{reads_back, image_in, frames_in, const_frames, code_frames, desc_frames, proto_frames, protos_frames}
use Rattle.storage.proofs.Sizes.{size-pos, size-first}
use Rattle.storage.proofs.Six.{readable, fits}

-- a line for each frame, and a byte at least for each line
lines-bytes : (fs : List F) → length fs ≤ length (written fs)
lines-bytes [] = omega arith
lines-bytes (f ∷ fs) = omega (arith, size-first f fs, size-pos (shape f), lines-bytes fs)

code-length : (S : Storage) (n i : ℕ) → length (code_frames S n i) ≡ n
unfolding code_frames
code-length S zero i = refl
code-length S (suc n) i = ap suc (code-length S n (i + 1))

proto_long : (S : Storage) (q : ℕ) → instructions_of S.table q ≤ length (proto_frames S q)
unfolding proto_frames
proto_long S q =
    let a : List F = const_frames S (constants_of S.table q) (first_constant S.table q) in
    let b : List F = code_frames S (instructions_of S.table q) (first_instruction S.table q) in
    let d : List F = desc_frames S q (descriptors_of S.table q) 0 in
    omega (arith, length-append (d ++ a) b, code-length S (instructions_of S.table q) (first_instruction S.table q))

protos_long : (S : Storage) (n q j : ℕ) → j < n → instructions_of S.table (q + j) ≤ length (protos_frames S n q)
unfolding protos_frames
protos_long S zero q j l = absurd (omega arith)
protos_long S (suc n) q zero l =
    let e : q + 0 ≡ q = omega arith in
    rw e (omega (arith, length-append (proto_frames S q) (protos_frames S n (q + 1)), proto_long S q))
protos_long S (suc n) q (suc j) l =
    let e : q + suc j ≡ q + 1 + j = omega arith in
    let h : instructions_of S.table (q + 1 + j) ≤ length (protos_frames S n (q + 1)) = protos_long S n (q + 1) j (omega arith) in
    rw e (omega (arith, length-append (proto_frames S q) (protos_frames S n (q + 1))))

module _ (S : Storage) (reads : reads_back S ≡ true) where
  frames_long : (q : ℕ) → q < prototypes_of S.table → instructions_of S.table q ≤ length (frames_in S)
  unfolding frames_in
  frames_long q h =
      let m : ℕ = prototypes_of S.table in
      let e : 0 + q ≡ q = omega arith in
      let g : instructions_of S.table q ≤ length (protos_frames S m 0) = rw e at (protos_long S m 0 q h) in
      omega (arith, length-append (protos_frames S m 0) (ends m ∷ []))

  pub few-instructions : (q : ℕ) → q < prototypes_of S.table → instructions_of S.table q ≤ 65536
  unfolding image_in
  few-instructions q h =
      let b : length (written (frames_in S)) ≤ 65536 = fits (readable S reads) in
      omega (arith, frames_long q h, lines-bytes (frames_in S))
