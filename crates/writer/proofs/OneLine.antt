-- One line at the front of an output: without room nothing is written, with room its parts one after the other. Assumes nothing.
use Prim.Native.Nat.{ℕ, ◌+◌, ◌*◌, ◌≤◌, ◌<◌}
use native.Mathlib.Omega.{arith}
use native.Mathlib.Nat.{zero-add}
use mathlib.Core.Path.{◌≡◌, ◌∙◌}
use mathlib.Core.List.{List, [], ◌∷◌, ◌++◌, append_assoc}
use lib.ListN.{length, length-append}
use lib.Seq.{sets-eq}
use borrow.Author.Tests.{le-leb, lt-leb}
use Rattle.image.specs.Write.{hex_of}
use Rattle.image.proofs.HexLaws.{hex-append, hex-length}
use Rattle.writer.specs.Writing.{line_of, Lined}
use Rattle.writer.specs.Putting.{Put}
use Rattle.writer.proofs.Puts.{put_then}

module _ (h t out : List ℕ) where
  size : length (line_of (h ++ t)) ≡ 2 * length h + 2 * length t + 1
  size = simp (length-append, hex-length) (omega (arith, length-append h t))

  pub no_room : length out < 2 * length h + 2 * length t + 1 → Lined (line_of (h ++ t)) 0 out out
  no_room e =
      let k : length out < length (line_of (h ++ t)) = omega (arith, size) in
      record { answer = rw (lt-leb _ _ k); left = rw (lt-leb _ _ k) }

  pub lined :
      2 * length h + 2 * length t + 1 ≤ length out → (o₁ o₂ o₃ : List ℕ) (a b r : ℕ) → Put out 0 (hex_of h) a o₁ → Put o₁ a (hex_of t) b o₂
      → Put o₂ b (10 ∷ []) r o₃
      → Lined (line_of (h ++ t)) r out o₃
  lined e o₁ o₂ o₃ a b r p q s =
      let k : length (line_of (h ++ t)) ≤ length out = omega (arith, size) in
      let w : Put out 0 (line_of (h ++ t)) r o₃ = rw (hex-append h t, append_assoc) (put_then p (put_then q s)) in
      record {
        answer = w.next ∙ rw (le-leb _ _ k) (zero-add _);
        left = w.left ∙ sets-eq (line_of (h ++ t)) out 0 (omega arith) ∙ rw (le-leb _ _ k, zero-add (length (line_of (h ++ t))));
      }
