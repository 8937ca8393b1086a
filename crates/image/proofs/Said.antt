-- What a line can say of a frame: each field a byte, or as many as it has, and within the limits of its kind. Assumes nothing.
use Prim.Native.Nat.{◌^◌, ◌≤◌, ◌<◌}
use mathlib.Core.List.{List, [], ◌∷◌}
use lib.ListN.{length}
use Rattle.image.specs.Frames.{F, opens, const, str, code, ends, bad, desc, most_of}
use Rattle.image.proofs.HexLaws.{AllBytes}

abbrev pub Said : F → Type 0
Said (opens r p) = (1 ≤ r) × ((r ≤ 255) × (p ≤ r))
Said (const k w) = (k < 4) × (w ≤ most_of k)
Said (str l) = (length l ≤ 64) × AllBytes l
Said (code w) = w < 2 ^ 40
Said (ends n) = n < 256
Said (bad k) = ⊥
Said (desc k n) = (k ≤ 1) × (n < 256)

pub data AllSaid : List F → Type 0 where
  none : AllSaid []
  more : {f : F} {fs : List F} → Said f → AllSaid fs → AllSaid (f ∷ fs)
