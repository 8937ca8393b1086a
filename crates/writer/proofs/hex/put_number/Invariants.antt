use Prim.Native.Nat.{◌≤◌}
use mathlib.Core.Path.{◌≡◌}
use mathlib.Core.List.{[]}
use lib.ListN.{length}
use lib.Seq.{sets}
use Rattle.image.specs.Write.{hex_of, word_bytes}
use Rattle.writer.proofs.hex.put_number.Given as goal

abbrev pub invariant-loop-k : goal.invariant-loop-k
invariant-loop-k l =
    (l.k ≤ l.n) × ((length l.out ≡ length l.initial.out) × (sets l.out l.at (hex_of (word_bytes l.k l.x [])) ≡ sets l.initial.out l.at (hex_of (word_bytes l.n l.w []))))

abbrev pub decreases-loop-k : goal.decreases-loop-k
decreases-loop-k l = l.k
