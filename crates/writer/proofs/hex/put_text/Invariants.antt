use Prim.Native.Nat.{◌-◌}
use lib.ListN.{length, drop}
use Rattle.image.specs.Write.{hex_of}
use Rattle.writer.proofs.Puts.{Left}
use Rattle.writer.proofs.hex.put_text.Given as goal

abbrev pub invariant-loop-i : goal.invariant-loop-i
invariant-loop-i l = Left l.initial.out l.at (hex_of l.s) l.out l.to (hex_of (drop l.i l.s))

abbrev pub decreases-loop-i : goal.decreases-loop-i
decreases-loop-i l = length l.s - l.i
