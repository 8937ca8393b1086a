use Prim.Native.Nat.{◌-◌}
use mathlib.Core.List.{[]}
use Rattle.image.specs.Write.{written}
use Rattle.storage.specs.Layout.{storage}
use Rattle.storage.specs.Stored.{desc_frames}
use Rattle.writer.proofs.Puts.{Left}
use Rattle.writer.proofs.FramePuts.{rest}
use Rattle.writer.proofs.put_descriptors.Given as goal

abbrev pub invariant-loop-i : goal.invariant-loop-i
invariant-loop-i l =
    Left l.initial.out l.at (written (desc_frames (storage l.table [] [] [] []) l.q l.n 0)) l.out l.to (rest (desc_frames (storage l.table [] [] [] []) l.q) l.n 0 l.i)

abbrev pub decreases-loop-i : goal.decreases-loop-i
decreases-loop-i l = l.n - l.i
