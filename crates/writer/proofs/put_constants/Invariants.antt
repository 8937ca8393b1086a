use Prim.Native.Nat.{◌-◌}
use mathlib.Core.List.{[]}
use Rattle.image.specs.Write.{written}
use Rattle.storage.specs.Layout.{storage}
use Rattle.storage.specs.Stored.{const_frames}
use Rattle.writer.proofs.Puts.{Left}
use Rattle.writer.proofs.FramePuts.{rest}
use Rattle.writer.proofs.put_constants.Given as goal

abbrev pub invariant-loop-i : goal.invariant-loop-i
invariant-loop-i l =
    Left l.initial.out l.at (written (const_frames (storage [] [] l.const_kinds l.const_words l.texts) l.n l.first)) l.out l.to
    (rest (const_frames (storage [] [] l.const_kinds l.const_words l.texts)) l.n l.first l.i)

abbrev pub decreases-loop-i : goal.decreases-loop-i
decreases-loop-i l = l.n - l.i
