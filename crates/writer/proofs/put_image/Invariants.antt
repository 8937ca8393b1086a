use Prim.Native.Nat.{◌-◌}
use Rattle.storage.specs.Layout.{storage}
use Rattle.storage.specs.Stored.{image_in}
use Rattle.writer.proofs.Puts.{Left}
use Rattle.writer.proofs.FramePuts.{protos_rest}
use Rattle.writer.proofs.put_image.Given as goal

abbrev pub invariant-loop-q : goal.invariant-loop-q
invariant-loop-q l =
    Left l.initial.out 0 (image_in (storage l.table l.code l.const_kinds l.const_words l.texts)) l.out l.to (protos_rest (storage l.table l.code l.const_kinds l.const_words l.texts) l.q)

abbrev pub decreases-loop-q : goal.decreases-loop-q
decreases-loop-q l = l.n - l.q
