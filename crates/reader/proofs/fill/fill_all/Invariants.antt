use Rattle.std.proofs.Common.{◌-◌, ◌≤◌, length, drop}
use Rattle.image.specs.Frames.{frames_of}
use Rattle.reader.proofs.Parts.{Left}
use Rattle.reader.proofs.fill.fill_all.Given as goal

abbrev pub invariant-loop-at : goal.invariant-loop-at
invariant-loop-at l =
    (l.at ≤ length l.s) × Left (frames_of l.s) l.initial.table l.initial.code l.initial.const_kinds l.initial.const_words l.initial.texts l.t (frames_of (drop l.at l.s)) l.table l.code l.const_kinds l.const_words l.texts

abbrev pub decreases-loop-at : goal.decreases-loop-at
decreases-loop-at l =
    length l.s - l.at
