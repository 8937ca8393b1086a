use Rattle.std.proofs.Common.{◌≡◌, ◌+◌, ◌-◌, ◌≤◌, length, take, drop}
use lib.Seq.{sets}
use Rattle.image.specs.Hex.{bytes_of}
use Rattle.reader.proofs.fill.put_text.Given as goal

abbrev pub invariant-loop-i : goal.invariant-loop-i
invariant-loop-i l =
    (l.i ≤ l.n) × (length l.texts ≡ length l.initial.texts)
    × (sets l.texts (l.top + l.i) (take (l.n - l.i) (drop (2 + l.i) (bytes_of l.line))) ≡ sets l.initial.texts l.top (take l.n (drop 2 (bytes_of l.line))))

abbrev pub decreases-loop-i : goal.decreases-loop-i
decreases-loop-i l = l.n - l.i
