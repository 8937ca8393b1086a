use Rattle.std.proofs.Common.{◌≡◌, ◌+◌, ◌-◌, ◌*◌, ◌^◌, ◌<◌, ◌≤◌, take, drop}
use Rattle.image.specs.Hex.{bytes_of, word_from}
use Rattle.reader.proofs.hex.word_at.Given as goal

abbrev pub invariant-loop-i : goal.invariant-loop-i
invariant-loop-i l =
    (l.i ≤ l.n) × (l.w < 2 ^ (8 * l.i)) × (word_from l.w (take (l.n - l.i) (drop (l.k + l.i) (bytes_of l.s))) ≡ word_from 0 (take l.n (drop l.k (bytes_of l.s))))

abbrev pub decreases-loop-i : goal.decreases-loop-i
decreases-loop-i l = l.n - l.i
