use Prim.Native.Nat.{◌-◌}
use Rattle.writer.proofs.Puts.{Left}
use Rattle.deletion.specs.Output.{value_lines}
use Rattle.deletion.proofs.Puts.{rest}
use Rattle.deletion.proofs.output.put_values.Given as goal

abbrev pub invariant-loop-i : goal.invariant-loop-i
invariant-loop-i l =
    Left l.initial.out l.at (value_lines l.const_words l.texts l.frames l.kinds l.words l.n l.first) l.out l.to (rest l.const_words l.texts l.frames l.kinds l.words l.n l.first l.i)

abbrev pub decreases-loop-i : goal.decreases-loop-i
decreases-loop-i l = l.n - l.i
