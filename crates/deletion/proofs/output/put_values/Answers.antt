-- `deletion::output::put_values` meets its contract. The loop's invariant: the values that are left, put from here, give the whole. The measure is how many are
-- left. Assumes nothing.
use Rattle.writer.proofs.Puts.{left-room, left-more, left-done}
use Rattle.deletion.proofs.Puts.{values-turn, values-done}
use Rattle.deletion.proofs.output.put_values.Goals as goal

pub put_value-to-requires : goal.put_value-to-requires
put_value-to-requires c =
    left-room c.loop-i.invariant c.requires (values-turn _ _ _ _ _ c.args.n c.args.first c.loop-i.i c.loop-i-test.true)

pub loop-i-preserved : goal.loop-i-preserved
loop-i-preserved c =
    left-more c.loop-i.invariant (values-turn _ _ _ _ _ c.args.n c.args.first c.loop-i.i c.loop-i-test.true) c.put_value-to.ensures

pub returns : goal.returns
returns c =
    left-done c.loop-i.invariant (values-done _ _ _ _ _ c.args.n c.args.first c.loop-i.i c.loop-i-test.false)
