-- `reader::line::find_lf` meets its contract: the line's end, sought from where the loop stands, is the same. Assumes nothing.
use Rattle.std.proofs.Common.{add-one, arith}
use Rattle.reader.proofs.LineLaws.{lf_here, lf_next, lf_none}
use Rattle.reader.proofs.line.find_lf.Goals as goal

pub returns-then-s-i-eq10 : goal.returns-then-s-i-eq10
returns-then-s-i-eq10 c = omega (arith, lf_here c.args.s.now c.loop-i.i c.loop-i-test.true c.if-s-i-eq10.true)

pub loop-i-preserved : goal.loop-i-preserved
loop-i-preserved c =
    let i = c.loop-i.i in
    (omega arith, omega arith, rw (add-one i) (omega (arith, lf_next c.args.s.now i c.loop-i-test.true c.if-s-i-eq10.false)))

pub returns : goal.returns
returns c = omega (arith, lf_none c.args.s.now c.loop-i.i c.loop-i-test.false)
