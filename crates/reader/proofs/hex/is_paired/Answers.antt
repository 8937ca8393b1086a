-- `reader::hex::is_paired` meets its contract: after i turns the first i bytes are tested. Assumes nothing.
use Rattle.std.proofs.Common.{get_or, sym, arith}
use Rattle.image.proofs.HexLaws.{digit-le}
use Rattle.reader.proofs.HexLaws.{tested-start, tested-more, tested-bad, tested-all}
use Rattle.reader.proofs.hex.is_paired.Goals as goal

pub loop-i-init : goal.loop-i-init
loop-i-init c = (omega arith, tested-start _)

pub overflow_cast-bad : goal.overflow_cast-bad
overflow_cast-bad c = omega (arith, c.digit-d.type_inv)

pub overflow_add-bad : goal.overflow_add-bad
overflow_add-bad c = omega (arith, c.digit-d.ensures, digit-le (get_or c.args.s.now c.loop-i.i 0))

pub loop-i-preserved : goal.loop-i-preserved
loop-i-preserved c = (omega arith, rw c.digit-d.ensures (tested-more _ _ _ c.loop-i.invariant.1 c.loop-i-test.true))

pub returns-then-bad-gt0 : goal.returns-then-bad-gt0
returns-then-bad-gt0 c = sym (tested-bad _ _ _ c.loop-i.invariant.1 c.if-bad-gt0.true)

pub returns : goal.returns
returns c = sym (tested-all _ _ _ c.loop-i.invariant.1 c.loop-i-test.false c.if-bad-gt0.false)
