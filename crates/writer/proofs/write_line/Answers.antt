-- `writer::write_line` meets its contract: three tests for room, then the two parts and LF, one after the other. Assumes nothing.
use native.Mathlib.Omega.{arith}
use Rattle.image.proofs.HexLaws.{hex-length}
use Rattle.writer.proofs.Puts.{put-length}
use Rattle.writer.proofs.OneLine.{no_room, lined}
use Rattle.writer.proofs.write_line.Goals as goal

pub returns-then-out-head : goal.returns-then-out-head
returns-then-out-head c = let a = c.args in no_room a.head.now a.tail.now a.out.now (omega arith)

pub returns-then-room-tail : goal.returns-then-room-tail
returns-then-room-tail c = let a = c.args in no_room a.head.now a.tail.now a.out.now (omega arith)

pub returns-then-room-tail-lt1 : goal.returns-then-room-tail-lt1
returns-then-room-tail-lt1 c = let a = c.args in no_room a.head.now a.tail.now a.out.now (omega arith)

pub put_text-t-requires : goal.put_text-t-requires
put_text-t-requires c = let a = c.args in omega (arith, hex-length a.head.now)

pub put_text-u-requires : goal.put_text-u-requires
put_text-u-requires c =
    let a = c.args in
    let p = c.put_text-t.ensures in
    omega (arith, p.next, put-length p, hex-length a.head.now, hex-length a.tail.now)

pub put_lf-requires : goal.put_lf-requires
put_lf-requires c =
    let a = c.args in
    let p = c.put_text-t.ensures in
    let q = c.put_text-u.ensures in
    omega (arith, p.next, q.next, put-length p, put-length q, hex-length a.head.now, hex-length a.tail.now)

pub returns : goal.returns
returns c =
    let a = c.args in
    lined a.head.now a.tail.now a.out.now (omega (arith, c.if-room-tail-lt1.false, c.if-room-tail.false, c.if-out-head.false)) _ _ _ _ _ _ c.put_text-t.ensures
    c.put_text-u.ensures c.put_lf.ensures
