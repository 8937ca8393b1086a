-- `writer::hex::put_text` meets its contract. The loop's invariant: the rest of the text, put from here, gives the whole. The measure is how much is left.
-- Assumes nothing.
use native.Mathlib.Omega.{arith}
use mathlib.Core.Path.{refl}
use Rattle.image.specs.Write.{hex_of}
use Rattle.writer.proofs.Puts.{left-start, left-more, left-done, left-room}
use Rattle.writer.proofs.HexPuts.{text-turn, text-done}
use Rattle.writer.proofs.hex.put_text.Goals as goal

pub loop-i-init : goal.loop-i-init
loop-i-init c = let a = c.args in left-start a.out.now a.at (hex_of a.s.now) _ refl

pub bounds-s-i : goal.bounds-s-i
bounds-s-i c = omega arith

pub put_hex-to-requires : goal.put_hex-to-requires
put_hex-to-requires c =
    let o = c.loop-i in
    left-room o.invariant c.requires (text-turn c.args.s.now o.i c.loop-i-test.true)

pub overflow_add-i : goal.overflow_add-i
overflow_add-i c = omega arith

pub loop-i-smaller : goal.loop-i-smaller
loop-i-smaller c = omega arith

pub loop-i-preserved : goal.loop-i-preserved
loop-i-preserved c =
    let o = c.loop-i in
    let a = c.args in
    left-more o.invariant (text-turn a.s.now o.i c.loop-i-test.true) c.put_hex-to.ensures

pub shape_of-out : goal.shape_of-out
shape_of-out c = c.loop-i.invariant.same

pub returns : goal.returns
returns c =
    let o = c.loop-i in
    left-done o.invariant (text-done c.args.s.now o.i c.loop-i-test.false)
