-- `reader::fill::put_text` meets its contract: what is left after i turns, stored from there, is the whole. Assumes nothing.
use Rattle.std.proofs.Common.{◌+◌, ◌<◌, length, sym, refl, ◌∙◌, arith}
use Rattle.image.specs.Hex.{bytes_of}
use Rattle.image.proofs.HexLaws.{bytes-length}
use Rattle.reader.proofs.PutLaws.{copy_start, copy-turn, copy_done}
use Rattle.reader.proofs.fill.put_text.Goals as goal

pub loop-i-init : goal.loop-i-init
loop-i-init c =
    let a = c.args in
    (omega arith, refl, copy_start a.texts.now (bytes_of a.line.now) a.top a.n)

pub overflow_add-i : goal.overflow_add-i
overflow_add-i c = omega arith

pub byte_at-b-requires : goal.byte_at-b-requires
byte_at-b-requires c = (c.requires.0, omega arith)

pub overflow_add-i-in-loop-i : goal.overflow_add-i-in-loop-i
overflow_add-i-in-loop-i c = omega arith

pub loop-i-smaller : goal.loop-i-smaller
loop-i-smaller c = omega arith

pub loop-i-preserved : goal.loop-i-preserved
loop-i-preserved c =
    let a = c.args in
    let o = c.loop-i in
    let B = bytes_of a.line.now in
    let k : 2 + o.i < length B = omega (arith, bytes-length a.line.now c.requires.0) in
    (omega arith, omega arith, rw (c.put.ensures, c.byte_at-b.ensures) (sym (copy-turn o.texts B a.top a.n o.i c.loop-i-test.true k) ∙ o.invariant.2))

pub shape_of-texts : goal.shape_of-texts
shape_of-texts c = omega arith

pub returns : goal.returns
returns c =
    let a = c.args in
    let o = c.loop-i in
    sym (copy_done o.texts (bytes_of a.line.now) a.top a.n o.i c.loop-i-test.false) ∙ o.invariant.2
