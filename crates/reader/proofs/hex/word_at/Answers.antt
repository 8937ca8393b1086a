-- `reader::hex::word_at` meets its contract: what is left, read onto the number so far, is the whole. Assumes nothing.
use Rattle.std.proofs.Common.{◌+◌, ◌<◌, length, sym, ◌∙◌, arith}
use Rattle.image.specs.Hex.{bytes_of}
use Rattle.image.proofs.HexLaws.{bytes-length}
use Rattle.reader.proofs.HexLaws.{word-turn, word-start, word-done, word_fits, word_room}
use Rattle.reader.proofs.hex.word_at.Goals as goal

pub loop-i-init : goal.loop-i-init
loop-i-init c = let a = c.args in (omega arith, omega arith, word-start (bytes_of a.s.now) a.k a.n)

pub overflow_mul-w : goal.overflow_mul-w
overflow_mul-w c = let o = c.loop-i in omega (arith, word_room o.w 0 o.i o.invariant.1 (omega arith) (omega arith))

pub overflow_cast-w : goal.overflow_cast-w
overflow_cast-w c = omega (arith, c.byte_at-b.type_inv)

pub overflow_add-w : goal.overflow_add-w
overflow_add-w c =
    let o = c.loop-i in
    omega (arith, word_room o.w c.byte_at-b.result o.i o.invariant.1 (omega (arith, c.byte_at-b.type_inv)) (omega arith))

pub loop-i-preserved : goal.loop-i-preserved
loop-i-preserved c =
    let a = c.args in
    let o = c.loop-i in
    let B = bytes_of a.s.now in
    let z : a.k + o.i < length B = omega (arith, bytes-length a.s.now c.requires.0) in (
      omega arith,
      word_fits o.w c.byte_at-b.result o.i o.invariant.1 (omega (arith, c.byte_at-b.type_inv)),
      rw c.byte_at-b.ensures (sym (word-turn o.w B a.k a.n o.i c.loop-i-test.true z) ∙ o.invariant.2),
    )

pub returns : goal.returns
returns c =
    let a = c.args in
    let o = c.loop-i in
    sym (word-done o.w (bytes_of a.s.now) a.k a.n o.i c.loop-i-test.false) ∙ o.invariant.2
