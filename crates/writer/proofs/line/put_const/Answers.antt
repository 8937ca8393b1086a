-- `writer::line::put_const` meets its contract: two bytes, the payload and LF, one after the other. Assumes nothing.
use native.Mathlib.Omega.{arith}
use mathlib.Core.List.{[], ◌∷◌}
use lib.ListN.{length-append}
use Rattle.image.specs.Frames.{payload}
use Rattle.image.specs.Write.{hex_of, word_bytes, frame_bytes, written}
use Rattle.writer.proofs.Puts.{put_then}
use Rattle.writer.proofs.line.put_const.Goals as goal

pub put_hex-t-requires : goal.put_hex-t-requires
unfolding hex_of frame_bytes written
put_hex-t-requires c = omega arith

pub put_hex-u-requires : goal.put_hex-u-requires
unfolding hex_of frame_bytes written
put_hex-u-requires c = omega arith

pub put_number-v-requires : goal.put_number-v-requires
unfolding hex_of frame_bytes written
put_number-v-requires c =
    let a = c.args in
    rw c.payload_of.ensures (omega (arith, length-append (hex_of (word_bytes (payload a.tag) a.w [])) (10 ∷ [])))

pub put_lf-requires : goal.put_lf-requires
unfolding hex_of frame_bytes written
put_lf-requires c =
    let a = c.args in
    let n = rw c.payload_of.ensures at c.put_number-v.ensures.next in
    omega (arith, n, length-append (hex_of (word_bytes (payload a.tag) a.w [])) (10 ∷ []))

pub returns : goal.returns
unfolding hex_of frame_bytes written
returns c =
    put_then c.put_hex-t.ensures
    (put_then c.put_hex-u.ensures (put_then (rw c.payload_of.ensures at c.put_number-v.ensures) c.put_lf.ensures))
