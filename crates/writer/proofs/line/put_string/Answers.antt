-- `writer::line::put_string` meets its contract: two bytes, the text and LF, one after the other. Assumes nothing.
use native.Mathlib.Omega.{arith}
use mathlib.Core.List.{[], ◌∷◌}
use lib.ListN.{length-append}
use Rattle.image.specs.Write.{hex_of, frame_bytes, written}
use Rattle.writer.proofs.Puts.{put_then}
use Rattle.writer.proofs.line.put_string.Goals as goal

pub put_hex-t-requires : goal.put_hex-t-requires
unfolding hex_of frame_bytes written
put_hex-t-requires c = omega arith

pub put_hex-u-requires : goal.put_hex-u-requires
unfolding hex_of frame_bytes written
put_hex-u-requires c = omega arith

pub put_text-v-requires : goal.put_text-v-requires
unfolding hex_of frame_bytes written
put_text-v-requires c =
    let a = c.args in
    omega (arith, length-append (hex_of a.s.now) (10 ∷ []))

pub put_lf-requires : goal.put_lf-requires
unfolding hex_of frame_bytes written
put_lf-requires c =
    let a = c.args in
    omega (arith, length-append (hex_of a.s.now) (10 ∷ []))

pub returns : goal.returns
unfolding hex_of frame_bytes written
returns c =
    put_then c.put_hex-t.ensures
    (put_then c.put_hex-u.ensures (put_then c.put_text-v.ensures c.put_lf.ensures))
