-- `writer::line::put_open` meets its contract: its bytes one after the other. Assumes nothing.
use native.Mathlib.Omega.{arith}
use Rattle.image.specs.Write.{hex_of, frame_bytes, written}
use Rattle.writer.proofs.Puts.{put_then}
use Rattle.writer.proofs.line.put_open.Goals as goal

pub put_hex-t-requires : goal.put_hex-t-requires
unfolding hex_of frame_bytes written
put_hex-t-requires c = omega arith

pub put_hex-u-requires : goal.put_hex-u-requires
unfolding hex_of frame_bytes written
put_hex-u-requires c = omega arith

pub put_hex-v-requires : goal.put_hex-v-requires
unfolding hex_of frame_bytes written
put_hex-v-requires c = omega arith

pub put_lf-requires : goal.put_lf-requires
unfolding hex_of frame_bytes written
put_lf-requires c = omega arith

pub returns : goal.returns
unfolding hex_of frame_bytes written
returns c =
    put_then c.put_hex-t.ensures (put_then c.put_hex-u.ensures (put_then c.put_hex-v.ensures c.put_lf.ensures))
