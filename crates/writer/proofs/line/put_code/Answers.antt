-- `writer::line::put_code` meets its contract: its bytes one after the other. Assumes nothing.
use native.Mathlib.Omega.{arith}
use Rattle.image.specs.Write.{hex_of, frame_bytes, written}
use Rattle.writer.proofs.Puts.{put_then}
use Rattle.writer.proofs.HexPuts.{put_as}
use Rattle.writer.proofs.line.put_code.Goals as goal

pub put_hex-t-requires : goal.put_hex-t-requires
unfolding hex_of frame_bytes written
put_hex-t-requires c = omega arith

pub put_hex-u-requires : goal.put_hex-u-requires
unfolding hex_of frame_bytes written
put_hex-u-requires c = omega arith

pub put_hex-v-requires : goal.put_hex-v-requires
unfolding hex_of frame_bytes written
put_hex-v-requires c = omega arith

pub put_hex-x-requires : goal.put_hex-x-requires
unfolding hex_of frame_bytes written
put_hex-x-requires c = omega arith

pub put_hex-y-requires : goal.put_hex-y-requires
unfolding hex_of frame_bytes written
put_hex-y-requires c = omega arith

pub put_hex-z-requires : goal.put_hex-z-requires
unfolding hex_of frame_bytes written
put_hex-z-requires c = omega arith

pub put_lf-requires : goal.put_lf-requires
unfolding hex_of frame_bytes written
put_lf-requires c = omega arith

pub returns : goal.returns
unfolding hex_of frame_bytes written
returns c =
    put_then c.put_hex-t.ensures
    (put_then (put_as c.operation_of.ensures c.put_hex-u.ensures)
    (put_then (put_as c.flags_of.ensures c.put_hex-v.ensures)
    (put_then (put_as c.a_of.ensures c.put_hex-x.ensures)
    (put_then (put_as c.b_of.ensures c.put_hex-y.ensures)
    (put_then (put_as c.c_of.ensures c.put_hex-z.ensures) c.put_lf.ensures)))))
