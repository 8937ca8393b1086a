-- `reader::line::end_frame` meets its contract: four digits are two bytes. Assumes nothing.
use Rattle.std.proofs.Common.{eq-eqb, ne_eqb}
use Rattle.image.specs.Frames.{shape, end_bytes}
use Rattle.reader.proofs.HexLaws.{half, half-not}
use Rattle.reader.proofs.line.end_frame.Goals as goal

pub returns-then-s-eq4 : goal.returns-then-s-eq4
unfolding shape end_bytes
returns-then-s-eq4 c = rw (← c.byte_at.ensures) (simp (eq-eqb _ _ (half _ 2 c.requires c.if-s-eq4.true)))

pub returns : goal.returns
unfolding shape end_bytes
returns c = simp (ne_eqb _ _ (half-not _ 2 c.requires c.if-s-eq4.false))
