-- `reader::line::desc_frame` meets its contract: each return rewrites with the tests that led there, told in bytes. Assumes nothing.
use Rattle.std.proofs.Common.{eq-eqb, ne_eqb, le-leb}
use borrow.Author.Tests.{lt-leb}
use Rattle.image.specs.Frames.{shape, desc_bytes}
use Rattle.reader.proofs.HexLaws.{half, half-not}
use Rattle.reader.proofs.line.desc_frame.Goals as goal

pub returns-then-k-le1 : goal.returns-then-k-le1
unfolding shape desc_bytes
returns-then-k-le1 c =
    rw (← c.byte_at-k.ensures, ← c.byte_at-n.ensures)
    (simp (eq-eqb _ _ (half _ 3 c.requires c.if-s-eq6.true), le-leb _ _ c.if-k-le1.true))

pub returns-then-s-eq6 : goal.returns-then-s-eq6
unfolding shape desc_bytes
returns-then-s-eq6 c =
    rw (← c.byte_at-k.ensures)
    (simp (eq-eqb _ _ (half _ 3 c.requires c.if-s-eq6.true), lt-leb _ _ c.if-k-le1.false))

pub returns : goal.returns
unfolding shape desc_bytes
returns c = simp (ne_eqb _ _ (half-not _ 3 c.requires c.if-s-eq6.false))
