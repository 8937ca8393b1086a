-- `reader::line::open_frame` meets its contract: each return rewrites with the tests that led there, told in bytes. Assumes nothing.
use Rattle.std.proofs.Common.{eq-eqb, ne_eqb, le-leb}
use borrow.Author.Tests.{lt-leb}
use Rattle.image.specs.Frames.{shape, open_bytes}
use Rattle.reader.proofs.HexLaws.{half, half-not}
use Rattle.reader.proofs.line.open_frame.Goals as goal

pub returns-then-p-r : goal.returns-then-p-r
unfolding shape open_bytes
returns-then-p-r c =
    rw (← c.byte_at-r.ensures, ← c.byte_at-p.ensures)
    (simp (eq-eqb _ _ (half _ 3 c.requires c.if-s-eq6.true), le-leb _ _ c.if-r-ge1.true, le-leb _ _ c.if-p-r.true))

pub returns-else-p-r : goal.returns-else-p-r
unfolding shape open_bytes
returns-else-p-r c =
    rw (← c.byte_at-r.ensures, ← c.byte_at-p.ensures)
    (simp (eq-eqb _ _ (half _ 3 c.requires c.if-s-eq6.true), le-leb _ _ c.if-r-ge1.true, lt-leb _ _ c.if-p-r.false))

pub returns-else-r-ge1 : goal.returns-else-r-ge1
unfolding shape open_bytes
returns-else-r-ge1 c =
    rw (← c.byte_at-r.ensures)
    (simp (eq-eqb _ _ (half _ 3 c.requires c.if-s-eq6.true), lt-leb _ _ c.if-r-ge1.false))

pub returns : goal.returns
unfolding shape open_bytes
returns c = simp (ne_eqb _ _ (half-not _ 3 c.requires c.if-s-eq6.false))
