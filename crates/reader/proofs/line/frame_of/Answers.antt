-- `reader::line::frame_of` meets its contract: each return rewrites with the tests that led there. Assumes nothing.
use Rattle.std.proofs.Common.{◌≡◌, true, sym, ◌∙◌, arith, le-leb}
use borrow.Author.Tests.{lt-leb}
use Rattle.image.specs.Hex.{paired}
use Rattle.image.specs.Frames.{shape, frame_of}
use Rattle.image.proofs.HexLaws.{bytes-length}
use Rattle.reader.proofs.line.frame_of.Goals as goal

pub returns-then-s-lt1 : goal.returns-then-s-lt1
unfolding shape frame_of
returns-then-s-lt1 c = simp (lt-leb _ _ c.if-s-lt1.true)

pub returns-then-not-ok : goal.returns-then-not-ok
unfolding shape frame_of
returns-then-not-ok c = simp (le-leb _ _ c.if-s-lt1.false, sym c.is_paired-ok.ensures ∙ c.if-not-ok.true)

pub kind_frame-requires : goal.kind_frame-requires
kind_frame-requires c =
    let l = c.args.s.now in
    let p : paired l ≡ true = sym c.is_paired-ok.ensures ∙ c.if-not-ok.false in
    (p, omega (arith, bytes-length l p))

pub returns : goal.returns
unfolding frame_of
returns c =
    simp (le-leb _ _ c.if-s-lt1.false, sym c.is_paired-ok.ensures ∙ c.if-not-ok.false) c.kind_frame.ensures
