-- `reader::line::const_frame` meets its contract: each return rewrites with the tests that led there, told in bytes. Assumes nothing.
use Rattle.std.proofs.Common.{length, ap, arith, length-drop, le-ltb, lt-ltb, ne_eqb, le-leb}
use borrow.Author.Tests.{lt-leb}
use Rattle.image.specs.declared.Frame.TheVariants.{Str}
use Rattle.image.specs.Hex.{bytes_of}
use Rattle.image.specs.Frames.{shape, const_bytes}
use Rattle.image.proofs.HexLaws.{bytes-length}
use Rattle.reader.proofs.line.const_frame.Goals as goal

pub returns-then-s-lt4 : goal.returns-then-s-lt4
unfolding shape const_bytes
returns-then-s-lt4 c =
    let n = length (bytes_of c.args.s.now) in
    let h = bytes-length _ c.requires in
    simp (lt-leb 2 n (omega arith))

pub returns-then-tag-lt4 : goal.returns-then-tag-lt4
unfolding shape const_bytes
returns-then-tag-lt4 c =
    let n = length (bytes_of c.args.s.now) in
    let h = bytes-length _ c.requires in
    rw (← c.byte_at-tag.ensures) (simp (le-leb 2 n (omega arith), lt-ltb _ _ c.if-tag-lt4.true) c.word_frame.ensures)

pub returns-then-s-le132 : goal.returns-then-s-le132
unfolding shape const_bytes
returns-then-s-le132 c =
    let n = length (bytes_of c.args.s.now) in
    let h = bytes-length _ c.requires in
    rw (← c.byte_at-tag.ensures, c.if-tag-eq4.true) (simp (le-leb 2 n (omega arith), le-leb n 66 (omega arith), length-drop) (ap Str (omega arith)))

pub returns-then-tag-eq4 : goal.returns-then-tag-eq4
unfolding shape const_bytes
returns-then-tag-eq4 c =
    let n = length (bytes_of c.args.s.now) in
    let h = bytes-length _ c.requires in
    rw (← c.byte_at-tag.ensures, c.if-tag-eq4.true) (simp (le-leb 2 n (omega arith), lt-leb n 66 (omega arith)))

pub returns : goal.returns
unfolding shape const_bytes
returns c =
    let n = length (bytes_of c.args.s.now) in
    let h = bytes-length _ c.requires in
    rw (← c.byte_at-tag.ensures) (simp (le-leb 2 n (omega arith), le-ltb _ _ c.if-tag-lt4.false, ne_eqb _ _ c.if-tag-eq4.false))
