-- `reader::line::word_frame` meets its contract: the digits after kind and tag are as many bytes as the tag's payload, all of them the word. Assumes nothing.
use Rattle.std.proofs.Common.{◌≡◌, ℕ, ◌<◌, ◌≤◌, List, length, take, drop, ap, ◌∙◌, arith, length-drop, take_all, eq-eqb, ne_eqb, le-leb}
use borrow.Author.Tests.{lt-leb}
use Rattle.image.specs.Hex.{bytes_of, word_from}
use Rattle.image.specs.Frames.{shape, word_bytes_of, payload, most_of}
use Rattle.storage.proofs.Sizes.{payload-small}
use Rattle.image.proofs.HexLaws.{bytes-length}
use Rattle.reader.proofs.line.word_frame.Goals as goal

-- a word read by its length is that of all bytes
whole : (w n : ℕ) (l : List ℕ) → w ≡ word_from 0 (take n l) → length l ≡ n → w ≡ word_from 0 l
whole w n l e h = e ∙ ap (word_from 0) (take_all n l (omega arith))

pub overflow_mul-n : goal.overflow_mul-n
overflow_mul-n c = omega (arith, c.payload_of-n.ensures, payload-small c.args.tag)

pub overflow_add-n : goal.overflow_add-n
overflow_add-n c = omega (arith, c.payload_of-n.ensures, payload-small c.args.tag)

pub word_at-w-requires : goal.word_at-w-requires
word_at-w-requires c = (c.requires.0, (omega arith, omega (arith, c.payload_of-n.ensures, payload-small c.args.tag)))

pub returns-then-w-most_of : goal.returns-then-w-most_of
unfolding shape word_bytes_of
returns-then-w-most_of c =
    let l = c.args.s.now in
    let tag = c.args.tag in
    let D = drop 2 (bytes_of l) in
    let h : length D ≡ c.payload_of-n.result = omega (arith, bytes-length l c.requires.0, length-drop 2 (bytes_of l), c.if-s-n.true) in
    let v = whole c.word_at-w.result c.payload_of-n.result D c.word_at-w.ensures h in
    let m : word_from 0 D ≤ most_of tag = omega (arith, v, c.most_of.ensures, c.if-w-most_of.true) in
    simp (eq-eqb (length D) (payload tag) (h ∙ c.payload_of-n.ensures), le-leb _ _ m) (cc)

pub returns-then-s-n : goal.returns-then-s-n
unfolding shape word_bytes_of
returns-then-s-n c =
    let l = c.args.s.now in
    let tag = c.args.tag in
    let D = drop 2 (bytes_of l) in
    let h : length D ≡ c.payload_of-n.result = omega (arith, bytes-length l c.requires.0, length-drop 2 (bytes_of l), c.if-s-n.true) in
    let v = whole c.word_at-w.result c.payload_of-n.result D c.word_at-w.ensures h in
    let m : most_of tag < word_from 0 D = omega (arith, v, c.most_of.ensures, c.if-w-most_of.false) in
    simp (eq-eqb (length D) (payload tag) (h ∙ c.payload_of-n.ensures), lt-leb _ _ m)

pub returns : goal.returns
unfolding shape word_bytes_of
returns c =
    let l = c.args.s.now in
    let tag = c.args.tag in
    let D = drop 2 (bytes_of l) in
    let h : length D ≡ payload tag → ⊥ =
    omega (arith, bytes-length l c.requires.0, length-drop 2 (bytes_of l), c.payload_of-n.ensures, c.if-s-n.false, c.requires.1) in
    simp (ne_eqb (length D) (payload tag) h)
