-- `reader::fill::fill_all` meets its contract: the frames that are left, put from here, are all frames put from the start. Assumes nothing.
use Rattle.std.proofs.Common.{◌+◌, ◌≤◌, length, drop, ap, ◌∙◌, arith}
use Rattle.image.specs.Frames.{shape}
use Rattle.image.specs.Lines.{line_len}
use Rattle.reader.proofs.LineLaws.{first-cut, frames_uncut, frames_none}
use Rattle.reader.proofs.Parts.{left-start, left-small, left-turn, left_end, left-bad}
use Rattle.reader.proofs.fill.fill_all.Goals as goal

pub loop-at-init : goal.loop-at-init
loop-at-init c = (omega arith, left-start _ _ _ _ _ _)

pub frame_at-line-requires : goal.frame_at-line-requires
frame_at-line-requires c = c.loop-at-test.true

pub shape_of-table-then-s-e : goal.shape_of-table-then-s-e
shape_of-table-then-s-e c = c.loop-at.invariant.1.table.same ∙ c.put.auto.s

pub shape_of-code-then-s-e : goal.shape_of-code-then-s-e
shape_of-code-then-s-e c = c.loop-at.invariant.1.code.same

pub shape_of-const_kinds-then-s-e : goal.shape_of-const_kinds-then-s-e
shape_of-const_kinds-then-s-e c = c.loop-at.invariant.1.kinds.same

pub shape_of-const_words-then-s-e : goal.shape_of-const_words-then-s-e
shape_of-const_words-then-s-e c = c.loop-at.invariant.1.words.same

pub shape_of-texts-then-s-e : goal.shape_of-texts-then-s-e
shape_of-texts-then-s-e c = c.loop-at.invariant.1.texts.same

pub returns-then-s-e : goal.returns-then-s-e
returns-then-s-e c =
    let l = c.args.s.now in
    let o = c.loop-at in
    let h : length l ≤ o.at + line_len (drop o.at l) = omega (arith, c.frame_at-line.ensures.text, c.if-s-e.true) in
    let v = rw (frames_uncut l o.at h c.loop-at-test.true, frames_none l (length l) (omega arith)) at o.invariant.1 in
    left_end _ _ _ _ _ _ _ _ _ _ _ _ _ _ c.put.ensures (left-bad _ _ _ _ _ _ _ _ _ _ _ _ _ v)

pub slice_bounds-put_frame-count : goal.slice_bounds-put_frame-count
slice_bounds-put_frame-count c = omega (arith, c.frame_at-line.ensures.text)

pub put_frame-t-requires : goal.put_frame-t-requires
put_frame-t-requires c =
    let b = c in
    let o = b.loop-at in
    let g = b in
    let n = b.frame_at-line in
    let f = first-cut g.args.s.now o.at n.result.end n.ensures.text b.if-s-e.false in
    record {
      f_value = n.ensures.here ∙ ap shape f;
      small = left-small _ _ _ _ _ _ _ _ _ _ _ _ _ _ o.invariant.1 g.requires;
    }

pub loop-at-smaller : goal.loop-at-smaller
loop-at-smaller c =
    let b = c in
    omega (arith, b.frame_at-line.ensures.more, b.loop-at-test.true)

pub loop-at-preserved : goal.loop-at-preserved
loop-at-preserved c =
    let b = c in
    let o = b.loop-at in
    let g = b in
    let l = g.args.s.now in
    let n = b.frame_at-line in
    let v = rw (n.ensures.list, first-cut l o.at n.result.end n.ensures.text b.if-s-e.false) at o.invariant.1 in
    (n.ensures.within, left-turn _ _ _ _ _ _ _ _ _ _ _ _ _ _ _ _ _ _ _ _ _ g.requires v c.put_frame-t.ensures)

pub shape_of-table : goal.shape_of-table
shape_of-table c = c.loop-at.invariant.1.table.same ∙ c.put.auto.s

pub shape_of-code : goal.shape_of-code
shape_of-code c = c.loop-at.invariant.1.code.same

pub shape_of-const_kinds : goal.shape_of-const_kinds
shape_of-const_kinds c = c.loop-at.invariant.1.kinds.same

pub shape_of-const_words : goal.shape_of-const_words
shape_of-const_words c = c.loop-at.invariant.1.words.same

pub shape_of-texts : goal.shape_of-texts
shape_of-texts c = c.loop-at.invariant.1.texts.same

pub returns : goal.returns
returns c =
    let o = c.loop-at in
    let v = rw (frames_none c.args.s.now o.at c.loop-at-test.false) at o.invariant.1 in
    left_end _ _ _ _ _ _ _ _ _ _ _ _ _ _ c.put.ensures v
