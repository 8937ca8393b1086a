-- `reader::line::next_frame` meets its contract: a line ends at its LF, or lacks it at the end of the bytes. Assumes nothing.
use Rattle.std.proofs.Common.{◌≡◌, ◌+◌, ◌<◌, ◌≤◌, length, drop, sym, ap, ◌∙◌, arith}
use Rattle.image.specs.Lines.{line_len}
use Rattle.image.specs.Frames.{shape}
use Rattle.reader.proofs.LineLaws.{frames_cut, first-cut, frames_uncut, first_uncut}
use Rattle.reader.proofs.line.next_frame.Goals as goal

pub returns-then-s-e : goal.returns-then-s-e
unfolding shape
returns-then-s-e c =
    let l = c.args.s.now in
    let at = c.args.at in
    let h : length l ≤ at + line_len (drop at l) = omega (arith, c.find_lf-e.ensures) in
    let f = first_uncut l at h c.requires in
    record { here = sym (ap shape f); list = rw f (frames_uncut l at h c.requires); text = c.find_lf-e.ensures; more = c.requires; within = omega arith }

pub returns : goal.returns
returns c =
    let l = c.args.s.now in
    let at = c.args.at in
    let e = c.find_lf-e.result in
    let h : e ≡ at + line_len (drop at l) = c.find_lf-e.ensures in
    let k : e < length l = c.if-s-e.false in
    let f = first-cut l at e h k in
    record { here = c.frame_of-f.ensures ∙ ap shape (sym f); list = rw f (frames_cut l at e h k); text = h; more = omega arith; within = omega arith }
