-- `reader::judge::judge` meets its contract: what is left, judged from where the loop stands, is the whole judged. Assumes nothing.
use Rattle.std.proofs.Common.{sym, ◌∙◌, arith}
use Rattle.reader.proofs.JudgeLaws.{going_start, going_on, going_all, going_more, going_no, going_end, judge-long}
use Rattle.reader.proofs.judge.judge.Goals as goal

pub returns-then-s-gt65536 : goal.returns-then-s-gt65536
returns-then-s-gt65536 c = sym (judge-long _ c.if-s-gt65536.true)

pub loop-at-init : goal.loop-at-init
loop-at-init c = going_start _ c.if-s-gt65536.false

pub returns-then-next-s : goal.returns-then-next-s
returns-then-next-s c =
    sym (going_all _ _ _ _ c.loop-at.invariant _ c.frame_at-n.ensures (sym c.step_on-t.ensures ∙ c.in-Done.is) c.if-next-s.true)

pub overflow_add-result : goal.overflow_add-result
overflow_add-result c = omega arith

pub returns-in-Done : goal.returns-in-Done
returns-in-Done c =
    sym (going_more _ _ _ _ c.loop-at.invariant _ c.frame_at-n.ensures (sym c.step_on-t.ensures ∙ c.in-Done.is) c.if-next-s.false)

pub returns-in-No : goal.returns-in-No
returns-in-No c = sym (going_no _ _ _ _ c.loop-at.invariant _ c.frame_at-n.ensures _ (sym c.step_on-t.ensures ∙ c.in-No.is))

pub overflow_add-line : goal.overflow_add-line
overflow_add-line c = omega arith

pub loop-at-smaller : goal.loop-at-smaller
loop-at-smaller c = omega (arith, c.frame_at-n.ensures.more)

pub loop-at-preserved : goal.loop-at-preserved
loop-at-preserved c = going_on _ _ _ _ c.loop-at.invariant _ c.frame_at-n.ensures _ (sym c.step_on-t.ensures ∙ c.in-On.is)

pub returns : goal.returns
returns c = sym (going_end _ _ _ _ c.loop-at.invariant c.loop-at-test.false)
