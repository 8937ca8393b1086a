-- `image::step_on` meets its contract, an arm of the match for each clause of `frame_step`. Assumes nothing.
use Rattle.std.proofs.Common.{refl}
use borrow.Author.Tests.{lt-ltb, le-ltb, eq-eqb, ne_eqb}
use Rattle.image.specs.Judge.{frame_step}
use Rattle.image.proofs.step_on.Goals as goal

pub returns-then-p-lt32 : goal.returns-then-p-lt32
unfolding frame_step
returns-then-p-lt32 c = rw c.in-Open.is (simp (lt-ltb _ _ c.if-p-lt32.true))

pub returns-then-n-p : goal.returns-then-n-p
unfolding frame_step
returns-then-n-p c = rw c.in-End.is (simp (eq-eqb _ _ c.if-n-p.true))

pub returns-else-p-lt32 : goal.returns-else-p-lt32
unfolding frame_step
returns-else-p-lt32 c = rw c.in-Open.is (simp (le-ltb _ _ c.if-p-lt32.false))

pub returns-in-Const : goal.returns-in-Const
unfolding frame_step
returns-in-Const c = rw c.in-Const.is c.const_step.ensures

pub returns-in-Str : goal.returns-in-Str
unfolding frame_step
returns-in-Str c = rw c.in-Str.is c.const_step-in-Str.ensures

pub returns-in-Code : goal.returns-in-Code
unfolding frame_step
returns-in-Code c = rw c.in-Code.is c.code_step.ensures

pub returns-else-n-p : goal.returns-else-n-p
unfolding frame_step
returns-else-n-p c = rw c.in-End.is (simp (ne_eqb _ _ c.if-n-p.false))

pub returns-in-Bad : goal.returns-in-Bad
unfolding frame_step
returns-in-Bad c = rw c.in-Bad.is refl

pub returns-in-Desc : goal.returns-in-Desc
unfolding frame_step
returns-in-Desc c = rw c.in-Desc.is c.desc_step.ensures
