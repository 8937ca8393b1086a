-- `image::const_step` meets its contract: each return decides the tests of `const_step` as the code did. Assumes nothing.
use borrow.Author.Tests.{le-leb, lt-leb, lt-ltb, le-ltb, eq-eqb, ne_eqb}
use Rattle.image.specs.Judge.{const_step}
use Rattle.image.proofs.const_step.Goals as goal

pub returns-then-p-lt1 : goal.returns-then-p-lt1
unfolding const_step
returns-then-p-lt1 c = simp (lt-leb _ _ c.if-p-lt1.true)

pub returns-then-c-lt256 : goal.returns-then-c-lt256
unfolding const_step
returns-then-c-lt256 c = simp (le-leb _ _ c.if-p-lt1.false, eq-eqb _ _ c.if-k-eq0.true, lt-ltb _ _ c.if-c-lt256.true)

pub returns-then-k-eq0 : goal.returns-then-k-eq0
unfolding const_step
returns-then-k-eq0 c = simp (le-leb _ _ c.if-p-lt1.false, eq-eqb _ _ c.if-k-eq0.true, le-ltb _ _ c.if-c-lt256.false)

pub returns : goal.returns
unfolding const_step
returns c = simp (le-leb _ _ c.if-p-lt1.false, ne_eqb _ _ c.if-k-eq0.false)
