-- `image::desc_step` meets its contract: each return decides the tests of `desc_step` as the code did. Assumes nothing.
use borrow.Author.Tests.{le-leb, lt-leb, lt-ltb, le-ltb, eq-eqb, ne_eqb}
use Rattle.image.specs.Judge.{desc_step}
use Rattle.image.proofs.desc_step.Goals as goal

pub returns-then-p-lt1 : goal.returns-then-p-lt1
unfolding desc_step
returns-then-p-lt1 c = simp (lt-leb _ _ c.if-p-lt1.true)

pub returns-then-d-lt8 : goal.returns-then-d-lt8
unfolding desc_step
returns-then-d-lt8 c =
    simp (le-leb _ _ c.if-p-lt1.false, eq-eqb _ _ c.if-c-eq0.true, eq-eqb _ _ c.if-k-eq0.true, lt-ltb _ _ c.if-d-lt8.true)

pub returns-then-k-eq0 : goal.returns-then-k-eq0
unfolding desc_step
returns-then-k-eq0 c =
    simp (le-leb _ _ c.if-p-lt1.false, eq-eqb _ _ c.if-c-eq0.true, eq-eqb _ _ c.if-k-eq0.true, le-ltb _ _ c.if-d-lt8.false)

pub returns-then-c-eq0 : goal.returns-then-c-eq0
unfolding desc_step
returns-then-c-eq0 c =
    simp (le-leb _ _ c.if-p-lt1.false, eq-eqb _ _ c.if-c-eq0.true, ne_eqb _ _ c.if-k-eq0.false)

pub returns : goal.returns
unfolding desc_step
returns c = simp (le-leb _ _ c.if-p-lt1.false, ne_eqb _ _ c.if-c-eq0.false)
