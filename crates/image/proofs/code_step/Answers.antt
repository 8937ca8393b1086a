-- `image::code_step` meets its contract: each return decides the tests of `code_step` as the code did. Assumes nothing.
use borrow.Author.Tests.{le-leb, lt-leb, lt-ltb, le-ltb}
use Rattle.image.specs.Judge.{code_step}
use Rattle.image.proofs.code_step.Goals as goal

pub returns-then-p-lt1 : goal.returns-then-p-lt1
unfolding code_step
returns-then-p-lt1 c = simp (lt-leb _ _ c.if-p-lt1.true)

pub returns-then-k-lt4096 : goal.returns-then-k-lt4096
unfolding code_step
returns-then-k-lt4096 c = simp (le-leb _ _ c.if-p-lt1.false, lt-ltb _ _ c.if-k-lt4096.true)

pub returns : goal.returns
unfolding code_step
returns c = simp (le-leb _ _ c.if-p-lt1.false, le-ltb _ _ c.if-k-lt4096.false)
