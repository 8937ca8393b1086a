-- `image::most_of` meets its contract: each return decides the definition's test as the code's test did. Assumes nothing.
use borrow.Author.Tests.{eq-eqb, ne_eqb}
use Rattle.image.specs.Frames.{most_of}
use Rattle.image.proofs.most_of.Goals as goal

pub returns-then-tag-eq0 : goal.returns-then-tag-eq0
unfolding most_of
returns-then-tag-eq0 c = simp (eq-eqb _ _ c.if-tag-eq0.true)

pub returns-then-tag-eq1 : goal.returns-then-tag-eq1
unfolding most_of
returns-then-tag-eq1 c = simp (ne_eqb _ _ c.if-tag-eq0.false, eq-eqb _ _ c.if-tag-eq1.true)

pub returns : goal.returns
unfolding most_of
returns c = simp (ne_eqb _ _ c.if-tag-eq0.false, ne_eqb _ _ c.if-tag-eq1.false)
