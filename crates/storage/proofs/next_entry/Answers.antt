-- `storage::next_entry` meets its contract: each return decides the tests of `next_entry` as the code did. Assumes nothing.
use borrow.Author.Tests.{le-leb, lt-leb, eq-eqb, ne_eqb}
use Rattle.storage.specs.Cursor.{next_entry}
use Rattle.storage.proofs.next_entry.Goals as goal

pub returns-then-p-eq0 : goal.returns-then-p-eq0
unfolding next_entry
returns-then-p-eq0 c = simp (eq-eqb _ _ c.if-r-eq0.true, eq-eqb _ _ c.if-p-eq0.true)

pub returns-then-r-eq0 : goal.returns-then-r-eq0
unfolding next_entry
returns-then-r-eq0 c = simp (eq-eqb _ _ c.if-r-eq0.true, ne_eqb _ _ c.if-p-eq0.false)

pub returns-then-r-gt255 : goal.returns-then-r-gt255
unfolding next_entry
returns-then-r-gt255 c = simp (ne_eqb _ _ c.if-r-eq0.false, lt-leb _ _ c.if-r-gt255.true)

pub returns-then-r-p : goal.returns-then-r-p
unfolding next_entry
returns-then-r-p c = simp (ne_eqb _ _ c.if-r-eq0.false, le-leb _ _ c.if-r-gt255.false, lt-leb _ _ c.if-r-p.true)

pub returns : goal.returns
unfolding next_entry
returns c = simp (ne_eqb _ _ c.if-r-eq0.false, le-leb _ _ c.if-r-gt255.false, le-leb _ _ c.if-r-p.false)
