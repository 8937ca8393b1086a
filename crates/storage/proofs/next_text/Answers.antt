-- `storage::next_text` meets its contract: each return decides the tests of `next_text` as the code did. Assumes nothing.
use borrow.Author.Tests.{le-leb, lt-leb}
use Rattle.storage.specs.Cursor.{next_text}
use Rattle.storage.proofs.next_text.Goals as goal

pub returns-then-w-base : goal.returns-then-w-base
unfolding next_text
returns-then-w-base c = simp (lt-leb _ _ c.if-w-base.true)

pub returns-then-len-gt64 : goal.returns-then-len-gt64
unfolding next_text
returns-then-len-gt64 c = simp (le-leb _ _ c.if-w-base.false, lt-leb _ _ c.if-len-gt64.true)

pub returns-then-n-top : goal.returns-then-n-top
unfolding next_text
returns-then-n-top c = simp (le-leb _ _ c.if-w-base.false, le-leb _ _ c.if-len-gt64.false, lt-leb _ _ c.if-n-top.true)

pub returns : goal.returns
unfolding next_text
returns c = simp (le-leb _ _ c.if-w-base.false, le-leb _ _ c.if-len-gt64.false, le-leb _ _ c.if-n-top.false)
