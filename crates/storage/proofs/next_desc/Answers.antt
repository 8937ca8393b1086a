-- `storage::next_desc` meets its contract: each return decides the test of `next_desc` as the code did. Assumes nothing.
use borrow.Author.Tests.{lt-ltb, le-ltb}
use Rattle.storage.specs.Cursor.{next_desc}
use Rattle.storage.proofs.next_desc.Goals as goal

pub returns-then-w-lt512 : goal.returns-then-w-lt512
unfolding next_desc
returns-then-w-lt512 c = simp (lt-ltb _ _ c.if-w-lt512.true)

pub returns : goal.returns
unfolding next_desc
returns c = simp (le-ltb _ _ c.if-w-lt512.false)
