-- `storage::next_code` meets its contract: each return decides the tests of `next_code` as the code did. Assumes nothing.
use borrow.Author.Tests.{lt-ltb, le-ltb}
use Rattle.storage.specs.Cursor.{next_code}
use Rattle.storage.proofs.next_code.Goals as goal

pub returns-then-code-k : goal.returns-then-code-k
unfolding next_code
returns-then-code-k c = simp (le-ltb _ _ c.if-code-k.true)

pub returns-then-w-lt1099511627776 : goal.returns-then-w-lt1099511627776
unfolding next_code
returns-then-w-lt1099511627776 c = simp (lt-ltb _ _ c.if-code-k.false, lt-ltb _ _ c.if-w-lt1099511627776.true)

pub returns : goal.returns
unfolding next_code
returns c = simp (lt-ltb _ _ c.if-code-k.false, le-ltb _ _ c.if-w-lt1099511627776.false)
