-- `storage::descriptors_here` meets its contract: where no prototype is open there are none. Assumes nothing.
use borrow.Author.Tests.{le-leb, lt-leb}
use Rattle.storage.proofs.descriptors_here.Goals as goal

pub returns-then-at-lt5 : goal.returns-then-at-lt5
returns-then-at-lt5 c = simp (lt-leb _ _ c.if-at-lt5.true)

pub returns : goal.returns
returns c = simp (le-leb _ _ c.if-at-lt5.false) c.descriptors.ensures
