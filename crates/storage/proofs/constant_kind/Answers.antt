-- `storage::constant_kind` meets its contract: the read is at the first constant's place and c. Assumes nothing.
use Rattle.storage.proofs.constant_kind.Goals as goal

pub returns : goal.returns
returns c = rw (← c.first_constant-first.ensures) c.get.ensures
