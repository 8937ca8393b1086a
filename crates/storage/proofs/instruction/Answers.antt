-- `storage::instruction` meets its contract: the read is at the first instruction's place and i. Assumes nothing.
use Rattle.storage.proofs.instruction.Goals as goal

pub returns : goal.returns
returns c = rw (← c.first_instruction-first.ensures) c.get.ensures
