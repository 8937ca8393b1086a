-- `machine::is_string` meets its contract: the two tests are the definition's. Assumes nothing.
use Rattle.machine.proofs.Spans.{string_told}
use Rattle.machine.proofs.is_string.Goals as goal

pub returns : goal.returns
returns c = λ d w x. string_told _ d _ w x _ _ _ _ c.prototypes.ensures c.first_constant-n.ensures c.get.ensures
