-- `checker::all_in` meets its contract: each descriptor below n is asked about. Assumes nothing.
use Rattle.std.proofs.Common.{rules, refl}
use Rattle.choices.proofs.Below.{below_from_all}
use Rattle.checker.proofs.all_in.Goals as goal

pub returns : goal.returns
returns c = below_from_all _ _ _ _ _ c.all.ensures.ran refl (λ i b q k. search rules)
