-- `slices::copy_within` meets its contract: what is left after i turns, done from there, is the whole; past the end nothing is left. Assumes nothing.
use Rattle.std.proofs.Common.{refl, sym, ◌∙◌}
use Rattle.slices.proofs.Loops.{stores-start, stores-more, stores-end, stores-most}
use Rattle.slices.proofs.copy_within.Goals as goal

pub loop-i-init : goal.loop-i-init
loop-i-init g c = stores-start _ _ _ _ _

pub loop-i-preserved : goal.loop-i-preserved
loop-i-preserved g c = c.loop-i.invariant ∙ stores-more _ _ _ _ _ _ _ _ c.loop-i-test.true c.get.ensures refl

pub returns : goal.returns
returns g c = sym (stores-most _ _ _ _ _ _ c.room-i-end.ensures ∙ c.loop-i.invariant ∙ stores-end _ _ _ _ _ _ c.loop-i-test.false)
