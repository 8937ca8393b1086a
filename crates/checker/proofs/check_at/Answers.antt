-- `checker::check_at` meets its contract: the number in a refusal is that of the lowest rule broken, and what is no refusal breaks none.
-- Assumes nothing.
use Rattle.checker.proofs.Turns.{said-bad, said-good}
use Rattle.checker.proofs.check_at.Goals as goal

pub returns-in-Bad : goal.returns-in-Bad
returns-in-Bad c = rw c.at.ensures (said-bad _ _ _ _ _ c.site_of.ensures _ c.in-Bad.ensures)

pub returns-in_default : goal.returns-in_default
returns-in_default c = said-good _ _ _ _ _ c.site_of.ensures _ c.decode.ensures c.in_default.not-Bad
