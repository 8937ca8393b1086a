-- `checker::past_code` meets its contract: the first instruction past the end breaks a rule, or the last does. Assumes nothing.
use Rattle.std.proofs.lemmas.Result.{err_from_is_err_and}
use Rattle.checker.proofs.Turns.{turn-bad, said-kept}
use Rattle.checker.proofs.Past.{past-last}
use Rattle.checker.proofs.past_code.Goals as goal

pub returns-in_err-check_at : goal.returns-in_err-check_at
returns-in_err-check_at c =
    let p = err_from_is_err_and c.from_residual.result c.from_residual.ensures.1 in
    λ rest. rw (p.1, p.2) (turn-bad _ _ _ _ _ _ _ c.check_at.ensures c.requires.i_bound _ c.in_err-check_at.was)

pub returns : goal.returns
returns c =
    λ rest. rw c.at.ensures (past-last _ _ _ _ c.requires.code_len_bound (said-kept _ _ _ _ _ c.check_at.ensures _ c.in_ok-check_at.was) rest _ c.instructions.ensures)
