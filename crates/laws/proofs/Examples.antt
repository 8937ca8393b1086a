-- Where two runs are not one, in images that the checker refuses: by computation. Assumes nothing.
use mathlib.Core.Path.{◌≡◌, refl, sym, ap, ◌∙◌}
use native.Mathlib.Omega.{arith}
use Rattle.step.specs.declared.Outcome.{Outcome}
use Rattle.step.specs.Run.{Ended, outcome, run_of}
use Rattle.worked.specs.Computing.{machine_computes}
use Rattle.laws.specs.Statements.{two_runs}
use Rattle.laws.specs.Examples.{running, hollow, unknown}

-- two runs and one, of each
hollow-two : (two_runs hollow 2 1 running).answer ≡ outcome 60 2 0 0
unfolding machine_computes
hollow-two = refl

hollow-one : (run_of hollow 3 running).answer ≡ outcome 60 2 1 0
unfolding machine_computes
hollow-one = refl

unknown-two : (two_runs unknown 1 0 running).answer ≡ outcome 70 0 0 0
unfolding machine_computes
unknown-two = refl

unknown-one : (run_of unknown 1 running).answer ≡ outcome 60 0 0 0
unfolding machine_computes
unknown-one = refl

-- a Call into a prototype without instructions: the first run leaves a state that is unfit, and the second is answered at prototype 0, instruction 0
pub unfit_between : two_runs hollow 2 1 running ≡ run_of hollow 3 running → ⊥
unfit_between e =
    let h = ap (λ (x : Outcome). x.prototype) (sym hollow-two ∙ ap (λ (x : Ended). x.answer) e ∙ hollow-one) in
    absurd (omega arith)

-- a fault: the second run, on no budget, doesn't look at the instruction
pub fault-between : two_runs unknown 1 0 running ≡ run_of unknown 1 running → ⊥
fault-between e =
    let h = ap (λ (x : Outcome). x.number) (sym unknown-two ∙ ap (λ (x : Ended). x.answer) e ∙ unknown-one) in
    absurd (omega arith)
