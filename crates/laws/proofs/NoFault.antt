-- An accepted image, started with permitted arguments and run on whatever budgets, never faults, and each run ends in one of three ways. Assumes nothing.
use mathlib.Core.Path.{◌≡◌}
use Prim.Native.Nat.{ℕ}
use native.Mathlib.Omega.{arith}
use Rattle.state.proofs.Marks.{error_no-fault}
use Rattle.step.specs.Run.{run_of}
use Rattle.step.specs.declared.Outcome.{Outcome}
use Rattle.laws.specs.Statements.{after_runs, NoFault, StaysFit, Ends, finished, failed, used, ThreeEnds}
use Rattle.laws.proofs.Runs.{run-whole, after-fit}
use Rattle.laws.proofs.Started.{begun_demanded, begun-fit}

pub ends-apart : (b : ℕ) (o : Outcome) → Ends b o → o.number ≡ 60 → ⊥
ends-apart b o (finished e) z = omega arith
ends-apart b o (failed e) z = error_no-fault o.number e z
ends-apart b o (used e c) z = omega arith

pub stays_fit : StaysFit
stays_fit S arg_kinds arg_words s t e bs =
    after-fit S (begun_demanded S arg_kinds arg_words s t e) bs t (begun-fit S arg_kinds arg_words s t e)

pub three-ends : ThreeEnds
three-ends S arg_kinds arg_words s t e bs b =
    (run-whole S (begun_demanded S arg_kinds arg_words s t e) b (after_runs S bs t) (stays_fit S arg_kinds arg_words s t e bs)).ends

pub no-fault : NoFault
no-fault S arg_kinds arg_words s t e bs b =
    ends-apart b (run_of S b (after_runs S bs t)).answer (three-ends S arg_kinds arg_words s t e bs b)
