-- Two helpers that remember one date, before its register has returned and after: by computation. Assumes nothing.
use mathlib.Core.Path.{◌≡◌, refl}
use mathlib.Core.Bool.{true}
use Rattle.checker.specs.Check.{check_of}
use Rattle.checker.specs.Decode.{binary_of, left_operand, right_operand}
use Rattle.std.specs.Prelude.{Ok}
use Rattle.effects.specs.Effects.{binary_answer}
use Rattle.fitness.specs.Fit.{fit_of}
use Rattle.step.specs.Run.{outcome, run_of}
use Rattle.worked.specs.Computing.{machine_computes}
use Rattle.laws.specs.Examples.{running}
use Rattle.laws.specs.Sharing.{content_at, helpers, Remembered}

accepted : check_of helpers ≡ Ok tt
unfolding machine_computes
accepted = refl

fits : fit_of helpers running ≡ true
unfolding machine_computes
fits = refl

answered : (run_of helpers 21 running).answer ≡ outcome 0 21 0 4
unfolding machine_computes binary_of left_operand right_operand binary_answer
answered = refl

told : content_at (run_of helpers 21 running).state 1 ≡ record { kind = 2; word = 7 }
unfolding machine_computes binary_of left_operand right_operand binary_answer
told = refl

pub remembered : Remembered
remembered = (accepted, (fits, (answered, told)))
