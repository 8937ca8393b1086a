-- `fitness::View::values_fit` meets its contract: each of the live registers fits. Assumes nothing.
use Rattle.std.proofs.Common.{arith, refl, rules}
use Rattle.std.proofs.lemmas.Grind.{common_steps}
use Rattle.choices.proofs.Below.{below_from_all}
use Rattle.fitness.specs.Fit.{register_fits, values_fit}
use Rattle.fitness.proofs.View.values_fit.Goals as goal

pub returns : goal.returns
unfolding values_fit
returns c =
    let s = c.args.self in
    let t = register_fits s.table.now s.const_kinds.now s.frames.now s.kinds.now s.words.now in
    let e = below_from_all t _ _ _ _ c.all.ensures.ran refl (λ r b q k. search rules) in
    grind (arith, common_steps, e)
