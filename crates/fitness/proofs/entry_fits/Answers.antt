-- `fitness::entry_fits` meets its contract: the upvalues of an entry in use whose prototype is there. Assumes nothing.
use Rattle.std.proofs.Common.{arith, refl, rules}
use Rattle.std.proofs.lemmas.Grind.{common_steps}
use Rattle.choices.proofs.Below.{below_from_all}
use Rattle.fitness.specs.Fit.{upvalue_fits, entry_fits}
use Rattle.fitness.proofs.entry_fits.Goals as goal

pub returns-then-x-prototypes : goal.returns-then-x-prototypes
unfolding entry_fits
returns-then-x-prototypes c =
    let a = c.args in
    let t = upvalue_fits a.frames.now a.e c.descriptors-n.result in
    let e = below_from_all t _ _ _ _ c.all.ensures.ran refl (λ j b q k. search rules) in
    grind (arith, common_steps, e)
