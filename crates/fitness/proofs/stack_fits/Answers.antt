-- `fitness::stack_fits` meets its contract: each activation is there, and all but the innermost wait. Assumes nothing.
use Rattle.std.proofs.Common.{arith, refl, rules}
use Rattle.std.proofs.lemmas.Grind.{common_steps}
use Rattle.choices.proofs.Below.{below_from_all}
use Rattle.state.specs.Frames.{base_of}
use Rattle.state.proofs.Stacks.{clip_test}
use Rattle.fitness.specs.Fit.{there_in, waits_in, stack_fits}
use Rattle.fitness.proofs.stack_fits.Goals as goal

pub returns-then-not-matches : goal.returns-then-not-matches
unfolding stack_fits
returns-then-not-matches c =
    let a = c.args in
    let k = clip_test (base_of a.table.now a.frames.now c.depth-depth.result) in
    grind (arith, common_steps, k)

pub returns-then-all : goal.returns-then-all
unfolding stack_fits
returns-then-all c =
    let a = c.args in
    let k = clip_test (base_of a.table.now a.frames.now c.depth-depth.result) in
    let e = below_from_all (there_in a.table.now a.frames.now) _ _ _ _ c.all.ensures.ran refl (λ i b q k. search rules) in
    let w = below_from_all (waits_in a.table.now a.code.now a.frames.now) _ _ _ _ c.all-then-all.ensures.ran refl (λ i b q k. search rules) in
    grind (arith, common_steps, k, e, w)

pub returns-else-all : goal.returns-else-all
unfolding stack_fits
returns-else-all c =
    let a = c.args in
    let e = below_from_all (there_in a.table.now a.frames.now) _ _ _ _ c.all.ensures.ran refl (λ i b q k. search rules) in
    grind (arith, common_steps, e)
