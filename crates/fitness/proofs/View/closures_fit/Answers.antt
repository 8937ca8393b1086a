-- `fitness::View::closures_fit` meets its contract: entries, then cells, then activations. Assumes nothing.
use Rattle.std.proofs.Common.{arith, refl, rules}
use Rattle.std.proofs.lemmas.Grind.{common_steps}
use Rattle.choices.proofs.Below.{below_from_all}
use Rattle.fitness.specs.Held.{held}
use Rattle.fitness.specs.Fit.{entry_fits, cell_fits, closure_fits, closures_fit}
use Rattle.fitness.proofs.View.closures_fit.Goals as goal
use Rattle.fitness.proofs.View.closures_fit.Goals.{then-all, else-all}

pub returns-then-all-2 : goal.returns-then-all-2
unfolding closures_fit
returns-then-all-2 c =
    let s = c.args.self in
    let m = held s in
    let x = below_from_all (entry_fits s.table.now s.frames.now) _ _ _ _ c.all.ensures.ran refl (λ e b q k. search rules) in
    let z = below_from_all (closure_fits s.table.now s.frames.now) _ _ _ _ c.all-then-all-2.ensures.ran refl (λ i b q k. search rules) in
    elim c.if-all.branch [
      | then-all w ↦
          let y = below_from_all (cell_fits s.table.now s.const_kinds.now m c.end-end.result) _ _ _ _ w.all-then-all.ensures.ran refl (λ i b q k. search rules) in
          grind (arith, common_steps, x, y, z)
      | else-all w ↦ grind (arith, common_steps)
    ]

pub returns-else-all-2 : goal.returns-else-all-2
unfolding closures_fit
returns-else-all-2 c =
    let s = c.args.self in
    let m = held s in
    let x = below_from_all (entry_fits s.table.now s.frames.now) _ _ _ _ c.all.ensures.ran refl (λ e b q k. search rules) in
    elim c.if-all.branch [
      | then-all w ↦
          let y = below_from_all (cell_fits s.table.now s.const_kinds.now m c.end-end.result) _ _ _ _ w.all-then-all.ensures.ran refl (λ i b q k. search rules) in
          grind (arith, common_steps, x, y)
      | else-all w ↦ grind (arith, common_steps, x)
    ]
