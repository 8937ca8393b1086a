-- What is there and what waits after each change of the activations. Assumes nothing.
use mathlib.Core.Path.{◌≡◌}
use mathlib.Core.Bool.{Bool, true}
use mathlib.Core.List.{List}
use Prim.Native.Nat.{ℕ, ◌<◌}
use borrow.Author.Tests.{ltb-true, lt-ltb}
use lib.Dec.{ltb}
use Rattle.choices.proofs.Choices.{and_right, and_left}
use Rattle.storage.specs.Fields.{prototypes_of, instructions_of}
use Rattle.state.specs.Frames.{prototype_in, instruction_in}
use Rattle.state.proofs.Fields.{Same}
use Rattle.fitness.specs.Fit.{there_in, before_in, waits_in}

-- the same activation is there, and waits, in both
module _ (table code f g : List ℕ) where
  pub there-same : (i : ℕ) → Same f g i → there_in table g i ≡ there_in table f i
  unfolding there_in
  there-same i s = rw (s.prototype, s.instruction)

  pub waits-same : (i : ℕ) → Same f g i → waits_in table code g i ≡ waits_in table code f i
  unfolding waits_in before_in
  waits-same i s = rw (s.prototype, s.instruction)

module _ (table f : List ℕ) (i : ℕ) where
  abbrev prototype : ℕ
  prototype = prototype_in f i

  abbrev known : Bool
  known = ltb prototype (prototypes_of table)

  abbrev placed : Bool
  placed = ltb (instruction_in f i) (instructions_of table prototype)

  pub there-prototype : there_in table f i ≡ true → prototype < prototypes_of table
  unfolding there_in
  there-prototype e = ltb-true _ _ (and_left known placed e)

  pub there-instruction : there_in table f i ≡ true → instruction_in f i < instructions_of table prototype
  unfolding there_in
  there-instruction e = ltb-true _ _ (and_right known placed e)

  pub there_of :
      (q p : ℕ) → prototype_in f i ≡ q → instruction_in f i ≡ p → q < prototypes_of table → p < instructions_of table q
      → there_in table f i ≡ true
  unfolding there_in
  there_of q p eq ep h g = rw (eq, ep, lt-ltb q (prototypes_of table) h, lt-ltb p (instructions_of table q) g)
