-- The frames stay a stack of activations under each change of them. Assumes nothing.
use mathlib.Core.Path.{◌≡◌, ◌∙◌}
use mathlib.Core.Bool.{true}
use mathlib.Core.List.{List}
use Prim.Native.Nat.{ℕ, ◌+◌, ◌-◌, ◌<◌, ◌≤◌}
use native.Mathlib.Omega.{arith}
use borrow.Author.Tests.{eqb-true, eqb-false}
use lib.Dec.{eqb}
use lib.ListN.{length}
use Rattle.choices.proofs.Choices.{by_bool}
use Rattle.storage.specs.Fields.{prototypes_of, registers_of, instructions_of}
use Rattle.state.specs.Frames.{depth_in, prototype_in, instruction_in, base_of, mark_with, depth_with, instruction_with, opened_with}
use Rattle.state.proofs.Fields.{Same, mark-depth, mark-same, depth_same, gone-depth, gone-prototype, gone-instruction, gone_same}
use Rattle.state.proofs.Stacks.{steady_marked, steady_gone, closed-depth, steady_closed, grown-depth, grown-same, grown-prototype, grown-instruction, steady_grown}
use Rattle.state.proofs.Heads.{Ahead, ahead-depth, ahead-same, ahead_steady}
use Rattle.fitness.specs.Fit.{there_in, waits_in}
use Rattle.fitness.specs.Facts.{Stack}
use Rattle.laws.proofs.Frames.{there-same, waits-same, there-prototype, there_of}

module _ (table code f : List ℕ) (h : Stack table code f) where
  -- another mark
  pub stack_mark : (x o : ℕ) → Stack table code (mark_with x o f)
  stack_mark x o =
      let e = mark-depth f x o in
      record {
        steady = steady_marked table f h.steady x o;
        there = λ i l. there-same table code f (mark_with x o f) i (mark-same f x o i) ∙ h.there i (rw e at l);
        waits = λ i l. waits-same table code f (mark_with x o f) i (mark-same f x o i) ∙ h.waits i (rw e at l);
      }

  -- entries and cells change
  pub stack_ahead : (g : List ℕ) → Ahead f g → length g ≡ length f → Stack table code g
  stack_ahead g a l =
      let e = ahead-depth f g a in
      let few = h.steady.few in
      record {
        steady = ahead_steady f g a table h.steady l;
        there = λ i m. there-same table code f g i (ahead-same f g a i (omega arith)) ∙ h.there i (rw e at m);
        waits = λ i m. waits-same table code f g i (ahead-same f g a i (omega arith)) ∙ h.waits i (rw e at m);
      }

  -- one activation less
  pub stack-pop : 1 < depth_in f → Stack table code (depth_with (depth_in f - 1) f)
  stack-pop deep =
      let e = closed-depth table f h.steady deep in
      let popped = depth_with (depth_in f - 1) f in
      let same = depth_same f (depth_in f - 1) in
      record {
        steady = steady_closed table f h.steady deep;
        there = (λ i l.
            there-same table code f popped i (same i) ∙ h.there i (let g : i < depth_in f - 1 = rw e at l in omega arith));
        waits = (λ i l.
            waits-same table code f popped i (same i) ∙ h.waits i (let g : i < depth_in f - 1 - 1 = rw e at l in omega arith));
      }

  -- the innermost activation goes on elsewhere
  module _ (x : ℕ) (to : x < instructions_of table (prototype_in f (depth_in f - 1))) where
    abbrev top : ℕ
    top = depth_in f - 1

    abbrev gone : List ℕ
    gone = instruction_with top x f

    few : top < 16
    few = omega (arith, h.steady.some, h.steady.few)

    place-gone : instruction_in gone top ≡ x
    place-gone = gone-instruction f top x few h.steady.long

    there-gone : (i : ℕ) → i < depth_in f → there_in table gone i ≡ true
    there-gone i l =
        by_bool (eqb i top)
        (λ e. let q : i ≡ top = eqb-true i top e in
        rw q
        (there_of table gone top (prototype_in f top) x (gone-prototype f top x top) place-gone
        (there-prototype table f top (h.there top (omega (arith, h.steady.some)))) to))
        (λ e. there-same table code f gone i (gone_same f top x few i (eqb-false i top e)) ∙ h.there i l)

    pub stack_gone : Stack table code gone
    stack_gone =
        let e = gone-depth f top x in
        record {
          steady = steady_gone table f h.steady top x;
          there = λ i l. there-gone i (rw e at l);
          waits = (λ i l.
              let g : i < depth_in f - 1 = rw e at l in
              waits-same table code f gone i (gone_same f top x few i (λ z. omega arith)) ∙ h.waits i g);
        }

  -- one activation more
  module _
      (d q c : ℕ) (e : d ≡ depth_in f) (room : d < 16) (waiting : waits_in table code f (d - 1) ≡ true) (known : q < prototypes_of table)
      (some : 0 < instructions_of table q) (fits : base_of table f d + registers_of table q ≤ 2048) where
    abbrev grown : List ℕ
    grown = depth_with (d + 1) (opened_with d q c f)

    same-grown : (i : ℕ) → i < 16 → (i ≡ d → ⊥) → Same f grown i
    same-grown = grown-same table f d q c h.steady e room

    there-grown : (i : ℕ) → i < d + 1 → there_in table grown i ≡ true
    there-grown i l =
        by_bool (eqb i d)
        (λ z. let s : i ≡ d = eqb-true i d z in
        rw s
        (there_of table grown d q 0 (grown-prototype table f d q c h.steady e room)
        (grown-instruction table f d q c h.steady e room) known some))
        (λ z. let o = eqb-false i d z in
        there-same table code f grown i (same-grown i (omega arith) o) ∙ h.there i (omega (arith, o)))

    waits-grown : (i : ℕ) → i < d → waits_in table code grown i ≡ true
    waits-grown i l =
        waits-same table code f grown i (same-grown i (omega arith) (λ z. omega arith))
        ∙ by_bool (eqb i (d - 1)) (λ z. let s : i ≡ d - 1 = eqb-true i (d - 1) z in rw s waiting)
        (λ z. let o = eqb-false i (d - 1) z in h.waits i (omega (arith, o)))

    pub stack_grown : Stack table code grown
    stack_grown =
        let k = grown-depth table f d q c h.steady e room in
        record {
          steady = steady_grown table f d q c h.steady e room fits;
          there = λ i l. there-grown i (rw k at l);
          waits = λ i l. waits-grown i (let g : i < d + 1 - 1 = rw k at l in omega arith);
        }
