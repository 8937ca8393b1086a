-- What a Return names, and what a machine that has not finished names. Assumes nothing.
use Prim.Native.Nat.{ℕ}
use mathlib.Core.Path.{◌≡◌, refl}
use borrow.Author.Tests.{eq-eqb, ne_eqb}
use Rattle.storage.specs.Layout.{Storage}
use Rattle.checker.specs.Decode.{class_of}
use Rattle.checker.specs.declared.Instruction.{Instruction}
use Rattle.checker.specs.declared.Class.{Class}
use Rattle.checker.specs.declared.Class.TheVariants.{Calls, Returns, Other}
use Rattle.fitness.specs.Fit.{decoded_at}
use Rattle.state.specs.States.{State}
use Rattle.step.specs.Run.{standing_of}
use Rattle.step.specs.declared.Outcome.{Outcome}
use Rattle.machine.specs.Results.{returned, named, returned_of}
use Rattle.machine.specs.declared.Values.{Values}

-- of the classes beside a Return's
pub none_named : (o : Outcome) (c : Class) → ((start n : ℕ) → c ≡ Returns start n → ⊥) → returned o 0 0 ≡ named o c
unfolding named
none_named o (Calls f r) h = refl
none_named o (Returns s n) h = absurd (h s n refl)
none_named o Other h = refl

pub return_named : (o : Outcome) (c : Class) (s n : ℕ) → c ≡ Returns s n → returned o s n ≡ named o c
unfolding named
return_named o c s n e = rw e

module _ (S : Storage) (s : State) (o : Outcome) (e : o ≡ standing_of S s) where
  pub not-finished : (o.number ≡ 0 → ⊥) → returned o 0 0 ≡ returned_of S s
  unfolding returned_of
  not-finished h = rw (← e, ne_eqb _ _ h)

  pub finished :
      o.number ≡ 0 → (i : Instruction) → i ≡ decoded_at S.table S.code o.prototype o.instruction → (c : Class) → c ≡ class_of i
      → (r : Values) → r ≡ named o c → r ≡ returned_of S s
  unfolding returned_of
  finished h i f c k r g = rw (← e, eq-eqb _ _ h, ← f, ← k) g
