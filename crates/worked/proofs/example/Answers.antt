-- `worked::example` meets its contract: what each operator and each run ensures is an entry of `defined`, and `worked` says what that is. Assumes nothing.
use mathlib.Core.Path.{◌≡◌, sym, ap, ◌∙◌}
use Prim.Native.Nat.{ℕ, ◌≤◌}
use native.Mathlib.Omega.{arith}
use lib.Ieee.{of_bits}
use lib.ListN.{get_or, get_or-eq_default}
use mathlib.Core.List.{List}
use Rattle.worked.specs.Worked.{defined, answers, worked}
use Rattle.worked.specs.declared.Ran.{Ran}
use Rattle.worked.specs.declared.Told.{Told}
use Rattle.worked.specs.declared.Told.TheVariants.{Operator, Number, Equal, Integer, Run, Register, Nothing}
use Rattle.worked.proofs.example.Goals as goal

at : (n : ℕ) → get_or defined n Nothing ≡ get_or answers n Nothing
at n = ap (λ (l : List Told). get_or l n Nothing) worked

pub returns-in-0 : goal.returns-in-0
returns-in-0 c = rw c.in-0.is (ap Operator c.floor_divide.ensures ∙ at 0)

pub returns-in-1 : goal.returns-in-1
returns-in-1 c = rw c.in-1.is (ap Operator c.modulo.ensures ∙ at 1)

pub returns-in-2 : goal.returns-in-2
returns-in-2 c = rw c.in-2.is (ap Operator c.floor_divide-in-2.ensures ∙ at 2)

pub returns-in-3 : goal.returns-in-3
returns-in-3 c = rw c.in-3.is (ap Operator c.modulo-in-3.ensures ∙ at 3)

pub returns-in-4 : goal.returns-in-4
returns-in-4 c = rw c.in-4.is (ap Operator c.modulo-in-4.ensures ∙ at 4)

pub returns-in-5 : goal.returns-in-5
returns-in-5 c = rw c.in-5.is (ap Operator c.add.ensures ∙ at 5)

pub returns-in-6 : goal.returns-in-6
returns-in-6 c = rw c.in-6.is (ap Number c.from_integer.ensures ∙ at 6)

pub returns-in-7 : goal.returns-in-7
unfolding of_bits
returns-in-7 c = rw c.in-7.is (ap Equal c.is_equal.ensures ∙ at 7)

pub returns-in-8 : goal.returns-in-8
unfolding of_bits
returns-in-8 c = rw c.in-8.is (ap Integer c.to_integer.ensures ∙ at 8)

pub returns-in-9 : goal.returns-in-9
returns-in-9 c = rw c.in-9.is (ap Operator c.shift_left.ensures ∙ at 9)

pub returns-in-10 : goal.returns-in-10
returns-in-10 c = rw c.in-10.is (ap Operator c.shift_right.ensures ∙ at 10)

pub returns-in-11 : goal.returns-in-11
returns-in-11 c = rw c.in-11.is (ap Operator c.shift_left-in-11.ensures ∙ at 11)

pub returns-in-12 : goal.returns-in-12
returns-in-12 c = rw c.in-12.is (ap (λ (r : Ran). Run r.answer) c.run_thirteen.ensures ∙ at 12)

pub returns-in-13 : goal.returns-in-13
returns-in-13 c = rw c.in-13.is (ap (λ (r : Ran). Run r.answer) c.run_thirteen-in-13.ensures ∙ at 13)

pub returns-in-14 : goal.returns-in-14
returns-in-14 c = rw c.in-14.is (ap (λ (r : Ran). Register r.first) c.run_thirteen-in-14.ensures ∙ at 14)

pub returns-in-15 : goal.returns-in-15
returns-in-15 c = rw c.in-15.is (ap (λ (r : Ran). Register r.fourth) c.run_thirteen-in-15.ensures ∙ at 15)

pub returns-in_default : goal.returns-in_default
returns-in_default c = let all : 16 ≤ c.args.n = omega arith in sym (get_or-eq_default answers Nothing all)
