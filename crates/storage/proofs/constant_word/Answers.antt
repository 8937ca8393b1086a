-- `storage::constant_word` meets its contract: each return decides whether the constant is a string. A string's kind is not 0, so it
-- stands within the slice and its number fits. Assumes nothing.
use mathlib.Core.Path.{◌≡◌, sym, ◌∙◌}
use mathlib.Core.List.{List}
use Prim.Native.Nat.{ℕ, ◌+◌, ◌<◌}
use native.Mathlib.Decide.{dec_le}
use native.Mathlib.Nat.{lt_of_not-le}
use native.Mathlib.Omega.{arith}
use lib.ListN.{length, get_or}
use borrow.Author.Tests.{eq-eqb, ne_eqb}
use Rattle.slices.proofs.Loops.{past}
use Rattle.storage.proofs.constant_word.Goals as goal

within : (l : List ℕ) (i : ℕ) → get_or l i 0 ≡ 4 → i < length l
within l i e = elim (dec_le (length l) i) [ yes h ↦ absurd (omega (arith, past l i h)) | no h ↦ lt_of_not-le h ]

pub overflow_add-result : goal.overflow_add-result
overflow_add-result c =
    let a = c.args in
    omega (arith, within a.const_kinds.now (c.first_constant-first.result + a.c) (sym c.get-kind.ensures ∙ c.if-kind-eq4.true))

pub returns-then-kind-eq4 : goal.returns-then-kind-eq4
returns-then-kind-eq4 c = rw (← c.first_constant-first.ensures, ← c.get-kind.ensures) (simp (eq-eqb _ _ c.if-kind-eq4.true))

pub returns : goal.returns
returns c =
    rw (← c.first_constant-first.ensures, ← c.get-kind.ensures)
    (simp (ne_eqb _ _ c.if-kind-eq4.false) c.get.ensures)
