-- The digits past a line's end: every one is 0, so a number that is 0 there stays 0. Assumes nothing.
use mathlib.Core.Path.{◌≡◌, sym, ◌∙◌}
use mathlib.Core.Bool.{true, ◌&&◌}
use mathlib.Core.List.{List}
use Prim.Native.Nat.{ℕ, zero, suc, ◌+◌, ◌-◌, ◌≤◌}
use native.Mathlib.Omega.{arith}
use lib.Dec.{eqb, leb}
use lib.ListN.{length, get_or-eq_default}
use borrow.Author.Tests.{leb-true, eqb-true}
use Rattle.choices.proofs.Choices.{and_left, and_right}
use Rattle.lists.specs.Lines.{number_at}

module _ (l : List ℕ) (at : ℕ) where
  stays : (i j : ℕ) → length l ≤ i → number_at i l at ≡ 0 → number_at (i + j) l at ≡ 0
  unfolding number_at
  stays i zero h z = let e : i + 0 ≡ i = omega arith in rw e z
  stays i (suc j) h z =
      let e : i + suc j ≡ suc (i + j) = omega arith in
      rw (e, stays i j h z, get_or-eq_default l 0 {n = at + (i + j)} (omega arith))

  pub over : (i n v : ℕ) → v ≡ number_at i l at → i ≤ n → leb (length l) i && eqb v 0 ≡ true → 0 ≡ number_at n l at
  over i n v e h both =
      let g : length l ≤ i = leb-true _ _ (and_left (leb (length l) i) (eqb v 0) both) in
      let z : v ≡ 0 = eqb-true _ _ (and_right (leb (length l) i) (eqb v 0) both) in
      let m : i + (n - i) ≡ n = omega arith in
      sym (rw m at (stays i (n - i) g (sym e ∙ z)))
