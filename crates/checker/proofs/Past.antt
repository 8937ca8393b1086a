-- Instructions past the end of `code`: each word there is 0, a Move of register 0 to itself. It keeps the rules where the prototype has registers and another
-- instruction follows, but for the descriptors of prototype 0 at instruction 0; so where the first one keeps them, all do but the last. Assumes nothing.
use Prim.Native.Nat.{ℕ, zero, suc, ◌+◌, ◌-◌, ◌<◌, ◌≤◌}
use mathlib.Core.Path.{◌≡◌, refl, sym, ◌∙◌}
use mathlib.Core.Bool.{Bool, true, false, cond}
use mathlib.Core.List.{List}
use native.Mathlib.Omega.{arith}
use borrow.Author.Tests.{eqb-true, eq-eqb, ltb-true, lt-ltb, le-ltb}
use lib.Dec.{eqb, ltb}
use lib.ListN.{length, get_or-eq_default}
use Rattle.choices.proofs.Choices.{by_bool}
use Rattle.storage.specs.Fields.{first_instruction, registers_of, instructions_of, instruction_at}
use Rattle.checker.specs.Operations.{shape_of, next_of}
use Rattle.checker.specs.Rules.{carried, tidy, registers_in, constants_in, targets_in, prototype_in_image, upvalues_in, inside, all_inside, lowest, broken_as, broken_of}
use Rattle.checker.specs.Captures.{captures_at, bare_at}
use Rattle.checker.specs.Check.{Checked, refused, limits_of, site, broken_at, code_from}
use Rattle.checker.specs.declared.Limits.{Limits}
use Rattle.checker.proofs.Turns.{code-good, code-bad}

-- the rule that word 0 breaks at place p
pub blank :
    (l : Limits) (p : ℕ) (captures bare : Bool)
    → broken_of (site l p 0 captures bare) ≡ cond (ltb 0 l.registers) (cond (ltb (p + 1) l.instructions) (cond bare 0 16) 14) 12
unfolding broken_of broken_as lowest carried tidy registers_in constants_in targets_in prototype_in_image upvalues_in inside all_inside shape_of next_of
blank l p captures bare =
    by_bool (ltb 0 l.registers)
    (λ r. by_bool (ltb (p + 1) l.instructions) (λ n. rw (r, n)) (λ n. rw (r, n)))
    (λ r. rw r)

module _ (table code : List ℕ) (q : ℕ) where
  abbrev Past : ℕ → Type 0
  Past i = length code ≤ first_instruction table q + i

  broken-past :
      (i : ℕ) → Past i
      → broken_at table code q i
      ≡ cond (ltb 0 (registers_of table q)) (cond (ltb (i + 1) (instructions_of table q)) (cond (bare_at table q i) 0 16) 14) 12
  unfolding broken_at
  broken-past i h =
      let e : instruction_at table code q i ≡ 0 = get_or-eq_default code 0 h in
      rw e (blank (limits_of table q) i (captures_at table q 0) (bare_at table q i))

  -- only instruction 0 is asked about the prototype's descriptors
  bare-later : (i j : ℕ) → i ≤ j → bare_at table q i ≡ true → bare_at table q j ≡ true
  unfolding bare_at
  bare-later i j h e =
      by_bool (eqb q 0)
      (λ t. by_bool (eqb j 0)
      (λ u. let z : j ≡ 0 = eqb-true j 0 u in
      let y : i ≡ 0 = omega arith in
      rw (t, u) (rw (t, eq-eqb i 0 y) at e))
      (λ u. rw (t, u)))
      (λ t. rw t)

  module _ (i : ℕ) (h : Past i) (kept : broken_at table code q i ≡ 0) where
    registers-some : ltb 0 (registers_of table q) ≡ true
    registers-some =
        by_bool (ltb 0 (registers_of table q)) (λ t. t)
        (λ t. let e : broken_at table code q i ≡ 12 = rw t at (broken-past i h) in
        absurd (omega arith))

    -- further instructions keep the rules too, but for the last one
    broken-on : (j : ℕ) → i ≤ j → broken_at table code q j ≡ cond (ltb (j + 1) (instructions_of table q)) (cond (bare_at table q j) 0 16) 14
    broken-on j g = rw registers-some at (broken-past j (omega arith))

    followed : i + 1 < instructions_of table q
    followed =
        by_bool (ltb (i + 1) (instructions_of table q)) (λ t. ltb-true _ _ t)
        (λ t. let e : broken_at table code q i ≡ 14 = rw t at (broken-on i (omega arith)) in
        absurd (omega arith))

    bare : bare_at table q i ≡ true
    bare =
        by_bool (bare_at table q i) (λ t. t)
        (λ t. let e : broken_at table code q i ≡ 16 = rw (lt-ltb _ _ followed, t) at (broken-on i (omega arith)) in
        absurd (omega arith))

    kept_on : (j : ℕ) → i ≤ j → j + 1 < instructions_of table q → broken_at table code q j ≡ 0
    kept_on j g l = let t : ltb (j + 1) (instructions_of table q) ≡ true = lt-ltb _ _ l in rw (t, bare-later i j g bare) at (broken-on j g)

    last-broken : (j : ℕ) → i ≤ j → instructions_of table q ≤ j + 1 → broken_at table code q j ≡ 14
    last-broken j g l = let t : ltb (j + 1) (instructions_of table q) ≡ false = le-ltb _ _ l in rw t at (broken-on j g)

    module _ (rest : Checked) where
      abbrev from : ℕ → Checked
      from j = code_from table code q (instructions_of table q - j) j rest

      reach : (d : ℕ) → i + d < instructions_of table q → from i ≡ from (i + d)
      reach zero g = let e : i + 0 ≡ i = omega arith in rw e
      reach (suc d) g =
          let e : i + suc d ≡ i + d + 1 = omega arith in
          rw e
          (reach d (omega arith)
          ∙ code-good table code q (instructions_of table q) rest (i + d) (broken_at table code q (i + d)) refl (omega arith)
          (kept_on (i + d) (omega arith) (omega arith)))

      -- so the search goes on to the last one, and stops there
      pub past-last : (k : ℕ) → k ≡ instructions_of table q → from i ≡ refused 14 q (k - 1)
      past-last k e =
          let f = followed in
          let s : i + (k - 1 - i) ≡ k - 1 = omega arith in
          let to : from i ≡ from (k - 1) = rw s at (reach (k - 1 - i) (omega arith)) in
          let n = last-broken (k - 1) (omega arith) (omega arith) in
          to ∙ code-bad table code q (instructions_of table q) rest (k - 1) 14 (sym n) (omega arith) (λ z. omega arith)
