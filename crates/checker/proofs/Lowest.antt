-- The decoder refuses with n exactly where n is the lowest rule that is broken, and no rule is broken exactly where all seven are kept. Assumes nothing.
use Prim.Native.Nat.{ℕ}
use mathlib.Core.Path.{◌≡◌, refl}
use mathlib.Core.Bool.{Bool, true, false}
use mathlib.Core.Logic.{◌↔◌}
use native.Mathlib.Omega.{arith}
use borrow.Author.Tests.{eqb-true, ne_eqb}
use lib.Dec.{eqb}
use Rattle.choices.proofs.Choices.{by_bool}
use Rattle.checker.specs.Operations.{Shape, copies, loads_constant, loads_bool, loads_nil, calls, returns, jumps, tests, tests_and_sets, closes, prepares, loops, compares, combines, gets_up_value, sets_up_value, unknown, shape_at}
use Rattle.checker.specs.Rules.{carried, tidy, registers_in, constants_in, targets_in, prototype_in_image, upvalues_in, lowest, broken_as, broken_of}
use Rattle.image.specs.Instruction.{a_of}
use Rattle.checker.specs.Decode.{place_of, jump_of, operands_of, decode_of}
use Rattle.checker.specs.Kept.{Kept}
use Rattle.checker.specs.declared.Site.{Site}
use Rattle.checker.specs.declared.Instruction.TheVariants.{Jump, Bad, Close}

-- ---- the seven rules

all-kept :
    (a b c d e f g : Bool) → lowest a b c d e f g ≡ 0
    → (a ≡ true) × (b ≡ true) × (c ≡ true) × (d ≡ true) × (e ≡ true) × (f ≡ true) × (g ≡ true)
unfolding lowest
all-kept true true true true true true true z = (refl, refl, refl, refl, refl, refl, refl)
all-kept false b c d e f g z = absurd (omega arith)
all-kept true false c d e f g z = absurd (omega arith)
all-kept true true false d e f g z = absurd (omega arith)
all-kept true true true false e f g z = absurd (omega arith)
all-kept true true true true false f g z = absurd (omega arith)
all-kept true true true true true false g z = absurd (omega arith)
all-kept true true true true true true false z = absurd (omega arith)

module _ (s : Site) where
  pub kept : broken_of s ≡ 0 → Kept s
  unfolding broken_of broken_as
  kept z =
      let x = shape_at s.word in
      let k = all-kept (carried x s) (tidy x s) (registers_in x s) (constants_in x s) (targets_in x s) (prototype_in_image x s) (upvalues_in x s) z in
      record { carried = k.0; tidy = k.1; registers = k.2; constants = k.3; targets = k.4; prototype = k.5; upvalues = k.6 }

  pub unbroken : Kept s → broken_of s ≡ 0
  unfolding broken_of broken_as lowest
  unbroken k = rw (k.carried, k.tidy, k.registers, k.constants, k.targets, k.prototype, k.upvalues)

-- ---- the refusal

-- a Jump is none, with a close register or without
jump-apart : (close target n : ℕ) → jump_of close target ≡ Bad n → true ≡ false
unfolding jump_of
jump-apart close target n e =
    by_bool (eqb close 255) (λ t. let b : Jump target ≡ Bad n = rw t at e in cc) (λ t. let b : Close close target ≡ Bad n = rw t at e in cc)

-- where the operands are a refusal, rule 10 is broken
pub not_carried : (x : Shape) (s : Site) (n : ℕ) → operands_of x s.place s.word ≡ Bad n → carried x s ≡ false
unfolding operands_of carried
not_carried jumps s n e = jump-apart (a_of s.word) (place_of s.place s.word) n e
not_carried unknown s n e = refl
not_carried _ s n e = cc

module _ (s : Site) (n : ℕ) where
  pub refused-broken : decode_of s ≡ Bad n → eqb (broken_of s) 0 ≡ false
  unfolding decode_of
  refused-broken e =
      by_bool (eqb (broken_of s) 0)
      (λ t. let k = kept s (eqb-true _ _ t) in
      let f : carried (shape_at s.word) s ≡ false = not_carried (shape_at s.word) s n (rw t at e) in
      let k10 = k.carried in
      cc)
      (λ t. t)

  -- the number of a refusal
  pub refused : decode_of s ≡ Bad n → broken_of s ≡ n
  unfolding decode_of
  refused e = let b : Bad (broken_of s) ≡ Bad n = rw (refused-broken e) at e in cc

  pub refuses : (n ≡ 0 → ⊥) → broken_of s ≡ n → decode_of s ≡ Bad n
  unfolding decode_of
  refuses h e = rw (e, ne_eqb n 0 h)

  pub refused-lowest : (n ≡ 0 → ⊥) → (decode_of s ≡ Bad n) ↔ (broken_of s ≡ n)
  refused-lowest h = (refused, refuses h)
