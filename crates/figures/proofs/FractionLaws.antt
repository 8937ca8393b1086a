-- `fraction` by cases, the sign, and the power of ten as a difference. Assumes nothing.
use Rattle.std.proofs.Common.{◌≡◌, ℕ, suc, ◌+◌, ◌-◌, ◌*◌, ◌^◌, ◌<◌, ◌≤◌, Bool, true, false, ℤ, pos, negsuc, nat_abs, refl, ap, arith, Some, None, le-ltb, lt-ltb, eq-eqb, ne_eqb, le-leb}
use borrow.Author.Tests.{lt-leb}
use lib.Ieee.{binary64, round, neg, of_bits, minus}
use Rattle.choices.proofs.Choices.{by_order}
use Rattle.std.proofs.lemmas.Bool.Decides.{nat_tests}
use Rattle.number.proofs.Round.{neg-round}
use Rattle.figures.specs.Decimal.{tens, tenths, decimal, sign_of}
use Rattle.figures.specs.Figures.{fraction}
use Rattle.figures.specs.declared.Figure.TheVariants.{Number}

-- ---- the sign

pub signed_decimal : (s : Bool) (d : ℕ) (e : ℤ) → sign_of s (decimal false d e) ≡ decimal s d e
unfolding decimal
signed_decimal false d e = refl
signed_decimal true d e = neg-round binary64 (d * tens e) (tenths e)

pub signed-zero : (s : Bool) → sign_of s (of_bits binary64 0) ≡ decimal s 0 (pos 0)
unfolding decimal of_bits neg round
signed-zero false = refl
signed-zero true = refl

-- ---- by cases

module _ (s : Bool) (d : ℕ) (e : ℤ) where
  pub fraction-zero : d ≡ 0 → fraction s d e ≡ Some (Number (decimal s 0 (pos 0)))
  unfolding fraction
  fraction-zero h = rw (eq-eqb d 0 h)

  pub fraction-many : 10 ^ 15 ≤ d → fraction s d e ≡ None
  unfolding fraction
  fraction-many h = rw (ne_eqb d 0 (λ z. omega arith), le-ltb d (10 ^ 15) h)

  pub fraction-near : (d ≡ 0 → ⊥) → d < 10 ^ 15 → nat_abs e ≤ 22 → fraction s d e ≡ Some (Number (decimal s d e))
  unfolding fraction
  fraction-near z h k = rw (ne_eqb d 0 z, lt-ltb d (10 ^ 15) h, le-leb (nat_abs e) 22 k)

-- ---- the net power

pub minus-up : (a b : ℕ) → b ≤ a → minus a b ≡ pos (a - b)
minus-up a b h = rw (le-leb b a h)

pub minus-down : (a b : ℕ) → a < b → minus a b ≡ negsuc (b - a - 1)
minus-down a b h = rw (lt-leb b a h) (ap negsuc (same a b h))
  where
    same : (a b : ℕ) → a < b → b - suc a ≡ b - a - 1
    same a b h = omega arith

pub minus-size : (a b : ℕ) → nat_abs (minus a b) ≡ (a - b) + (b - a)
minus-size a b = by_order b a (λ h. rw (minus-up a b h) (omega arith)) (λ h. rw (minus-down a b h) (omega arith))

pub ruleset fraction_terms = (signed_decimal, signed-zero, minus-size, nat_tests)
