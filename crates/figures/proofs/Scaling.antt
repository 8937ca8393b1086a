-- A product or a quotient of two numbers that are known as fractions is the fraction's rounding, zero too (lib.Ieee.Positive has it above zero);
-- a whole number below 2 ^ 53 is a number. Assumes nothing.
use Rattle.std.proofs.Common.{◌≡◌, ℕ, zero, suc, ◌-◌, ◌*◌, ◌^◌, ◌<◌, ◌≤◌, Bool, true, false, cond, eqb, pos, sym, ap, ◌∙◌, subst, true≢false, le_trans, le_of_lt, lt_irrefl, zero-lt-suc, mul-pos, pow-suc, zero-mul, mul-one, arith, lit≤}
use native.Mathlib.Nat.{mul-mul-mul_comm}
use lib.Dec.{eqb-suc-zero}
use lib.Ieee.{Float, nan, inf, fin, Format, binary64, up, down, round, mul, div, of_int, minus}
use lib.Ieee.Fits.{up_pos, down_pos}
use lib.Ieee.Exact.{HasValue}
use lib.Ieee.Scale.{round_same}
use lib.Ieee.Back.{round_whole}
use Rattle.figures.specs.Decimal.{decimal}
use Rattle.figures.proofs.FractionLaws.{minus-up, minus-down}

pub product : (f : Format) (x y : Float) (a c b d : ℕ) → 0 < c → 0 < d → HasValue x false a c → HasValue y false b d → mul f x y ≡ round f false (a * b) (c * d)
unfolding mul
product f nan y a c b d C D h k = absurd h
product f (inf s) y a c b d C D h k = absurd h
product f (fin true m e) y a c b d C D h k = absurd (true≢false h.0)
product f (fin false m e) nan a c b d C D h k = absurd k
product f (fin false m e) (inf t) a c b d C D h k = absurd k
product f (fin false m e) (fin true n g) a c b d C D h k = absurd (true≢false k.0)
product f (fin false m e) (fin false n g) a c b d C D h k =
    round_same f false (m * up e * (n * up g)) (down e * down g) (a * b) (c * d) (mul-pos (down_pos e) (down_pos g)) (mul-pos C D)
    (mul-mul-mul_comm (m * up e) (n * up g) c d ∙ ap (λ (z : ℕ). z * (n * up g * d)) h.1 ∙ ap (λ (z : ℕ). a * down e * z) k.1 ∙ mul-mul-mul_comm a (down e) b (down g))

-- the divisor b / d is not zero
pub quotient : (f : Format) (x y : Float) (a c b d : ℕ) → 0 < c → 0 < b → 0 < d → HasValue x false a c → HasValue y false b d → div f x y ≡ round f false (a * d) (b * c)
unfolding div
quotient f nan y a c b d C B D h k = absurd h
quotient f (inf s) y a c b d C B D h k = absurd h
quotient f (fin true m e) y a c b d C B D h k = absurd (true≢false h.0)
quotient f (fin false m e) nan a c b d C B D h k = absurd k
quotient f (fin false m e) (inf t) a c b d C B D h k = absurd k
quotient f (fin false m e) (fin true n g) a c b d C B D h k = absurd (true≢false k.0)
quotient f (fin false m e) (fin false zero g) a c b d C B D h k =
    absurd (lt_irrefl 0 (subst (λ (z : ℕ). 0 < z) (sym k.1 ∙ ap (λ (z : ℕ). z * d) (zero-mul (up g)) ∙ zero-mul d) (mul-pos B (down_pos g))))
quotient f (fin false m e) (fin false (suc n) g) a c b d C B D h k =
    ap (λ (z : Bool). cond z (cond (eqb m 0) nan (inf false)) (round f false (m * up e * down g) (suc n * up g * down e))) (eqb-suc-zero n)
    ∙ round_same f false (m * up e * down g) (suc n * up g * down e) (a * d) (b * c) (mul-pos (mul-pos (zero-lt-suc n) (up_pos g)) (down_pos e)) (mul-pos B C)
    (cross (m * up e) (down g) b c (suc n * up g) a d (down e) h.1 k.1)
  where
    cross : (x y b c u a d w : ℕ) → x * c ≡ a * w → u * d ≡ b * y → x * y * (b * c) ≡ a * d * (u * w)
    cross x y b c u a d w p q =
        regroup x y b c ∙ ap (λ (z : ℕ). z * (b * y)) p ∙ ap (λ (z : ℕ). a * w * z) (sym q) ∙ again a w u d
      where
        regroup : (x y b c : ℕ) → x * y * (b * c) ≡ x * c * (b * y)
        regroup x y b c = omega arith

        again : (a w u d : ℕ) → a * w * (u * d) ≡ a * d * (u * w)
        again a w u d = omega arith

-- ---- a whole number below 10 ^ 15

small : (d : ℕ) → d < 10 ^ 15 → d ≤ 2 ^ 53
small d h = le_trans (le_of_lt h) (lit≤ tt)

-- is a number
whole : (d : ℕ) → d < 10 ^ 15 → HasValue (of_int binary64 (pos d)) false d 1
unfolding of_int
whole d h = round_whole binary64 false d (small d h)

pub ten-pos : (k : ℕ) → 0 < 10 ^ k
ten-pos zero = zero-lt-suc 0
ten-pos (suc k) = subst (λ (z : ℕ). 0 < z) (sym (pow-suc 10 k)) (mul-pos (ten-pos k) (zero-lt-suc 9))

-- ---- the two ways

module _ (d a b : ℕ) (t : Float) (h : d < 10 ^ 15) where
  pub multiplied : b ≤ a → HasValue t false (10 ^ (a - b)) 1 → mul binary64 (of_int binary64 (pos d)) t ≡ decimal false d (minus a b)
  unfolding decimal
  multiplied n w = rw (minus-up a b n) (product binary64 (of_int binary64 (pos d)) t d 1 (10 ^ (a - b)) 1 (zero-lt-suc 0) (zero-lt-suc 0) (whole d h) w)

  pub divided : a < b → HasValue t false (10 ^ (b - a)) 1 → div binary64 (of_int binary64 (pos d)) t ≡ decimal false d (minus a b)
  unfolding decimal
  divided n w =
      rw (minus-down a b n, ← less a b n)
      (quotient binary64 (of_int binary64 (pos d)) t d 1 (10 ^ (b - a)) 1 (zero-lt-suc 0) (ten-pos (b - a)) (zero-lt-suc 0) (whole d h) w
      ∙ ap (λ (z : ℕ). round binary64 false (d * 1) z) (mul-one (10 ^ (b - a))))
    where
      less : (a b : ℕ) → a < b → b - a ≡ suc (b - a - 1)
      less a b n = omega arith
