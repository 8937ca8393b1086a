-- A value as d × 10 ^ e: without a trailing zero there is one such d and one such e (`only-value`), and `fraction` is asked for them. So what `figure_of` yields
-- for a literal is what the grammar says that it denotes (`yields_denoted`, `denotes_yielded`). Assumes nothing.
use Rattle.std.proofs.Common.{◌≡◌, ℕ, zero, suc, ◌+◌, ◌-◌, ◌*◌, ◌%◌, ◌^◌, ◌<◌, ◌≤◌, Bool, true, false, cond, ◌&&◌, eqb, ltb, leb, List, ℤ, pos, negsuc, nat_abs, sym, refl, ap, ◌∙◌, ap₂, subst, Option, Some, None, inl, inr, add-zero, zero-lt-suc, mul_assoc, add_comm, mul-pos, pow-suc, zero-add, zero-mul, mul-one, arith, pow-add, ltb-true, eqb-true, leb-true}
use native.Mathlib.Nat.{mul-mod_left, eq_of_mul-eq-mul_right}
use borrow.Author.Tests.{eqb-false}
use lib.Ieee.{minus}
use Rattle.choices.proofs.Choices.{by_order, and_left, and_right, cond_cases}
use Rattle.integer.specs.Wrap.{wrap}
use Rattle.number.specs.Exact.{signed}
use Rattle.figures.specs.Decimal.{tens, tenths, decimal}
use Rattle.figures.specs.Texts.{value_from, significand, zeros}
use Rattle.figures.specs.Figures.{fraction, fits_integer, raised}
use Rattle.figures.specs.Grammar.{Literal, decimal_integer, hex_integer, decimal_fraction, ValueIs, InSet, ByFraction, a_fraction, too_large, Denotes, is_integer, hex_wraps, zero_fits, is_nearest}
use Rattle.figures.specs.declared.Figure.{Figure}
use Rattle.figures.specs.declared.Figure.TheVariants.{Integer, Number}
use Rattle.figures.proofs.Scaling.{ten-pos}
use Rattle.figures.proofs.FractionLaws.{fraction-zero, fraction-near, minus-up, minus-down}
use Rattle.figures.proofs.DigitLaws.{Small, Bare, digits_value, no_trailing_zero}

-- ---- 10 ^ e is 10 ^ rise e / 10 ^ fall e

abbrev rise : ℤ → ℕ
rise (pos k) = k
rise (negsuc k) = 0

abbrev fall : ℤ → ℕ
fall (pos k) = 0
fall (negsuc k) = suc k

tens-is : (e : ℤ) → tens e ≡ 10 ^ rise e
tens-is (pos k) = refl
tens-is (negsuc k) = refl

tenths-is : (e : ℤ) → tenths e ≡ 10 ^ fall e
tenths-is (pos k) = refl
tenths-is (negsuc k) = refl

tens-pos : (e : ℤ) → 0 < tens e
tens-pos e = rw (tens-is e) (ten-pos (rise e))

-- a difference is the only e that rises and falls by it
minus-has : (a b : ℕ) → rise (minus a b) + b ≡ a + fall (minus a b)
minus-has a b = by_order b a (λ h. rw (minus-up a b h) (up a b h)) (λ h. rw (minus-down a b h) (down a b h))
  where
    up : (a b : ℕ) → b ≤ a → a - b + b ≡ a + 0
    up a b h = omega arith

    down : (a b : ℕ) → a < b → 0 + b ≡ a + suc (b - a - 1)
    down a b h = omega arith

minus_is : (a b : ℕ) (e : ℤ) → rise e + b ≡ a + fall e → minus a b ≡ e
minus_is a b (pos k) h = minus-up a b (omega arith) ∙ ap pos (same a b k h)
  where
    same : (a b k : ℕ) → k + b ≡ a + 0 → a - b ≡ k
    same a b k h = omega arith
minus_is a b (negsuc k) h = minus-down a b (omega arith) ∙ ap negsuc (same a b k h)
  where
    same : (a b k : ℕ) → 0 + b ≡ a + suc k → b - a - 1 ≡ k
    same a b k h = omega arith

-- ---- d × 10 ^ n, without a trailing zero

one_more : (d n : ℕ) → d * 10 ^ suc n ≡ d * 10 ^ n * 10
one_more d n = ap (λ (x : ℕ). d * x) (pow-suc 10 n) ∙ sym (mul_assoc d (10 ^ n) 10)

ends-zero : (d n : ℕ) → d * 10 ^ suc n % 10 ≡ 0
ends-zero d n = ap (λ (x : ℕ). x % 10) (one_more d n) ∙ mul-mod_left (d * 10 ^ n) 10

only-power : (a b m n : ℕ) → (a % 10 ≡ 0 → ⊥) → (b % 10 ≡ 0 → ⊥) → a * 10 ^ m ≡ b * 10 ^ n → (a ≡ b) × (m ≡ n)
only-power a b zero zero A B e = (sym (mul-one a) ∙ e ∙ mul-one b, refl)
only-power a b zero (suc n) A B e = absurd (A (ap (λ (x : ℕ). x % 10) (sym (mul-one a) ∙ e) ∙ ends-zero b n))
only-power a b (suc m) zero A B e = absurd (B (ap (λ (x : ℕ). x % 10) (sym (mul-one b) ∙ sym e) ∙ ends-zero a m))
only-power a b (suc m) (suc n) A B e =
    let r : (a ≡ b) × (m ≡ n) = only-power a b m n A B (eq_of_mul-eq-mul_right 10 (omega arith) (a * 10 ^ m) (b * 10 ^ n) (sym (one_more a m) ∙ e ∙ one_more b n)) in
    (r.0, ap suc r.1)

-- ---- the net power: of digits d × 10 ^ z, of which p stand behind the point, and the exponent x

abbrev pub net_power : ℕ → ℕ → ℤ → ℤ
net_power z p x = minus (z + rise x) (fall x + p)

module _ (d z p : ℕ) (x : ℤ) (d' : ℕ) (e : ℤ) where
  left-side : d * 10 ^ z * tens x * tenths e ≡ d * 10 ^ (z + rise x + fall e)
  left-side =
      ap₂ (λ (a b : ℕ). d * 10 ^ z * a * b) (tens-is x) (tenths-is e)
      ∙ ap (λ (a : ℕ). a * 10 ^ fall e) (mul_assoc d (10 ^ z) (10 ^ rise x) ∙ ap (λ (a : ℕ). d * a) (sym (pow-add 10 z (rise x))))
      ∙ mul_assoc d (10 ^ (z + rise x)) (10 ^ fall e)
      ∙ ap (λ (a : ℕ). d * a) (sym (pow-add 10 (z + rise x) (fall e)))

  right_side : d' * tens e * (tenths x * 10 ^ p) ≡ d' * 10 ^ (rise e + (fall x + p))
  right_side =
      ap₂ (λ (a b : ℕ). d' * a * (b * 10 ^ p)) (tens-is e) (tenths-is x)
      ∙ mul_assoc d' (10 ^ rise e) (10 ^ fall x * 10 ^ p)
      ∙ ap (λ (a : ℕ). d' * (10 ^ rise e * a)) (sym (pow-add 10 (fall x) p))
      ∙ ap (λ (a : ℕ). d' * a) (sym (pow-add 10 (rise e) (fall x + p)))

  only-value : (d % 10 ≡ 0 → ⊥) → (d' % 10 ≡ 0 → ⊥) → d * 10 ^ z * tens x * tenths e ≡ d' * tens e * (tenths x * 10 ^ p) → (d ≡ d') × (net_power z p x ≡ e)
  only-value D D' h =
      let r : (d ≡ d') × (z + rise x + fall e ≡ rise e + (fall x + p)) = only-power d d' (z + rise x + fall e) (rise e + (fall x + p)) D D' (sym left-side ∙ h ∙ right_side) in
      (r.0, minus_is (z + rise x) (fall x + p) e (sym r.1))

net_value : (d z p : ℕ) (x : ℤ) → d * 10 ^ z * tens x * tenths (net_power z p x) ≡ d * tens (net_power z p x) * (tenths x * 10 ^ p)
net_value d z p x =
    left-side d z p x d (net_power z p x)
    ∙ ap (λ (n : ℕ). d * 10 ^ n) (sym (minus-has (z + rise x) (fall x + p)))
    ∙ sym (right_side d z p x d (net_power z p x))

zero_factor : (a b : ℕ) → 0 < b → a * b ≡ 0 → a ≡ 0
zero_factor zero b h e = refl
zero_factor (suc a) b h e = let k : 0 < suc a * b = mul-pos (zero-lt-suc a) h in absurd (omega arith)

zero-product : (x y : ℕ) → 0 * x * 1 ≡ 0 * 1 * y
zero-product x y = omega arith

no-product : (x y z : ℕ) → x * y * 1 ≡ 0 * 1 * z → x * y ≡ 0
no-product x y z h = omega arith

whole-value : (v d t u : ℕ) → v * 1 * t ≡ d * u * 1 → v * t ≡ d * u
whole-value v d t u h = omega arith

value-whole : (v d t u : ℕ) → v * t ≡ d * u → v * 1 * t ≡ d * u * 1
value-whole v d t u h = omega arith

-- an integer is a fraction without places and with the exponent 0
integer-fraction : (v d : ℕ) (e : ℤ) → ValueIs (decimal_integer v) d e → ValueIs (decimal_fraction v 0 (pos 0)) d e
integer-fraction v d e h = value-whole v d (tenths e) (tens e) h

fraction-integer : (v d : ℕ) (e : ℤ) → ValueIs (decimal_fraction v 0 (pos 0)) d e → ValueIs (decimal_integer v) d e
fraction-integer v d e h = whole-value v d (tenths e) (tens e) h

-- the exponent's digits, with the exponent's sign
pub raised_net : (s : Bool) (d z p : ℕ) (b : Bool) (n : ℕ) → raised s d z p b n ≡ fraction s d (net_power z p (signed b n))
unfolding raised
raised_net s d z p false n = ap (λ (k : ℕ). fraction s d (minus (z + n) k)) (sym (zero-add p))
raised_net s d z p true zero = ap₂ (λ (a b : ℕ). fraction s d (minus a b)) (sym (add-zero z)) (add_comm p 0)
raised_net s d z p true (suc n) = ap₂ (λ (a b : ℕ). fraction s d (minus a b)) (sym (add-zero z)) (add_comm p (suc n))

pub net_plain : (z p : ℕ) → minus z p ≡ net_power z p (pos 0)
net_plain z p = ap₂ minus (sym (add-zero z)) (sym (zero-add p))

pub net_whole : (z : ℕ) → pos z ≡ net_power z 0 (pos 0)
net_whole z = sym (minus-up z 0 (omega arith) ∙ ap pos (less z)) ∙ net_plain z 0
  where
    less : (z : ℕ) → z - 0 ≡ z
    less z = omega arith

-- a figure that is read is what the literal denotes
abbrev pub Denoted : Bool → Literal → Option Figure → Type 0
Denoted s l o = (f : Figure) → o ≡ Some f → Denotes s l f

denoted : {s : Bool} {l : Literal} {g : Figure} → Denotes s l g → Denoted s l (Some g)
denoted {s} {l} {g} D f e = let h : g ≡ f = cc in subst (Denotes s l) h D

none_denoted : {s : Bool} {l : Literal} → Denoted s l None
none_denoted f e = absurd (cc)

-- what `fraction` reads is of the set
fraction_denotes : (s : Bool) (d : ℕ) (e : ℤ) (l : Literal) → ByFraction s l → (d ≡ 0 → ValueIs l 0 (pos 0)) → ((d ≡ 0 → ⊥) → ValueIs l d e × (d % 10 ≡ 0 → ⊥))
    → Denoted s l (fraction s d e)
unfolding fraction
fraction_denotes s d e l A none some =
    cond_cases (Denoted s l) (eqb d 0) (Some (Number (decimal s 0 (pos 0)))) (cond (ltb d (10 ^ 15) && leb (nat_abs e) 22) (Some (Number (decimal s d e))) None)
    (λ h. denoted (zero_fits A (none (eqb-true d 0 h))))
    (λ h. cond_cases (Denoted s l) (ltb d (10 ^ 15) && leb (nat_abs e) 22) (Some (Number (decimal s d e))) None (λ k. denoted (is_nearest A (in_set (some (eqb-false d 0 h)) k))) (λ k. none_denoted))
  where
    in_set : ValueIs l d e × (d % 10 ≡ 0 → ⊥) → ltb d (10 ^ 15) && leb (nat_abs e) 22 ≡ true → InSet l d e
    in_set v k = record {
      same_value = v.0;
      no_zero_last = v.1;
      fifteen_digits = ltb-true d (10 ^ 15) (and_left (ltb d (10 ^ 15)) (leb (nat_abs e) 22) k);
      near_power = leb-true (nat_abs e) 22 (and_right (ltb d (10 ^ 15)) (leb (nat_abs e) 22) k);
    }

-- Digits with d × 10 ^ z their value. What they say with p places and the exponent x is of the set as d' × 10 ^ e exactly where `fraction` reads d × 10 ^ net_power z p x so.
module _ (s : Bool) (v d z : ℕ) (W : v ≡ d * 10 ^ z) (B : Bare d) (p : ℕ) (x : ℤ) where
  read-zero : ValueIs (decimal_fraction v p x) 0 (pos 0) → fraction s d (net_power z p x) ≡ Some (Number (decimal s 0 (pos 0)))
  read-zero h =
      let n : v ≡ 0 = zero_factor v (tens x) (tens-pos x) (no-product v (tens x) (tenths x * 10 ^ p) h) in
      fraction-zero s d (net_power z p x) (zero_factor d (10 ^ z) (ten-pos z) (sym W ∙ n))

  read_set : (d' : ℕ) (e : ℤ) → InSet (decimal_fraction v p x) d' e → fraction s d (net_power z p x) ≡ Some (Number (decimal s d' e))
  read_set d' e I = go B
    where
      some : d' ≡ 0 → ⊥
      some h = I.no_zero_last (ap (λ (n : ℕ). n % 10) h)

      value : d * 10 ^ z * tens x * tenths e ≡ d' * tens e * (tenths x * 10 ^ p)
      value = ap (λ (n : ℕ). n * tens x * tenths e) (sym W) ∙ I.same_value

      go : Bare d → fraction s d (net_power z p x) ≡ Some (Number (decimal s d' e))
      go (inl h) =
          absurd
          (some (zero_factor d' (10 ^ (rise e + (fall x + p))) (ten-pos (rise e + (fall x + p)))
          (sym (right_side d z p x d' e) ∙ sym value ∙ left-side d z p x d' e ∙ ap (λ (n : ℕ). n * 10 ^ (z + rise x + fall e)) h ∙ zero-mul (10 ^ (z + rise x + fall e)))))
      go (inr h) =
          let r : (d ≡ d') × (net_power z p x ≡ e) = only-value d z p x d' e h I.no_zero_last value in
          ap₂ (fraction s) r.0 r.1 ∙ fraction-near s d' e some I.fifteen_digits I.near_power

  -- and nothing else is read
  value_read : (l : Literal) → ByFraction s l → ((d' : ℕ) (e : ℤ) → ValueIs (decimal_fraction v p x) d' e → ValueIs l d' e)
      → Denoted s l (fraction s d (net_power z p x))
  value_read l A same =
      fraction_denotes s d (net_power z p x) l A (λ h. same 0 (pos 0) (nothing h))
      (λ n. (same d (net_power z p x) (ap (λ (y : ℕ). y * tens x * tenths (net_power z p x)) W ∙ net_value d z p x), bare n B))
    where
      nothing : d ≡ 0 → v * tens x * 1 ≡ 0 * 1 * (tenths x * 10 ^ p)
      nothing h = ap (λ (y : ℕ). y * tens x * 1) (W ∙ ap (λ (y : ℕ). y * 10 ^ z) h ∙ zero-mul (10 ^ z)) ∙ zero-product (tens x) (tenths x * 10 ^ p)

      bare : (d ≡ 0 → ⊥) → Bare d → d % 10 ≡ 0 → ⊥
      bare n (inl h) = absurd (n h)
      bare n (inr h) = h

-- ---- what a literal yields: `fraction` of digits without trailing zeros, or the integer

pub record Scaled (v d z : ℕ) : Type 0 where
  pub value : v ≡ d * 10 ^ z
  pub bare : Bare d

pub scaled : (ds : List ℕ) → Small ds → Scaled (value_from 10 0 ds) (significand 0 0 ds) (zeros 0 ds)
scaled ds S = record { value = digits_value ds; bare = no_trailing_zero 0 0 ds S (inl refl) }

abbrev pub Yields : Bool → Literal → Option Figure → Type 0
Yields s (decimal_integer v) f = (d : ℕ) × (z : ℕ) × Scaled v d z × (f ≡ cond (fits_integer s v) (Some (Integer (signed s v))) (fraction s d (net_power z 0 (pos 0))))
Yields s (hex_integer v) f = f ≡ Some (Integer (wrap (signed s v)))
Yields s (decimal_fraction v p x) f = (d : ℕ) × (z : ℕ) × Scaled v d z × (f ≡ fraction s d (net_power z p x))

pub yields_denoted : {s : Bool} {l : Literal} {f : Figure} → Denotes s l f → (g : Option Figure) → Yields s l g → g ≡ Some f
yields_denoted (is_integer h) g y = y.3 ∙ rw h
yields_denoted hex_wraps g y = y
yields_denoted {s} (zero_fits (a_fraction {v = v} {places = p} {x = x}) i) g y = y.3 ∙ read-zero s v y.0 y.1 y.2.value y.2.bare p x i
yields_denoted {s} (zero_fits (too_large {v = v} h) i) g y = y.3 ∙ rw h (read-zero s v y.0 y.1 y.2.value y.2.bare 0 (pos 0) (integer-fraction v 0 (pos 0) i))
yields_denoted {s} (is_nearest {d = d} {e = e} (a_fraction {v = v} {places = p} {x = x}) i) g y = y.3 ∙ read_set s v y.0 y.1 y.2.value y.2.bare p x d e i
yields_denoted {s} (is_nearest {d = d} {e = e} (too_large {v = v} h) i) g y =
    y.3 ∙ rw h (read_set s v y.0 y.1 y.2.value y.2.bare 0 (pos 0) d e (as_fraction i))
  where
    as_fraction : InSet (decimal_integer v) d e → InSet (decimal_fraction v 0 (pos 0)) d e
    as_fraction i = record { same_value = integer-fraction v d e i.same_value; no_zero_last = i.no_zero_last; fifteen_digits = i.fifteen_digits; near_power = i.near_power }

pub denotes_yielded : (s : Bool) (l : Literal) (o : Option Figure) → Yields s l o → Denoted s l o
denotes_yielded s (decimal_integer v) o y = rw y.3 go
  where
    go : Denoted s (decimal_integer v) (cond (fits_integer s v) (Some (Integer (signed s v))) (fraction s y.0 (net_power y.1 0 (pos 0))))
    go =
        cond_cases (Denoted s (decimal_integer v)) (fits_integer s v) (Some (Integer (signed s v))) (fraction s y.0 (net_power y.1 0 (pos 0))) (λ h. denoted (is_integer h))
        (λ h. value_read s v y.0 y.1 y.2.value y.2.bare 0 (pos 0) (decimal_integer v) (too_large h) (fraction-integer v))
denotes_yielded s (hex_integer v) o y = rw y (denoted hex_wraps)
denotes_yielded s (decimal_fraction v p x) o y =
    rw y.3 (value_read s v y.0 y.1 y.2.value y.2.bare p x (decimal_fraction v p x) a_fraction (λ d e h. h))
