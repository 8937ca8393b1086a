-- `decimal s d e` is the number nearest to ± d × 10 ^ e, ties to even, for a d below 10 ^ 15 and an e from -22 to 22: over the numbers of the format
-- (`decimal-nearest`), and as a fact about whole numbers (`decimal-closest`). Assumes nothing.
use Rattle.std.proofs.Common.{◌≡◌, ℕ, zero, suc, ◌+◌, ◌*◌, ◌/◌, ◌%◌, ◌^◌, ◌<◌, ◌≤◌, Bool, true, false, cond, not, T, eqb, leb, ◌⊎◌, ℤ, pos, negsuc, nat_abs, sym, refl, ap, ◌∙◌, subst, ap₂, inl, inr, lt_of_lt_of_le, lt_of_le_of_lt, le_of_lt, mod-lt, zero-lt-suc, add-mul, mul-le-mul, eq-or-lt_of_le, mul-le-mul_left, mul-one, mul_right_comm, le_of_mul-le-mul_right, arith, lit<, lit≤, pow_pos}
use mathlib.Core.Bool.{beq}
use native.Mathlib.Nat.{eq_of_mul-eq-mul_right, pow-le-pow_right}
use lib.Ieee.{Float, nan, inf, fin, binary64, up, down, fits, is_nan, of_fields, of_bits, to_bits}
use lib.Ieee.Bits.{of_bits-to_bits, to_bits-of_bits, to_bits-lt, of_bits-fits}
use lib.Ieee.Exact.{HasValue}
use lib.Ieee.Order.{transfer}
use lib.Ieee.Positive.{den, den_pos}
use lib.Ieee.Scale.{finite}
use Rattle.number.specs.Exact.{signed}
use Rattle.number.specs.Fraction.{FiniteIn}
use Rattle.number.specs.Nearest.{apart, Nearest}
use Rattle.number.proofs.Closest.{gap, gap-scale}
use Rattle.number.proofs.Distances.{apart-same, apart_other}
use Rattle.number.proofs.Rounded.{no_overflow}
use Rattle.number.proofs.Sizes.{steps, has, by-fields}
use Rattle.number.proofs.NearestLaws.{round-nearest}
use Rattle.figures.specs.Decimal.{tens, tenths, decimal}
use Rattle.figures.specs.Closest as C
use Rattle.figures.specs.Closest.{Closest, units_from, units_of, IsFinite, distance}
use Rattle.figures.proofs.Scaling.{ten-pos}

-- ---- over the numbers of the format

pub tenths-pos : (e : ℤ) → 0 < tenths e
tenths-pos (pos k) = zero-lt-suc 0
tenths-pos (negsuc k) = ten-pos (suc k)

tens-le : (e : ℤ) → nat_abs e ≤ 22 → tens e ≤ 10 ^ 22
tens-le (pos k) h = pow-le-pow_right (zero-lt-suc 9) h
tens-le (negsuc k) h = lit≤ tt

in_reach : (d : ℕ) (e : ℤ) → d < 10 ^ 15 → nat_abs e ≤ 22 → d * tens e < 2 ^ 1023 * tenths e
in_reach d e D E =
    lt_of_le_of_lt (mul-le-mul (le_of_lt D) (tens-le e E))
    (lt_of_lt_of_le (lit< {m = 10 ^ 15 * 10 ^ 22} {n = 2 ^ 1023 * 1} tt) (mul-le-mul_left (2 ^ 1023) (tenths-pos e)))

module _ (s : Bool) (d : ℕ) (e : ℤ) (D : d < 10 ^ 15) (E : nat_abs e ≤ 22) where
  pub decimal-finite : T (finite (decimal s d e))
  unfolding decimal
  decimal-finite = no_overflow binary64 (d * tens e) (tenths e) (tenths-pos e) s (in_reach d e D E)

  pub decimal-nearest : Nearest binary64 (signed s (d * tens e)) (tenths e) (decimal s d e)
  unfolding decimal
  decimal-nearest = round-nearest binary64 s (d * tens e) (tenths e) (tenths-pos e) decimal-finite

-- ---- from patterns to numbers

units-is : (x t : ℕ) → steps x t ≡ units_from x t
units-is zero t = mul-one t
units-is (suc x) t = refl

has-units : (b : ℕ) → C.exponent_field b < 2047 → HasValue (of_bits binary64 b) (leb (2 ^ 63) b) (units_of b) (2 ^ 1074)
has-units b h = subst (λ (u : ℕ). HasValue (of_bits binary64 b) (leb (2 ^ 63) b) u (2 ^ 1074)) (units-is (C.exponent_field b) (b % 2 ^ 52)) (has b h)

value-finite : (v : Float) (s : Bool) (a c : ℕ) → HasValue v s a c → T (finite v)
value-finite nan s a c h = h
value-finite (inf t) s a c h = h
value-finite (fin t m e) s a c h = tt

finite-no-nan : (v : Float) → T (finite v) → T (not (is_nan v))
unfolding is_nan
finite-no-nan nan h = absurd h
finite-no-nan (inf s) h = absurd h
finite-no-nan (fin s m e) h = tt

held : (b : ℕ) → IsFinite b → FiniteIn binary64 (of_bits binary64 b)
held b h = (of_bits-fits binary64 b, value-finite (of_bits binary64 b) (leb (2 ^ 63) b) (units_of b) (2 ^ 1074) (has-units b h.1))

-- back: what is finite has a field below 2047
not_finite : (s : Bool) (x t : ℕ) → x ≡ 2047 → T (finite (of_fields binary64 s x t)) → ⊥
not_finite s x t e h = shut (eqb t 0) (subst (λ (v : Float). T (finite v)) (ap (λ (y : ℕ). of_fields binary64 s y t) e ∙ open_up) h)
  where
    open_up : of_fields binary64 s 2047 t ≡ cond (eqb t 0) (inf s) nan
    open_up = unfold of_fields in refl

    shut : (b : Bool) → T (finite (cond b (inf s) nan)) → ⊥
    shut true u = u
    shut false u = u

finite-field : (b : ℕ) → T (finite (of_bits binary64 b)) → C.exponent_field b < 2047
finite-field b h = go (eq-or-lt_of_le (below (C.exponent_field b) (mod-lt (b / 2 ^ 52) (pow_pos 11))))
  where
    below : (x : ℕ) → x < 2 ^ 11 → x ≤ 2047
    below x h = omega arith

    go : (C.exponent_field b ≡ 2047) ⊎ (C.exponent_field b < 2047) → C.exponent_field b < 2047
    go (inr l) = l
    go (inl e) = absurd (not_finite (leb (2 ^ 63) b) (C.exponent_field b) (b % 2 ^ 52) e (subst (λ (v : Float). T (finite v)) (by-fields b) h))

-- ---- the distance in whole numbers

alike : (s t : Bool) (n c a g U l : ℕ) → n * l ≡ U * g → distance (beq s t) (n * c) (a * g) * l ≡ distance (beq s t) (U * c) (a * l) * g
alike s t n c a g U l p = go (beq s t)
  where
    first : n * c * l ≡ U * c * g
    first = mul_right_comm n c l ∙ ap (λ (x : ℕ). x * c) p ∙ mul_right_comm U g c

    go : (b : Bool) → distance b (n * c) (a * g) * l ≡ distance b (U * c) (a * l) * g
    go true = sym (gap-scale (n * c) (a * g) l) ∙ ap₂ gap first (mul_right_comm a g l) ∙ gap-scale (U * c) (a * l) g
    go false = add-mul (n * c) (a * g) l ∙ ap₂ (λ (x y : ℕ). x + y) first (mul_right_comm a g l) ∙ sym (add-mul (U * c) (a * l) g)

by-signs : (s t : Bool) (n c a g : ℕ) (e : ℤ) (m : ℕ) → n ≡ m * up e → g ≡ down e → apart (signed s a) c (fin t m e) ≡ distance (beq s t) (n * c) (a * g)
by-signs s t n c a g e m p q = go s t ∙ ap₂ (λ (x y : ℕ). distance (beq s t) (x * c) (a * y)) (sym p) (sym q)
  where
    go : (s t : Bool) → apart (signed s a) c (fin t m e) ≡ distance (beq s t) (m * up e * c) (a * down e)
    go false false = apart-same false (m * up e) c a (down e)
    go true true = apart-same true (m * up e) c a (down e)
    go false true = apart_other false (m * up e) c a (down e)
    go true false = apart_other true (m * up e) c a (down e)

in_whole : (s t : Bool) (a c U l : ℕ) (y : Float) → HasValue y t U l → apart (signed s a) c y * l ≡ distance (beq s t) (U * c) (a * l) * den y
in_whole s t a c U l nan h = absurd h
in_whole s t a c U l (inf u) h = absurd h
in_whole s t a c U l (fin u m e) h =
    ap (λ (x : ℕ). x * l) (by-signs s u (m * up e) c a (down e) e m refl refl)
    ∙ alike s u (m * up e) c a (down e) U l h.1
    ∙ ap (λ (v : Bool). distance (beq s v) (U * c) (a * l) * down e) h.0

-- ---- the law

module _ (s : Bool) (d : ℕ) (e : ℤ) (D : d < 10 ^ 15) (E : nat_abs e ≤ 22) where
  abbrev x : Float
  x = decimal s d e

  abbrev B : ℕ
  B = to_bits binary64 x

  N : Nearest binary64 (signed s (d * tens e)) (tenths e) x
  N = decimal-nearest s d e D E

  fit : T (fits binary64 x)
  fit = N.held.0

  same : of_bits binary64 B ≡ x
  same = of_bits-to_bits binary64 x fit

  is_finite : IsFinite B
  is_finite = (to_bits-lt binary64 x fit, finite-field B (subst (λ (v : Float). T (finite v)) (sym same) N.held.1))

  x-has : HasValue x (leb (2 ^ 63) B) (units_of B) (2 ^ 1074)
  x-has = subst (λ (v : Float). HasValue v (leb (2 ^ 63) B) (units_of B) (2 ^ 1074)) same (has-units B is_finite.1)

  abbrev far : ℕ → ℕ
  far b = C.distance_to s d e b

  x-far : apart (signed s (d * tens e)) (tenths e) x * 2 ^ 1074 ≡ far B * den x
  x-far = in_whole s (leb (2 ^ 63) B) (d * tens e) (tenths e) (units_of B) (2 ^ 1074) x x-has

  module _ (b : ℕ) (H : IsFinite b) where
    abbrev y : Float
    y = of_bits binary64 b

    y-far : apart (signed s (d * tens e)) (tenths e) y * 2 ^ 1074 ≡ far b * den y
    y-far = in_whole s (leb (2 ^ 63) b) (d * tens e) (tenths e) (units_of b) (2 ^ 1074) y (has-units b H.1)

    near : far B ≤ far b
    near =
        le_of_mul-le-mul_right
        (transfer (far B) (far b) (2 ^ 1074) (2 ^ 1074) (apart (signed s (d * tens e)) (tenths e) x) (apart (signed s (d * tens e)) (tenths e) y) (den x) (den y) (den_pos x) (den_pos y) (sym x-far) (sym y-far) (N.no_nearer y (held b H)))
        (pow_pos 1074)

    other : (b ≡ B → ⊥) → y ≡ x → ⊥
    other o p = o (sym (to_bits-of_bits binary64 b H.0 (finite-no-nan y (held b H).1)) ∙ ap (to_bits binary64) p)

    as_near : far B ≡ far b → apart (signed s (d * tens e)) (tenths e) x * den y ≡ apart (signed s (d * tens e)) (tenths e) y * den x
    as_near p =
        eq_of_mul-eq-mul_right (2 ^ 1074) (pow_pos 1074) (apart (signed s (d * tens e)) (tenths e) x * den y) (apart (signed s (d * tens e)) (tenths e) y * den x)
        (mul_right_comm (apart (signed s (d * tens e)) (tenths e) x) (den y) (2 ^ 1074)
        ∙ ap (λ (z : ℕ). z * den y) x-far
        ∙ ap (λ (z : ℕ). z * den x * den y) p
        ∙ mul_right_comm (far b) (den x) (den y)
        ∙ ap (λ (z : ℕ). z * den x) (sym y-far)
        ∙ mul_right_comm (apart (signed s (d * tens e)) (tenths e) y) (2 ^ 1074) (den x))

  pub decimal-closest : Closest s d e (to_bits binary64 (decimal s d e))
  decimal-closest = record { finite = is_finite; no_nearer = near; tie_even = λ b H o p. N.tie_even (of_bits binary64 b) (held b H) (other b H o) (as_near b H p) }
