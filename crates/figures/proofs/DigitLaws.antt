-- For readers: the significand and its zeros are the digits' value without its trailing zeros (`digits_value`, `no_trailing_zero`). Assumes nothing.
use Rattle.std.proofs.Common.{◌≡◌, ℕ, zero, suc, ◌+◌, ◌*◌, ◌%◌, ◌^◌, ◌<◌, ◌⊎◌, List, [], ◌∷◌, ◌++◌, sym, refl, ap, ◌∙◌, inr, add-zero, mul_assoc, pow-suc, mul-one, arith}
use Rattle.figures.specs.Texts.{value_from, significand, zeros}

-- the value of all digits is d × 10 ^ z
value-from : (v d z : ℕ) (ds : List ℕ) → v ≡ d * 10 ^ z → value_from 10 v ds ≡ significand v d ds * 10 ^ zeros z ds
unfolding value_from significand zeros
value-from v d z [] e = e
value-from v d z (zero ∷ ds) e =
    ap (λ (x : ℕ). value_from 10 x ds) (add-zero (v * 10)) ∙ value-from (v * 10) d (suc z) ds (ap (λ (x : ℕ). x * 10) e ∙ mul_assoc d (10 ^ z) 10 ∙ ap (λ (x : ℕ). d * x) (sym (pow-suc 10 z)))
value-from v d z (suc c ∷ ds) e = value-from (v * 10 + suc c) (v * 10 + suc c) 0 ds (sym (mul-one (v * 10 + suc c)))

pub digits_value : (ds : List ℕ) → value_from 10 0 ds ≡ significand 0 0 ds * 10 ^ zeros 0 ds
digits_value ds = value-from 0 0 0 ds refl

-- d is 0, or its last digit is not
abbrev pub Bare : ℕ → Type 0
Bare d = (d ≡ 0) ⊎ (d % 10 ≡ 0 → ⊥)

pub data Small : List ℕ → Type 0 where
  end : Small []
  on : {c : ℕ} {r : List ℕ} → c < 10 → Small r → Small (c ∷ r)

pub no_trailing_zero : (v d : ℕ) (ds : List ℕ) → Small ds → Bare d → Bare (significand v d ds)
unfolding significand
no_trailing_zero v d [] end b = b
no_trailing_zero v d (zero ∷ ds) (on h s) b = no_trailing_zero (v * 10) d ds s b
no_trailing_zero v d (suc c ∷ ds) (on h s) b = no_trailing_zero (v * 10 + suc c) (v * 10 + suc c) ds s (inr (last v c h))
  where
    last : (v c : ℕ) → suc c < 10 → (v * 10 + suc c) % 10 ≡ 0 → ⊥
    last v c h e = omega arith

pub small-append : (a b : List ℕ) → Small a → Small b → Small (a ++ b)
small-append [] b end t = t
small-append (c ∷ a) b (on h s) t = on h (small-append a b s t)
