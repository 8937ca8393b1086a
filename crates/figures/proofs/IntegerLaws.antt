-- An integer of a sign and a size: where the size was taken modulo 2 ^ 64 nothing is changed by it, and in range nothing is changed by wrapping. Assumes nothing.
use Rattle.std.proofs.Common.{◌≡◌, ℕ, zero, suc, ◌+◌, ◌%◌, ◌^◌, ◌<◌, Bool, true, false, ℤ, pos, negsuc, neg_ℤ, sym, refl, ap, ◌∙◌, arith, w64, to_z, ltb-true, leb-true}
use native.Mathlib.Nat.{mod-mod}
use lib.Signed.{mag}
use mir.ValLaws.{to_z-of_z}
use Rattle.integer.specs.Wrap.{residue, wrap}
use Rattle.integer.proofs.Residues.{pow64, residue-lt, rep, rep_neg, unique, bits_are}
use Rattle.number.specs.Exact.{signed}
use Rattle.figures.specs.Figures.{fits_integer}

turned : (v : ℕ) → (residue (2 ^ 64) (neg_ℤ (pos v)) + v) % 2 ^ 64 ≡ 0 % 2 ^ 64
turned zero = refl
turned (suc n) = rep (2 ^ 64) pow64 (negsuc n)

pub wrap_mod : (s : Bool) (v N : ℕ) → v ≡ N % 2 ^ 64 → wrap (signed s v) ≡ wrap (signed s N)
wrap_mod false v N e = ap (to_z w64) (ap (λ (x : ℕ). x % 2 ^ 64) e ∙ mod-mod N (2 ^ 64))
wrap_mod true v N e =
    ap (to_z w64)
    (unique (2 ^ 64) pow64 (residue (2 ^ 64) (neg_ℤ (pos v))) (neg_ℤ (pos N)) (residue-lt (2 ^ 64) pow64 (neg_ℤ (pos v)))
    (rep_neg (2 ^ 64) pow64 v (residue (2 ^ 64) (neg_ℤ (pos v))) (pos N) (ap (λ (x : ℕ). x % 2 ^ 64) e ∙ mod-mod N (2 ^ 64)) (turned v)))

stays : (z : ℤ) → mag z < 2 ^ 63 → wrap z ≡ z
stays z h = ap (to_z w64) (sym (bits_are z (record { sfits = h }))) ∙ to_z-of_z w64 z (record { sfits = h })

pub wrap-fits : (s : Bool) (v : ℕ) → fits_integer s v ≡ true → wrap (signed s v) ≡ signed s v
wrap-fits false v h = stays (pos v) (ltb-true v (2 ^ 63) h)
wrap-fits true zero h = stays (pos 0) (omega arith)
wrap-fits true (suc n) h = stays (negsuc n) (leb-true (suc n) (2 ^ 63) h)
