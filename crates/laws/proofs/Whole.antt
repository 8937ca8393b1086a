-- Whole numbers in order: how far one lies beyond another, and what a sum does to their order; and which of them an i64 holds. Assumes nothing.
use mathlib.Core.Path.{◌≡◌, refl, sym, ap, ◌∙◌, subst}
use mathlib.Core.Bool.{Bool, true, false, not}
use Prim.Native.Nat.{ℕ, zero, suc, ◌+◌}
use native.Mathlib.Omega.{arith}
use lib.Dec.{T}
use lib.IntN.{ℤ, pos, negsuc, neg_ℤ, nat_abs, ◌+ℤ◌, ◌-ℤ◌, +ℤ_assoc, +ℤ_comm, +ℤ_idl, +ℤ_idr, +ℤ_invl, -ℤ-+ℤ_cancel}
use lib.Signed.{lt_z, ◌≤ℤ◌, ◌<ℤ◌, lt_z_yes, lt_z_no, <ℤ_irrefl, clash_ℤ}
use Rattle.integer.proofs.Order.{le-plus, lt-plus}

-- ---- the tests

test_true : (b : Bool) → T b → b ≡ true
test_true true t = refl
test_true false t = absurd t

true_test : {b : Bool} → b ≡ true → T b
true_test e = subst T (sym e) tt

false_test : {b : Bool} → b ≡ false → T (not b)
false_test e = subst (λ (b : Bool). T (not b)) (sym e) tt

pub less_of : (a b : ℤ) → lt_z a b ≡ true → a <ℤ b
less_of a b e = lt_z_yes {a = a} {b = b} (true_test e)

pub least_of : (a b : ℤ) → lt_z a b ≡ false → b ≤ℤ a
least_of a b e = lt_z_no {a = a} {b = b} (false_test e)

pub of_less : (a b : ℤ) → a <ℤ b → lt_z a b ≡ true
of_less a b h = test_true (lt_z a b) h.lt

-- ---- sums

-- a + b + c and a + c + b
pub swap : (a b c : ℤ) → a +ℤ b +ℤ c ≡ a +ℤ c +ℤ b
swap a b c = +ℤ_assoc a b c ∙ ap (λ (x : ℤ). a +ℤ x) (+ℤ_comm b c) ∙ sym (+ℤ_assoc a c b)

pub cancel : (a b c : ℤ) → a +ℤ b ≡ a +ℤ c → b ≡ c
cancel a b c e =
    let back : (x : ℤ) → neg_ℤ a +ℤ (a +ℤ x) ≡ x = λ x. sym (+ℤ_assoc (neg_ℤ a) a x) ∙ ap (λ (y : ℤ). y +ℤ x) (+ℤ_invl a) ∙ +ℤ_idl x in
    sym (back b) ∙ ap (λ (x : ℤ). neg_ℤ a +ℤ x) e ∙ back c

pub pos_injective : (m n : ℕ) → pos m ≡ pos n → m ≡ n
pos_injective m n e = ap nat_abs e

-- ---- how far b lies beyond a

apart : (a b : ℤ) → b ≡ a +ℤ (b -ℤ a)
apart a b = sym (-ℤ-+ℤ_cancel b a) ∙ +ℤ_comm (b -ℤ a) a

-- a number below a is a less something
below : (a b : ℤ) (n : ℕ) → b ≡ a +ℤ negsuc n → b <ℤ a
below a b n e =
    subst (λ (x : ℤ). b <ℤ x) (ap (λ (x : ℤ). x +ℤ pos (suc n)) e ∙ -ℤ-+ℤ_cancel a (pos (suc n))) (lt-plus b n)

pub le-far : (a b : ℤ) → a ≤ℤ b → (n : ℕ) × (b ≡ a +ℤ pos n)
le-far a b h = go (b -ℤ a) (apart a b)
  where
    go : (d : ℤ) → b ≡ a +ℤ d → (n : ℕ) × (b ≡ a +ℤ pos n)
    go (pos n) e = (n, e)
    go (negsuc n) e = clash_ℤ (below a b n e) h

pub lt-far : (a b : ℤ) → a <ℤ b → (n : ℕ) × (b ≡ a +ℤ pos (suc n))
lt-far a b h = go (b -ℤ a) (apart a b)
  where
    go : (d : ℤ) → b ≡ a +ℤ d → (n : ℕ) × (b ≡ a +ℤ pos (suc n))
    go (pos zero) e = absurd (<ℤ_irrefl (subst (λ (x : ℤ). a <ℤ x) (e ∙ +ℤ_idr a) h))
    go (pos (suc n)) e = (n, e)
    go (negsuc n) e = clash_ℤ h (subst (λ (x : ℤ). b ≤ℤ x) (sym (back n e)) (le-plus b (suc n)))
      where
        back : (n : ℕ) → b ≡ a +ℤ negsuc n → a ≡ b +ℤ pos (suc n)
        back n e = sym (ap (λ (x : ℤ). x +ℤ pos (suc n)) e ∙ -ℤ-+ℤ_cancel a (pos (suc n)))

-- ---- what a sum does to an order

pub le-add : (a b c : ℤ) → a ≤ℤ b → (a +ℤ c) ≤ℤ (b +ℤ c)
le-add a b c h =
    let d = le-far a b h in
    subst (λ (x : ℤ). (a +ℤ c) ≤ℤ x) (sym (ap (λ (x : ℤ). x +ℤ c) d.1 ∙ swap a (pos d.0) c)) (le-plus (a +ℤ c) d.0)

pub lt-add : (a b c : ℤ) → a <ℤ b → (a +ℤ c) <ℤ (b +ℤ c)
lt-add a b c h =
    let d = lt-far a b h in
    subst (λ (x : ℤ). (a +ℤ c) <ℤ x) (sym (ap (λ (x : ℤ). x +ℤ c) d.1 ∙ swap a (pos (suc d.0)) c)) (lt-plus (a +ℤ c) d.0)

pub le_trans : (a b c : ℤ) → a ≤ℤ b → b ≤ℤ c → a ≤ℤ c
le_trans a b c h k =
    let d = le-far a b h in
    let f = le-far b c k in
    subst (λ (x : ℤ). a ≤ℤ x) (sym (f.1 ∙ ap (λ (x : ℤ). x +ℤ pos f.0) d.1 ∙ +ℤ_assoc a (pos d.0) (pos f.0)))
    (le-plus a (d.0 + f.0))

pub le_lt_trans : (a b c : ℤ) → a ≤ℤ b → b <ℤ c → a <ℤ c
le_lt_trans a b c h k =
    let d = le-far a b h in
    let f = lt-far b c k in
    let e : d.0 + suc f.0 ≡ suc (d.0 + f.0) = omega arith in
    subst (λ (x : ℤ). a <ℤ x)
    (sym (f.1 ∙ ap (λ (x : ℤ). x +ℤ pos (suc f.0)) d.1 ∙ +ℤ_assoc a (pos d.0) (pos (suc f.0)) ∙ ap (λ (n : ℕ). a +ℤ pos n) e))
    (lt-plus a (d.0 + f.0))

pub lt_trans : (a b c : ℤ) → a <ℤ b → b <ℤ c → a <ℤ c
lt_trans a b c h k =
    let d = lt-far a b h in
    le_lt_trans a b c (subst (λ (x : ℤ). a ≤ℤ x) (sym d.1) (le-plus a (suc d.0))) k

-- less something is less
pub less_by : (a : ℤ) (n : ℕ) → (a +ℤ negsuc n) <ℤ a
less_by a n = below a (a +ℤ negsuc n) n refl
