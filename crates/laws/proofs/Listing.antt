-- The list of chunk numbers by itself: there is one for every start, limit and step other than 0; how many numbers it has, which, in order, each once. Assumes nothing.
use mathlib.Core.Path.{◌≡◌, refl, sym, ap, ◌∙◌, subst}
use mathlib.Core.Bool.{true, false}
use mathlib.Core.List.{List, [], ◌∷◌}
use Prim.Native.Nat.{ℕ, zero, suc, ◌+◌, ◌-◌, ◌*◌, ◌<◌}
use native.Mathlib.Omega.{arith}
use native.Mathlib.Nat.{div-eq_of_lt, mul-suc}
use borrow.Author.Tests.{le-ltb, lt-ltb}
use lib.ListN.{length, get_or}
use lib.IntN.{ℤ, pos, negsuc, neg_ℤ, ◌+ℤ◌, ◌-ℤ◌, ◌*ℤ◌, +ℤ_assoc, +ℤ_comm, +ℤ_idr, +ℤ-neg_ℤ_cancel, -ℤ-+ℤ_cancel, neg_ℤ-+ℤ, suc_ℤ-*ℤ, zero-*ℤ}
use lib.Signed.{lt_z, ◌≤ℤ◌, ◌<ℤ◌, <ℤ_irrefl}
use Rattle.choices.proofs.Choices.{by_bool, by_order}
use Rattle.integer.specs.Floor.{floor_q}
use Rattle.integer.proofs.Order.{lt-plus, minus-self-plus, times_more}
use Rattle.integer.proofs.FloorLaws.{floor-positive, floor-positive-only, floor-negative, floor-negative-only}
use Rattle.constant.specs.declared.Value.{Value}
use Rattle.constant.specs.declared.Value.TheVariants.{Nil, Boolean, Integer, Number, String, Function}
use Rattle.laws.specs.Chunks.{is_past, Chunks, no_chunk, next_chunk, NotZero, is_further, chunk_at, how_many, ClosedForm}
use Rattle.laws.proofs.Whole.{less_of, least_of, of_less, swap, cancel, pos_injective, le-far, lt-far, le-add, lt-add, less_by}

-- ---- past the limit, by the step's sign

pub past_up : (limit x : ℤ) (d : ℕ) → is_past limit (pos d) x ≡ lt_z limit x
past_up limit x d = rw (le-ltb d 0 (omega arith))

-- ---- how far the limit lies ahead of x

abbrev Ahead : ℤ → ℤ → ℤ → ℕ → Type 0
Ahead limit (pos d) x n = limit ≡ x +ℤ pos n
Ahead limit (negsuc d) x n = x ≡ limit +ℤ pos n

ahead : (limit step x : ℤ) → is_past limit step x ≡ false → (n : ℕ) × Ahead limit step x n
ahead limit (pos d) x e = le-far x limit (least_of limit x (sym (past_up limit x d) ∙ e))
ahead limit (negsuc d) x e = le-far limit x (least_of x limit e)

-- a step further it is less
ahead-less :
    (limit step x : ℤ) (n m : ℕ) → NotZero limit step → Ahead limit step x n → Ahead limit step (x +ℤ step) m → m < n
ahead-less limit (pos zero) x n m z h k = absurd (z refl)
ahead-less limit (pos (suc d)) x n m z h k =
    let e : n ≡ suc d + m = pos_injective n (suc d + m) (cancel x (pos n) (pos (suc d + m)) (sym h ∙ k ∙ +ℤ_assoc x (pos (suc d)) (pos m))) in
    omega arith
ahead-less limit (negsuc d) x n m z h k =
    let back : x ≡ limit +ℤ pos m +ℤ pos (suc d) = sym (-ℤ-+ℤ_cancel x (pos (suc d))) ∙ ap (λ (y : ℤ). y +ℤ pos (suc d)) k in
    let e : n ≡ m + suc d = pos_injective n (m + suc d) (cancel limit (pos n) (pos (m + suc d)) (sym h ∙ back ∙ +ℤ_assoc limit (pos m) (pos (suc d)))) in
    omega arith

-- ---- there is a list

module _ (limit step : ℤ) (nonzero : NotZero limit step) where
  listed-on : (fuel : ℕ) (x : ℤ) (n : ℕ) → n < fuel → is_past limit step x ≡ false → Ahead limit step x n → (xs : List Value) × Chunks limit step x xs
  listed-on zero x n l p h = absurd (omega arith)
  listed-on (suc fuel) x n l p h =
      by_bool (is_past limit step (x +ℤ step)) (λ q. (Integer x ∷ [], next_chunk p (no_chunk q)))
      (λ q. let a = ahead limit step (x +ℤ step) q in
      let less : a.0 < n = ahead-less limit step x n a.0 nonzero h a.1 in
      let rest = listed-on fuel (x +ℤ step) a.0 (omega arith) q a.1 in
      (Integer x ∷ rest.0, next_chunk p rest.1))

  pub listed : (x : ℤ) → (xs : List Value) × Chunks limit step x xs
  listed x =
      by_bool (is_past limit step x) (λ q. ([], no_chunk q))
      (λ q. let a = ahead limit step x q in
      let l : a.0 < suc a.0 = omega arith in
      listed-on (suc a.0) x a.0 l q a.1)

-- ---- how many

-- floor division of a number that is one divisor larger
floor-more : (a b : ℤ) → (b ≡ pos 0 → ⊥) → floor_q a b ≡ floor_q (a -ℤ b) b +ℤ pos 1
floor-more a (pos zero) z = absurd (z refl)
floor-more a (pos (suc d)) z =
    let b : ℤ = pos (suc d) in
    let q : ℤ = floor_q (a -ℤ b) b in
    let up : pos 0 <ℤ b = less_of (pos 0) b (lt-ltb 0 (suc d) (omega arith)) in
    let f = floor-positive (a -ℤ b) b up in
    let low = le-add (b *ℤ q) (a -ℤ b) b f.0 in
    let high = lt-add (a -ℤ b) (b *ℤ (q +ℤ pos 1)) b f.1 in
    sym
    (floor-positive-only a b (q +ℤ pos 1) up
    (subst (λ (x : ℤ). (b *ℤ (q +ℤ pos 1)) ≤ℤ x) (-ℤ-+ℤ_cancel a b) (subst (λ (x : ℤ). x ≤ℤ (a -ℤ b +ℤ b)) (sym (times_more b q)) low))
    (subst (λ (x : ℤ). a <ℤ x) (sym (times_more b (q +ℤ pos 1))) (subst (λ (x : ℤ). x <ℤ (b *ℤ (q +ℤ pos 1) +ℤ b)) (-ℤ-+ℤ_cancel a b) high)))
floor-more a (negsuc d) z =
    let b : ℤ = negsuc d in
    let q : ℤ = floor_q (a -ℤ b) b in
    let down : b <ℤ pos 0 = less_of b (pos 0) refl in
    let f = floor-negative (a -ℤ b) b down in
    let low = lt-add (b *ℤ (q +ℤ pos 1)) (a -ℤ b) b f.0 in
    let high = le-add (a -ℤ b) (b *ℤ q) b f.1 in
    sym
    (floor-negative-only a b (q +ℤ pos 1) down
    (subst (λ (x : ℤ). x <ℤ a) (sym (times_more b (q +ℤ pos 1))) (subst (λ (x : ℤ). (b *ℤ (q +ℤ pos 1) +ℤ b) <ℤ x) (-ℤ-+ℤ_cancel a b) low))
    (subst (λ (x : ℤ). a ≤ℤ x) (sym (times_more b q)) (subst (λ (x : ℤ). x ≤ℤ (b *ℤ q +ℤ b)) (-ℤ-+ℤ_cancel a b) high)))

-- of what is left where the next number is past the limit
quotient-down : (n d : ℕ) → n < suc d → floor_q (neg_ℤ (pos n)) (negsuc d) ≡ pos 0
quotient-down zero d h = let e : 0 + d < suc d = omega arith in ap (λ (x : ℕ). neg_ℤ (pos x)) (div-eq_of_lt e)
quotient-down (suc n) d h = ap pos (div-eq_of_lt h)

-- numbers that lie n and m beyond the same one
closer : (a : ℤ) (n m : ℕ) → (a +ℤ pos n) <ℤ (a +ℤ pos m) → n < m
closer a n m h =
    let f = lt-far (a +ℤ pos n) (a +ℤ pos m) h in
    let e : m ≡ n + suc f.0 = pos_injective m (n + suc f.0) (cancel a (pos m) (pos (n + suc f.0)) (f.1 ∙ +ℤ_assoc a (pos n) (pos (suc f.0)))) in
    omega arith

floor-last :
    (limit step x : ℤ) → is_past limit step x ≡ false → is_past limit step (x +ℤ step) ≡ true
    → floor_q (limit -ℤ x) step ≡ pos 0
floor-last limit (pos d) x p q =
    let a = le-far x limit (least_of limit x (sym (past_up limit x d) ∙ p)) in
    let gap : limit -ℤ x ≡ pos a.0 = ap (λ (y : ℤ). y -ℤ x) (a.1 ∙ +ℤ_comm x (pos a.0)) ∙ +ℤ-neg_ℤ_cancel (pos a.0) x in
    let l : limit <ℤ (x +ℤ pos d) = less_of limit (x +ℤ pos d) (sym (past_up limit (x +ℤ pos d) d) ∙ q) in
    let less : a.0 < d = closer x a.0 d (subst (λ (y : ℤ). y <ℤ (x +ℤ pos d)) a.1 l) in
    ap (λ (y : ℤ). floor_q y (pos d)) gap ∙ ap pos (div-eq_of_lt less)
floor-last limit (negsuc d) x p q =
    let a = le-far limit x (least_of x limit p) in
    let gap : limit -ℤ x ≡ neg_ℤ (pos a.0) = ap (λ (y : ℤ). limit -ℤ y) a.1 ∙ minus-self-plus limit (pos a.0) in
    let l : (x +ℤ negsuc d) <ℤ limit = less_of (x +ℤ negsuc d) limit q in
    let up : x <ℤ (limit +ℤ pos (suc d)) = subst (λ (y : ℤ). y <ℤ (limit +ℤ pos (suc d))) (-ℤ-+ℤ_cancel x (pos (suc d))) (lt-add (x +ℤ negsuc d) limit (pos (suc d)) l) in
    let less : a.0 < suc d = closer limit a.0 (suc d) (subst (λ (y : ℤ). y <ℤ (limit +ℤ pos (suc d))) a.1 up) in
    ap (λ (y : ℤ). floor_q y (negsuc d)) gap ∙ quotient-down a.0 d less

module _ (limit step : ℤ) (nonzero : NotZero limit step) where
  -- limit - (x + step) is a step less than limit - x
  nearer : (x : ℤ) → limit -ℤ x -ℤ step ≡ limit -ℤ (x +ℤ step)
  nearer x = +ℤ_assoc limit (neg_ℤ x) (neg_ℤ step) ∙ ap (λ (y : ℤ). limit +ℤ y) (sym (neg_ℤ-+ℤ x step))

  counts : (x : ℤ) → is_past limit step x ≡ false → floor_q (limit -ℤ x) step ≡ how_many (x +ℤ step) limit step
  counts x p =
      by_bool (is_past limit step (x +ℤ step)) (λ q. rw q (floor-last limit step x p q))
      (λ q. rw q (floor-more (limit -ℤ x) step nonzero ∙ ap (λ (y : ℤ). floor_q y step +ℤ pos 1) (nearer x)))

  pub how-many : {x : ℤ} {xs : List Value} → Chunks limit step x xs → pos (length xs) ≡ how_many x limit step
  how-many (no_chunk q) = rw q
  how-many {x = x} {xs = xs} (next_chunk {xs = rest} p c) =
      let e : length rest + 1 ≡ suc (length rest) = omega arith in
      rw p (ap pos (sym e) ∙ ap (λ (y : ℤ). y +ℤ pos 1) (how-many c ∙ sym (counts x p)))

  -- ---- which

  number-next : (x : ℤ) (i : ℕ) → chunk_at (x +ℤ step) step i ≡ chunk_at x step (suc i)
  number-next x i =
      swap x step (pos i *ℤ step) ∙ +ℤ_assoc x (pos i *ℤ step) step ∙ ap (λ (y : ℤ). x +ℤ y) (sym (suc_ℤ-*ℤ (pos i) step))

  number-first : (x : ℤ) → x ≡ chunk_at x step 0
  number-first x = sym (ap (λ (y : ℤ). x +ℤ y) (zero-*ℤ step) ∙ +ℤ_idr x)

  each-is : {x : ℤ} {xs : List Value} → Chunks limit step x xs → (i : ℕ) → i < length xs → get_or xs i Nil ≡ Integer (chunk_at x step i)
  each-is (no_chunk q) i h = absurd (omega arith)
  each-is {x = x} (next_chunk p c) zero h = ap Integer (number-first x)
  each-is {x = x} (next_chunk {xs = rest} p c) (suc i) h =
      let l : i < length rest = omega arith in
      each-is c i l ∙ ap Integer (number-next x i)

  not_past : {x : ℤ} {xs : List Value} → Chunks limit step x xs → (i : ℕ) → i < length xs → is_past limit step (chunk_at x step i) ≡ false
  not_past (no_chunk q) i h = absurd (omega arith)
  not_past {x = x} (next_chunk p c) zero h = subst (λ (y : ℤ). is_past limit step y ≡ false) (number-first x) p
  not_past {x = x} (next_chunk {xs = rest} p c) (suc i) h =
      let l : i < length rest = omega arith in
      subst (λ (y : ℤ). is_past limit step y ≡ false) (number-next x i) (not_past c i l)

-- ---- in order

some-steps : (m d : ℕ) → suc m * suc d ≡ suc (suc m * d + m)
some-steps m d = mul-suc (suc m) d ∙ omega arith

-- a number that is some steps on is further on
further : (step y : ℤ) (m : ℕ) → (step ≡ pos 0 → ⊥) → is_further step y (y +ℤ pos (suc m) *ℤ step) ≡ true
further (pos zero) y m z = absurd (z refl)
further (pos (suc d)) y m z =
    rw (le-ltb (suc d) 0 (omega arith))
    (subst (λ (k : ℕ). lt_z y (y +ℤ pos k) ≡ true) (sym (some-steps m d)) (of_less y (y +ℤ pos (suc (suc m * d + m))) (lt-plus y (suc m * d + m))))
further (negsuc d) y m z =
    subst (λ (k : ℕ). lt_z (y +ℤ neg_ℤ (pos k)) y ≡ true) (sym (some-steps m d)) (of_less (y +ℤ negsuc (suc m * d + m)) y (less_by y (suc m * d + m)))

-- i + m steps are i steps and m steps
number-plus : (x step : ℤ) (i m : ℕ) → chunk_at x step (i + m) ≡ chunk_at x step i +ℤ pos m *ℤ step
number-plus x step i zero =
    let e : i + 0 ≡ i = omega arith in
    rw e (sym (ap (λ (y : ℤ). chunk_at x step i +ℤ y) (zero-*ℤ step) ∙ +ℤ_idr (chunk_at x step i)))
number-plus x step i (suc m) =
    let e : i + suc m ≡ suc (i + m) = omega arith in
    ap (λ (k : ℕ). chunk_at x step k) e
    ∙ ap (λ (y : ℤ). x +ℤ y) (suc_ℤ-*ℤ (pos (i + m)) step)
    ∙ sym (+ℤ_assoc x (pos (i + m) *ℤ step) step)
    ∙ ap (λ (y : ℤ). y +ℤ step) (number-plus x step i m)
    ∙ +ℤ_assoc (chunk_at x step i) (pos m *ℤ step) step
    ∙ ap (λ (y : ℤ). chunk_at x step i +ℤ y) (sym (suc_ℤ-*ℤ (pos m) step))

in_order : (x step : ℤ) → (step ≡ pos 0 → ⊥) → (i j : ℕ) → i < j → is_further step (chunk_at x step i) (chunk_at x step j) ≡ true
in_order x step z i j h =
    let e : j ≡ i + suc (j - suc i) = omega arith in
    subst (λ (y : ℤ). is_further step (chunk_at x step i) y ≡ true) (sym (ap (chunk_at x step) e ∙ number-plus x step i (suc (j - suc i))))
    (further step (chunk_at x step i) (j - suc i) z)

-- ---- each once

integer_in : Value → ℤ
integer_in Nil = pos 0
integer_in (Boolean b) = pos 0
integer_in (Integer x) = x
integer_in (Number x) = pos 0
integer_in (String n) = pos 0
integer_in (Function n) = pos 0

same-integer : (x y : ℤ) → Integer x ≡ Integer y → x ≡ y
unfolding integer_in
same-integer x y e = ap integer_in e

no-further : (step y : ℤ) → is_further step y y ≡ true → ⊥
no-further (pos d) y e = <ℤ_irrefl (less_of y y (sym (past_up y y d) ∙ e))
no-further (negsuc d) y e = <ℤ_irrefl (less_of y y e)

-- numbers of which the one is further on are two
apart : (step x y : ℤ) → is_further step x y ≡ true → x ≡ y → ⊥
apart step x y e s = no-further step x (subst (λ (z : ℤ). is_further step x z ≡ true) (sym s) e)

pub closed-form : ClosedForm
closed-form start limit step xs nonzero c =
    let is = each-is limit step nonzero c in
    let go = in_order start step nonzero in
    record {
      many = how-many limit step nonzero c;
      each = is;
      within = not_past limit step nonzero c;
      order = go;
      once = (λ i j h k e.
          let s : chunk_at start step i ≡ chunk_at start step j =
          same-integer (chunk_at start step i) (chunk_at start step j) (sym (is i h) ∙ e ∙ is j k) in
          by_order i j
          (λ l. by_order j i (λ m. omega arith) (λ m. absurd (apart step (chunk_at start step i) (chunk_at start step j) (go i j m) s)))
          (λ l. absurd (apart step (chunk_at start step j) (chunk_at start step i) (go j i l) (sym s))));
    }
