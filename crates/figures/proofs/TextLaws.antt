-- A text's parts as the code finds them: the byte at the front of a slice, and the slice behind it. Assumes nothing.
use Rattle.std.proofs.Common.{◌≡◌, ℕ, zero, suc, ◌+◌, ◌-◌, ◌*◌, ◌%◌, ◌^◌, ◌<◌, ◌≤◌, Bool, true, false, cond, ◌&&◌, ◌||◌, eqb, ltb, leb, List, [], ◌∷◌, length, get_or, take, drop, Option, Some, None, sym, refl, ap, ◌∙◌, le_of_eq, length-drop, take_all, mod-eq_of_lt, arith, leb-true}
use Rattle.std.specs.List.{prefix_len}
use Rattle.std.proofs.lemmas.Bool.Decides.{nat_tests}
use Rattle.choices.proofs.Choices.{by_bool, and_left}
use lib.Dec.{eqb-suc-zero}
use Rattle.figures.specs.Texts.{first, rest, is_empty, blank, drop_blanks, only_blanks, is_minus, behind_sign, digit, digit_in, digits, after_digits, value_from, zeros}

-- ---- the first byte and the rest

pub first-is : (l : List ℕ) → get_or l 0 0 ≡ first l
unfolding first
first-is [] = refl
first-is (b ∷ l) = refl

pub second-is : (l : List ℕ) → get_or l 1 0 ≡ first (rest l)
unfolding first rest
second-is [] = refl
second-is (b ∷ []) = refl
second-is (b ∷ c ∷ l) = refl

rest-drop : (l : List ℕ) → rest l ≡ drop 1 l
unfolding rest
rest-drop [] = refl
rest-drop (b ∷ l) = refl

-- what a slice's pattern leaves behind the first byte, and behind the first two
abbrev pub behind : ℕ → List ℕ → List ℕ
behind n l = take (length l - n) (drop n l)

behind-is : (n : ℕ) (l : List ℕ) → behind n l ≡ drop n l
behind-is n l = take_all (length l - n) (drop n l) (le_of_eq (length-drop n l))

pub rest-is : (l : List ℕ) → behind 1 l ≡ rest l
rest-is l = behind-is 1 l ∙ sym (rest-drop l)

pub rest-twice : (l : List ℕ) → behind 2 l ≡ rest (rest l)
unfolding rest
rest-twice [] = behind-is 2 []
rest-twice (b ∷ []) = behind-is 2 (b ∷ [])
rest-twice (b ∷ c ∷ l) = behind-is 2 (b ∷ c ∷ l)

pub shorter : (n : ℕ) (l : List ℕ) → length (behind n l) ≡ length l - n
shorter n l = ap length (behind-is n l) ∙ length-drop n l

pub empty-length : (l : List ℕ) → is_empty l ≡ eqb (length l) 0
unfolding is_empty
empty-length [] = refl
empty-length (b ∷ l) = sym (eqb-suc-zero (length l))

-- ---- blanks

pub blanks-counted : (l : List ℕ) → drop (prefix_len blank l) l ≡ drop_blanks l
unfolding drop_blanks
blanks-counted [] = refl
blanks-counted (b ∷ l) = by_bool (blank b) (λ h. rw (h, one-more (prefix_len blank l)) (blanks-counted l)) (λ h. rw h)
  where
    one-more : (n : ℕ) → 1 + n ≡ suc n
    one-more n = omega arith

pub blanks-none : (l r : List ℕ) → r ≡ drop_blanks l → eqb (length r) 0 ≡ only_blanks l
unfolding only_blanks
blanks-none l r e = sym (empty-length r) ∙ ap is_empty e

pub blanks-fit : (l : List ℕ) → length (drop_blanks l) ≤ length l
blanks-fit l = rw (← blanks-counted l, length-drop (prefix_len blank l) l) (omega arith)

-- ---- the sign

pub by_sign : {X : Type 0} (f : Bool → List ℕ → X) (l : List ℕ)
    → cond (eqb (first l) 45) (f true (rest l)) (cond (eqb (first l) 43) (f false (rest l)) (f false l)) ≡ f (is_minus l) (behind_sign l)
by_sign f l =
    rw (← first-is l, rest-drop l)
    (by_bool (eqb (get_or l 0 0) 45) (λ h. rw h) (λ h. by_bool (eqb (get_or l 0 0) 43) (λ k. rw (h, k)) (λ k. rw (h, k))))

pub sign-fits : (l : List ℕ) → length (behind_sign l) ≤ length l
sign-fits l = by_bool (eqb (get_or l 0 0) 45 || eqb (get_or l 0 0) 43) (λ h. rw (h, length-drop 1 l) (omega arith)) (λ h. rw h (omega arith))

-- ---- digits

pub at_least : (n b last : ℕ) → leb n b && leb b last ≡ true → n ≤ b
at_least n b last h = leb-true n b (and_left (leb n b) (leb b last) h)

pub digits-next : (base : ℕ) (l : List ℕ) (c : ℕ) → 1 ≤ length l → digit_in base (get_or l 0 0) ≡ Some c
    → (digits base l ≡ c ∷ digits base (behind 1 l)) × (after_digits base l ≡ after_digits base (behind 1 l))
unfolding digits after_digits rest
digits-next base [] c h e = absurd (omega arith)
digits-next base (b ∷ r) c h e =
    rw (rest-is (b ∷ r))
    (by_bool (ltb (digit b) base) (λ t. let k : Some (digit b) ≡ Some c = rw t at e in rw t ((cc), refl)) (λ t. let k : ◌≡◌ {A = Option ℕ} None (Some c) = rw t at e in absurd (cc)))

pub digits-stop : (base : ℕ) (l : List ℕ) → 1 ≤ length l → digit_in base (get_or l 0 0) ≡ None → (digits base l ≡ []) × (after_digits base l ≡ l)
unfolding digits after_digits
digits-stop base [] h e = absurd (omega arith)
digits-stop base (b ∷ r) h e =
    by_bool (ltb (digit b) base) (λ t. let k : Some (digit b) ≡ None = rw t at e in absurd (cc)) (λ t. rw t (refl, refl))

pub digits-end : (base : ℕ) (l : List ℕ) → length l < 1 → (digits base l ≡ []) × (after_digits base l ≡ l)
unfolding digits after_digits
digits-end base [] h = (refl, refl)
digits-end base (b ∷ r) h = absurd (omega arith)

-- a hexadecimal value modulo 2 ^ 64

mod_step : (a b c : ℕ) → a % 2 ^ 64 ≡ b % 2 ^ 64 → (a * 16 + c) % 2 ^ 64 ≡ (b * 16 + c) % 2 ^ 64
mod_step a b c e = omega arith

value_mod : (a b : ℕ) (ds : List ℕ) → a % 2 ^ 64 ≡ b % 2 ^ 64 → value_from 16 a ds % 2 ^ 64 ≡ value_from 16 b ds % 2 ^ 64
unfolding value_from
value_mod a b [] e = e
value_mod a b (c ∷ ds) e = value_mod (a * 16 + c) (b * 16 + c) ds (mod_step a b c e)

pub hex-value-next : (v w c : ℕ) (l r : List ℕ) → l ≡ c ∷ r → w % 2 ^ 64 ≡ (v * 16 + c) % 2 ^ 64 → value_from 16 w r % 2 ^ 64 ≡ value_from 16 v l % 2 ^ 64
unfolding value_from
hex-value-next v w c l r e h = rw e (value_mod w (v * 16 + c) r h)

pub hex-value-end : (v : ℕ) (l : List ℕ) → l ≡ [] → v < 2 ^ 64 → v ≡ value_from 16 v l % 2 ^ 64
unfolding value_from
hex-value-end v l e h = rw e (sym (mod-eq_of_lt h))

pub digits-fit : (base : ℕ) (l : List ℕ) → length (digits base l) + length (after_digits base l) ≡ length l
unfolding digits after_digits
digits-fit base [] = refl
digits-fit base (b ∷ l) = by_bool (ltb (digit b) base) (λ t. rw t (omega (arith, digits-fit base l))) (λ t. rw t (omega arith))

pub zeros-fit : (z : ℕ) (ds : List ℕ) → zeros z ds ≤ z + length ds
unfolding zeros
zeros-fit z [] = omega arith
zeros-fit z (zero ∷ ds) = let h = zeros-fit (suc z) ds in omega arith
zeros-fit z (suc c ∷ ds) = let h = zeros-fit 0 ds in omega arith

-- ---- what each function is checked with

-- a slice's pattern as the definitions have it
pub ruleset fronts = (first-is, second-is, rest-is, rest-twice, nat_tests)

pub ruleset blank_terms = (blanks-none, nat_tests)

pub ruleset digit_steps = (digits-next, digits-stop, digits-end, shorter)

pub ruleset hex_steps = (digit_steps, hex-value-next, hex-value-end)
