-- The grammar's blanks and digits against the functions of `Texts`: a run at the head of a text is what they find there, and what they find is a run.
-- Assumes nothing.
use Rattle.std.proofs.Common.{◌≡◌, ℕ, ◌+◌, ◌-◌, ◌<◌, ◌≤◌, Bool, true, false, cond, ◌&&◌, ◌||◌, eqb, ltb, leb, ◌⊎◌, List, [], ◌∷◌, ◌++◌, length, sym, refl, ap, ◌∙◌, inl, inr, true≢false, zero-add, arith, ltb-true, le-ltb, lt-ltb, ne_eqb, eqb-true, le-leb, leb-true}
use mathlib.Core.Bool.{false≢true}
use borrow.Author.Tests.{lt-leb}
use Rattle.choices.proofs.Choices.{by_bool, cond_cases, and_right, and-fails}
use Rattle.figures.specs.Texts.{first, rest, is_empty, blank, drop_blanks, only_blanks, is_x, is_e, digit, digits, after_digits}
use Rattle.figures.specs.Grammar.{Blanks, no_blank, next_blank, DigitByte, from_0_to_9, from_lower, from_upper, DigitRun, no_digit, next_digit}
use Rattle.figures.proofs.TextLaws.{at_least}
use Rattle.figures.proofs.DigitLaws.{Small, end, on}

-- ---- bytes

is-blank-low : (b : ℕ) → blank b ≡ true → b < 33
is-blank-low b h =
    by_bool (leb 9 b && leb b 13) (λ k. let m : b ≤ 13 = leb-true b 13 (and_right (leb 9 b) (leb b 13) k) in omega arith)
    (λ k. let m : b ≡ 32 = eqb-true b 32 (ap (λ (y : Bool). y || eqb b 32) (sym k) ∙ h) in omega arith)

pub no-blank-high : (b : ℕ) → 33 ≤ b → blank b ≡ false
no-blank-high b h = rw (and-fails (leb 9 b) (leb b 13) (lt-leb b 13 (omega arith)), ne_eqb b 32 (λ e. omega arith))

pub no-x : (b : ℕ) → b < 88 → is_x b ≡ false
no-x b h = rw (ne_eqb b 120 (λ e. omega arith), ne_eqb b 88 (λ e. omega arith))

pub no-e : (b : ℕ) → b < 69 → is_e b ≡ false
no-e b h = rw (ne_eqb b 101 (λ e. omega arith), ne_eqb b 69 (λ e. omega arith))

pub is-one_of : (b m n : ℕ) → eqb b m || eqb b n ≡ true → (b ≡ m) ⊎ (b ≡ n)
is-one_of b m n h = by_bool (eqb b m) (λ k. inl (eqb-true b m k)) (λ k. inr (eqb-true b n (ap (λ (y : Bool). y || eqb b n) (sym k) ∙ h)))

-- ---- digits

pub no-digit-low : (b : ℕ) → b < 48 → digit b ≡ 16
unfolding digit
no-digit-low b h = rw (lt-leb 48 b h, lt-leb 97 b (omega arith), lt-leb 65 b (omega arith))

-- from byte n on digits stand for m and more
off : (n m c : ℕ) → m ≤ n → n + c - (n - m) ≡ m + c
off n m c h = omega arith

digit_of : {b c : ℕ} → DigitByte b c → digit b ≡ c
unfolding digit
digit_of (from_0_to_9 {c = c} h) = rw (le-leb 48 (48 + c) (omega arith), le-leb (48 + c) 57 (omega arith)) (off 48 0 c (omega arith) ∙ zero-add c)
digit_of (from_lower {c = c} h) =
    rw (le-leb 48 (97 + c) (omega arith), lt-leb (97 + c) 57 (omega arith), le-leb 97 (97 + c) (omega arith), le-leb (97 + c) 102 (omega arith)) (off 97 10 c (omega arith))
digit_of (from_upper {c = c} h) =
    rw (le-leb 48 (65 + c) (omega arith), lt-leb (65 + c) 57 (omega arith), lt-leb 97 (65 + c) (omega arith), le-leb 65 (65 + c) (omega arith), le-leb (65 + c) 70 (omega arith))
    (off 65 10 c (omega arith))

pub decimal-range : {b c : ℕ} → DigitByte b c → c < 10 → (48 ≤ b) × (b ≤ 57)
decimal-range (from_0_to_9 h) k = (omega arith, omega arith)
decimal-range (from_lower h) k = absurd (omega arith)
decimal-range (from_upper h) k = absurd (omega arith)

-- the bytes from n to last, which stand for m and more
among : (n m last b : ℕ) → m ≤ n → leb n b && leb b last ≡ true → ((c : ℕ) → n + c ≤ last → DigitByte (n + c) (m + c)) → DigitByte b (b - (n - m))
among n m last b h k make = rw (back b n low, sym (off n m (b - n) h) ∙ ap (λ (x : ℕ). x - (n - m)) (back b n low)) at (make (b - n) (omega (arith, low, high)))
  where
    low : n ≤ b
    low = at_least n b last k

    high : b ≤ last
    high = leb-true b last (and_right (leb n b) (leb b last) k)

    back : (b n : ℕ) → n ≤ b → n + (b - n) ≡ b
    back b n h = omega arith

digit-byte : (b : ℕ) → digit b < 16 → DigitByte b (digit b)
unfolding digit
digit-byte b =
    cond_cases Found (leb 48 b && leb b 57) (b - 48) (cond (leb 97 b && leb b 102) (b - 87) (cond (leb 65 b && leb b 70) (b - 55) 16))
    (λ h _. among 48 0 57 b (omega arith) h (λ c k. rw (zero-add c) (from_0_to_9 {c = c} (omega arith))))
    (λ _. cond_cases Found (leb 97 b && leb b 102) (b - 87) (cond (leb 65 b && leb b 70) (b - 55) 16) (λ h _. among 97 10 102 b (omega arith) h (λ c k. from_lower {c = c} (omega arith)))
    (λ _. cond_cases Found (leb 65 b && leb b 70) (b - 55) 16 (λ h _. among 65 10 70 b (omega arith) h (λ c k. from_upper {c = c} (omega arith))) (λ _ h. absurd (omega arith))))
  where
    Found : ℕ → Type 0
    Found d = d < 16 → DigitByte b d

-- ---- lists

pub not-empty : (ds : List ℕ) → 1 ≤ length ds → is_empty ds ≡ false
unfolding is_empty
not-empty [] h = absurd (omega arith)
not-empty (c ∷ ds) h = refl

pub some-digit : (ds : List ℕ) → is_empty ds ≡ false → 1 ≤ length ds
unfolding is_empty
some-digit [] h = absurd (true≢false h)
some-digit (c ∷ ds) h = omega arith

pub begins : (r : List ℕ) (c : ℕ) → first r ≡ c → (c ≡ 0 → ⊥) → r ≡ c ∷ rest r
unfolding first rest
begins [] c h n = absurd (n (sym h))
begins (b ∷ r) c h n = ap (λ (y : ℕ). y ∷ r) h

-- ---- blanks

pub blanks-first : {u : List ℕ} → Blanks u → first u < 33
unfolding first
blanks-first no_blank = omega arith
blanks-first (next_blank {b = b} h r) = is-blank-low b h

pub blanks-only : {u : List ℕ} → Blanks u → only_blanks u ≡ true
unfolding only_blanks drop_blanks is_empty
blanks-only no_blank = refl
blanks-only (next_blank h r) = rw h (blanks-only r)

pub only-blanks : (u : List ℕ) → only_blanks u ≡ true → Blanks u
unfolding only_blanks drop_blanks is_empty
only-blanks [] h = no_blank
only-blanks (b ∷ u) h = by_bool (blank b) (λ k. next_blank k (only-blanks u (rw k at h))) (λ k. absurd (false≢true (rw k at h)))

pub blanks-drop : {t : List ℕ} → Blanks t → (u : List ℕ) → blank (first u) ≡ false → drop_blanks (t ++ u) ≡ u
unfolding drop_blanks first
blanks-drop no_blank [] h = refl
blanks-drop no_blank (b ∷ u) h = rw h
blanks-drop (next_blank k r) u h = rw k (blanks-drop r u h)

pub blanks-off : (t : List ℕ) → (p : List ℕ) × Blanks p × (t ≡ p ++ drop_blanks t)
unfolding drop_blanks
blanks-off [] = ([], no_blank, refl)
blanks-off (b ∷ t) = go (blank b) refl (blanks-off t)
  where
    go : (y : Bool) → blank b ≡ y → (p : List ℕ) × Blanks p × (t ≡ p ++ drop_blanks t) → (p : List ℕ) × Blanks p × (b ∷ t ≡ p ++ cond y (drop_blanks t) (b ∷ t))
    go true h i = (b ∷ i.0, next_blank h i.1, ap (λ (l : List ℕ). b ∷ l) i.2)
    go false h i = ([], no_blank, refl)

-- ---- runs of digits

pub run_small : {t ds : List ℕ} → DigitRun 10 t ds → Small ds
run_small no_digit = end
run_small (next_digit d k r) = on k (run_small r)

pub run-first : {t ds : List ℕ} → DigitRun 10 t ds → 1 ≤ length ds → (u : List ℕ) → (48 ≤ first (t ++ u)) × (first (t ++ u) ≤ 57)
unfolding first
run-first no_digit n u = absurd (omega arith)
run-first (next_digit d k r) n u = decimal-range d k

pub run-digits : (base : ℕ) {t ds : List ℕ} → DigitRun base t ds → (u : List ℕ) → base ≤ digit (first u) → digits base (t ++ u) ≡ ds
unfolding digits first
run-digits base no_digit [] h = refl
run-digits base no_digit (b ∷ u) h = rw (le-ltb (digit b) base h)
run-digits base (next_digit {c = c} d k r) u h = rw (digit_of d, lt-ltb c base k, run-digits base r u h)

pub run-after : (base : ℕ) {t ds : List ℕ} → DigitRun base t ds → (u : List ℕ) → base ≤ digit (first u) → after_digits base (t ++ u) ≡ u
unfolding after_digits first
run-after base no_digit [] h = refl
run-after base no_digit (b ∷ u) h = rw (le-ltb (digit b) base h)
run-after base (next_digit {c = c} d k r) u h = rw (digit_of d, lt-ltb c base k, run-after base r u h)

-- and every text begins with one
digits-off : (base : ℕ) → base ≤ 16 → (r : List ℕ) → (t : List ℕ) × DigitRun base t (digits base r) × (r ≡ t ++ after_digits base r)
unfolding digits after_digits
digits-off base B [] = ([], no_digit, refl)
digits-off base B (b ∷ r) = go (ltb (digit b) base) refl (digits-off base B r)
  where
    go : (y : Bool) → ltb (digit b) base ≡ y → (t : List ℕ) × DigitRun base t (digits base r) × (r ≡ t ++ after_digits base r)
        → (t : List ℕ) × DigitRun base t (cond y (digit b ∷ digits base r) []) × (b ∷ r ≡ t ++ cond y (after_digits base r) (b ∷ r))
    go true h i =
        let k : digit b < base = ltb-true (digit b) base h in
        (b ∷ i.0, next_digit (digit-byte b (omega arith)) k i.1, ap (λ (l : List ℕ). b ∷ l) i.2)
    go false h i = ([], no_digit, refl)

pub decimal-off : (r : List ℕ) → (t : List ℕ) × DigitRun 10 t (digits 10 r) × (r ≡ t ++ after_digits 10 r)
decimal-off = digits-off 10 (omega arith)

pub hex-off : (r : List ℕ) → (t : List ℕ) × DigitRun 16 t (digits 16 r) × (r ≡ t ++ after_digits 16 r)
hex-off = digits-off 16 (omega arith)
