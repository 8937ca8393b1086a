-- Laws of hexadecimal text: digits and pairs, read and written, come back. Assumes nothing.
use Prim.Native.Nat.{ℕ, zero, suc, ◌+◌, ◌-◌, ◌*◌, ◌/◌, ◌%◌, ◌^◌, ◌≤◌, ◌<◌}
use native.Mathlib.Omega.{arith}
use native.Mathlib.Nat.{add-zero}
use lib.Pow.{shr_lt}
use mathlib.Core.Path.{◌≡◌, refl, sym, ap, ap₂, ◌∙◌}
use mathlib.Core.List.{List, [], ◌∷◌, ◌++◌, append_assoc, append-nil}
use mathlib.Core.Bool.{true, false}
use lib.ListN.{length, get_or, drop, length-append}
use lib.Seq.{get_or-drop}
use lib.Dec.{eqb}
use borrow.Author.Tests.{ltb-true, le-leb, lt-leb, lt-ltb, le-ltb, ne_eqb}
use Rattle.image.specs.Hex.{digit_of, paired, bytes_of, word_from}
use Rattle.image.specs.Write.{hex_digit, hex_of, word_bytes}
use Rattle.choices.proofs.Choices.{cond-true, by_order}

-- ---- lists of bytes

abbrev pub AllBytes : List ℕ → Type 0
AllBytes l = (i : ℕ) → get_or l i 0 < 256

pub bytes-nil : AllBytes []
bytes-nil zero = omega arith
bytes-nil (suc i) = omega arith

pub bytes-cons : (b : ℕ) (l : List ℕ) → b < 256 → AllBytes l → AllBytes (b ∷ l)
bytes-cons b l g h zero = g
bytes-cons b l g h (suc i) = h i

pub bytes_drop : (n : ℕ) (l : List ℕ) → AllBytes l → AllBytes (drop n l)
bytes_drop n l h i = rw (get_or-drop n l i 0) (h (n + i))

-- ---- digits

pub digit-le : (b : ℕ) → digit_of b ≤ 16
unfolding digit_of
digit-le b =
    by_order 48 b
    (λ h. by_order b 57 (λ k. simp (le-leb _ _ h, le-leb _ _ k) (omega arith))
    (λ k. by_order 97 b
    (λ m. by_order b 102 (λ n. simp (le-leb _ _ h, lt-leb _ _ k, le-leb _ _ m, le-leb _ _ n) (omega arith))
    (λ n. simp (le-leb _ _ h, lt-leb _ _ k, le-leb _ _ m, lt-leb _ _ n) (omega arith)))
    (λ m. simp (le-leb _ _ h, lt-leb _ _ k, lt-leb _ _ m) (omega arith))))
    (λ h. simp (lt-leb _ _ h) (omega arith))

digit-back : (b : ℕ) → digit_of b < 16 → hex_digit (digit_of b) ≡ b
unfolding digit_of hex_digit
digit-back b =
    by_order 48 b
    (λ h. by_order b 57
    (λ k. simp (le-leb _ _ h, le-leb _ _ k) (λ m. simp (lt-ltb (b - 48) 10 (omega arith)) (omega arith)))
    (λ k. by_order 97 b
    (λ g. by_order b 102
    (λ n. simp (le-leb _ _ h, lt-leb _ _ k, le-leb _ _ g, le-leb _ _ n) (λ m. simp (le-ltb (b - 87) 10 (omega arith)) (omega arith)))
    (λ n. simp (le-leb _ _ h, lt-leb _ _ k, le-leb _ _ g, lt-leb _ _ n) (λ m. absurd (omega arith))))
    (λ g. simp (le-leb _ _ h, lt-leb _ _ k, lt-leb _ _ g) (λ m. absurd (omega arith)))))
    (λ h. simp (lt-leb _ _ h) (λ m. absurd (omega arith)))

hex-digit : (n : ℕ) → n < 16 → digit_of (hex_digit n) ≡ n
unfolding digit_of hex_digit
hex-digit n h =
    by_order 10 n
    (λ k. simp (le-ltb n 10 k, le-leb 48 (87 + n) (omega arith), lt-leb (87 + n) 57 (omega arith), le-leb 97 (87 + n) (omega arith), le-leb (87 + n) 102 (omega arith)) (omega arith))
    (λ k. simp (lt-ltb n 10 k, le-leb 48 (48 + n) (omega arith), le-leb (48 + n) 57 (omega arith)) (omega arith))

-- no digit is an LF
pub hex-no_lf : (n : ℕ) → eqb (hex_digit n) 10 ≡ false
unfolding hex_digit
hex-no_lf n =
    by_order 10 n (λ k. simp (le-ltb n 10 k, ne_eqb (87 + n) 10 (omega arith)))
    (λ k. simp (lt-ltb n 10 k, ne_eqb (48 + n) 10 (omega arith)))

-- ---- pairs

pub both-digits :
    (a b : ℕ) (l : List ℕ) → paired (a ∷ b ∷ l) ≡ true → (digit_of a < 16) × ((digit_of b < 16) × (paired l ≡ true))
unfolding paired
both-digits a b l h =
    let p = cond-true _ _ h in
    let q = cond-true _ _ p.1 in
    (ltb-true _ _ p.0, (ltb-true _ _ q.0, q.1))

odd-never : (a : ℕ) → paired (a ∷ []) ≡ true → ⊥
unfolding paired
odd-never a p = let z : ◌≡◌ {A = ℕ} 0 1 = cc in omega arith

-- pairs make half as many bytes
pub bytes-length : (l : List ℕ) → paired l ≡ true → 2 * length (bytes_of l) ≡ length l
unfolding bytes_of
bytes-length [] p = refl
bytes-length (a ∷ []) p = absurd (odd-never a p)
bytes-length (a ∷ b ∷ l) p = omega (arith, bytes-length l (both-digits a b l p).1.1)

pub byte-lt : (l : List ℕ) → paired l ≡ true → AllBytes (bytes_of l)
unfolding bytes_of
byte-lt [] p k = bytes-nil k
byte-lt (a ∷ []) p k = bytes-nil k
byte-lt (a ∷ b ∷ l) p zero = let q = both-digits a b l p in omega arith
byte-lt (a ∷ b ∷ l) p (suc k) = byte-lt l (both-digits a b l p).1.1 k

pub hex-back : (l : List ℕ) → paired l ≡ true → hex_of (bytes_of l) ≡ l
unfolding hex_of bytes_of
hex-back [] p = refl
hex-back (a ∷ []) p = absurd (odd-never a p)
hex-back (a ∷ b ∷ l) p =
    let q = both-digits a b l p in
    let x : (digit_of a * 16 + digit_of b) / 16 ≡ digit_of a = omega (arith, q.1.0) in
    let y : (digit_of a * 16 + digit_of b) % 16 ≡ digit_of b = omega (arith, q.1.0) in
    rw (x, y, digit-back a q.0, digit-back b q.1.0, hex-back l q.1.1)

module _ (b : ℕ) (h : b < 256) where
  high_digit : digit_of (hex_digit (b / 16)) ≡ b / 16
  high_digit = hex-digit (b / 16) (omega arith)

  low_digit : digit_of (hex_digit (b % 16)) ≡ b % 16
  low_digit = hex-digit (b % 16) (omega arith)

pub hex-paired : (l : List ℕ) → AllBytes l → paired (hex_of l) ≡ true
unfolding paired hex_of
hex-paired [] h = refl
hex-paired (b ∷ l) h =
    let g : b < 256 = h 0 in
    simp (high_digit b g, low_digit b g, lt-ltb (b / 16) 16 (omega arith), lt-ltb (b % 16) 16 (omega arith)) (hex-paired l (λ i. h (suc i)))

pub hex-bytes : (l : List ℕ) → AllBytes l → bytes_of (hex_of l) ≡ l
unfolding bytes_of hex_of
hex-bytes [] h = refl
hex-bytes (b ∷ l) h =
    let g : b < 256 = h 0 in
    let z : b / 16 * 16 + b % 16 ≡ b = omega arith in
    rw (high_digit b g, low_digit b g, z) (ap (λ (r : List ℕ). b ∷ r) (hex-bytes l (λ i. h (suc i))))

pub hex-length : (l : List ℕ) → length (hex_of l) ≡ 2 * length l
unfolding hex_of
hex-length [] = refl
hex-length (b ∷ l) = omega (arith, hex-length l)

pub hex-append : (a b : List ℕ) → hex_of (a ++ b) ≡ hex_of a ++ hex_of b
unfolding hex_of
hex-append [] b = refl
hex-append (x ∷ a) b = ap (λ (r : List ℕ). hex_digit (x / 16) ∷ hex_digit (x % 16) ∷ r) (hex-append a b)

-- ---- numbers of several bytes

word_back :
    (m acc : ℕ) (l rest : List ℕ) → AllBytes l → word_bytes (m + length l) (word_from acc l) rest ≡ word_bytes m acc (l ++ rest)
unfolding word_from word_bytes
word_back m acc [] rest h = rw (add-zero m)
word_back m acc (b ∷ l) rest h =
    let b< : b < 256 = h 0 in
    let d : (acc * 256 + b) / 256 ≡ acc = omega arith in
    let e : (acc * 256 + b) % 256 ≡ b = omega arith in
    let n : m + suc (length l) ≡ suc m + length l = omega arith in
    rw n
    (word_back (suc m) (acc * 256 + b) l rest (λ i. h (suc i)) ∙ ap₂ (λ (x y : ℕ). word_bytes m x (y ∷ l ++ rest)) d e)

pub word-bytes : (l : List ℕ) (n : ℕ) → length l ≡ n → AllBytes l → word_bytes n (word_from 0 l) [] ≡ l
unfolding word_bytes
word-bytes l n e h = let z : n ≡ 0 + length l = omega arith in rw z (word_back 0 0 l [] h ∙ append-nil l)

word_of : (n w : ℕ) (rest : List ℕ) → w < 2 ^ (8 * n) → word_from 0 (word_bytes n w rest) ≡ word_from w rest
unfolding word_from word_bytes
word_of zero w rest h = let z : w ≡ 0 = omega arith in rw z
word_of (suc n) w rest h =
    let e : 8 * suc n ≡ 8 * n + 8 = omega arith in
    let g : w / 2 ^ 8 < 2 ^ (8 * n) = shr_lt (8 * n) 8 (rw e at h) in
    let z : w / 256 * 256 + w % 256 ≡ w = omega arith in
    word_of n (w / 256) (w % 256 ∷ rest) g ∙ ap (λ (x : ℕ). word_from x rest) z

pub word-is : (n w : ℕ) → w < 2 ^ (8 * n) → word_from 0 (word_bytes n w []) ≡ w
unfolding word_from
word-is n w h = word_of n w [] h

pub word-all : (n w : ℕ) (rest : List ℕ) → AllBytes rest → AllBytes (word_bytes n w rest)
unfolding word_bytes
word-all zero w rest h = h
word-all (suc n) w rest h = word-all n (w / 256) (w % 256 ∷ rest) (bytes-cons (w % 256) rest (omega arith) h)

pub word-rest : (n w : ℕ) (rest : List ℕ) → word_bytes n w rest ≡ word_bytes n w [] ++ rest
unfolding word_bytes
word-rest zero w rest = refl
word-rest (suc n) w rest =
    word-rest n (w / 256) (w % 256 ∷ rest)
    ∙ sym (ap (λ (l : List ℕ). l ++ rest) (word-rest n (w / 256) (w % 256 ∷ [])) ∙ append_assoc (word_bytes n (w / 256) []) (w % 256 ∷ []) rest)

pub word-length : (n w : ℕ) → length (word_bytes n w []) ≡ n
unfolding word_bytes
word-length zero w = refl
word-length (suc n) w =
    ap length (word-rest n (w / 256) (w % 256 ∷ []))
    ∙ length-append (word_bytes n (w / 256) []) (w % 256 ∷ [])
    ∙ omega (arith, word-length n (w / 256))
