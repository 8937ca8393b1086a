-- Laws of hexadecimal text: what the code finds by an index is what the list's own recursion says. Assumes nothing.
use Rattle.std.proofs.Common.{◌≡◌, ℕ, zero, suc, ◌+◌, ◌-◌, ◌*◌, ◌/◌, ◌%◌, ◌^◌, ◌<◌, ◌≤◌, Bool, true, false, cond, eqb, ltb, List, [], ◌∷◌, length, get_or, take, drop, sym, refl, ◌∙◌, add-zero, arith, drop_of_length-le, drop-cons, pow_mono, pow-add, le-ltb, lt-ltb, le-leb}
use native.Mathlib.Nat.{sub-zero}
use borrow.Author.Tests.{lt-leb}
use Rattle.image.specs.Hex.{digit_of, paired, bytes_of, word_from}
use Rattle.image.proofs.HexLaws.{digit-le, both-digits, bytes-length}
use Rattle.choices.proofs.Choices.{by_bool, by_order}

pub digit-none : (b : ℕ) → (48 ≤ b → 57 < b) → (97 ≤ b → 102 < b) → digit_of b ≡ 16
unfolding digit_of
digit-none b f g =
    by_order 48 b
    (λ h. by_order 97 b (λ m. simp (le-leb _ _ h, lt-leb _ _ (f h), le-leb _ _ m, lt-leb _ _ (g m))) (λ m. simp (le-leb _ _ h, lt-leb _ _ (f h), lt-leb _ _ m)))
    (λ h. simp (lt-leb _ _ h))

-- ---- pairs are digits, of which there is an even number

abbrev digits : List ℕ → Bool
digits [] = true
digits (a ∷ l) = cond (ltb (digit_of a) 16) (digits l) false

even_two : (n : ℕ) → suc (suc n) % 2 ≡ n % 2
even_two n = omega arith

paired-digits : (l : List ℕ) → paired l ≡ cond (digits l) (eqb (length l % 2) 0) false
unfolding paired
paired-digits [] = refl
paired-digits (a ∷ []) = by_bool (ltb (digit_of a) 16) (λ e. rw e) (λ e. rw e)
paired-digits (a ∷ b ∷ l) =
    by_bool (ltb (digit_of a) 16)
    (λ e. by_bool (ltb (digit_of b) 16) (λ f. rw (e, f, even_two (length l)) (paired-digits l)) (λ f. rw (e, f)))
    (λ e. rw e)

module _ (l : List ℕ) (i : ℕ) (h : i < length l) where
  digits-on : digit_of (get_or l i 0) < 16 → digits (drop i l) ≡ digits (drop (suc i) l)
  digits-on g = rw (drop-cons l i 0 h) (simp (lt-ltb _ _ g))

  digits-not : 16 ≤ digit_of (get_or l i 0) → digits (drop i l) ≡ false
  digits-not g = rw (drop-cons l i 0 h) (simp (le-ltb _ _ g))

-- the first i bytes are tested, and `bad` of them are no digits
pub record Tested (l : List ℕ) (i bad : ℕ) : Type 0 where
  pub few : bad ≤ i
  pub none : bad ≡ 0 → digits (drop i l) ≡ digits l
  pub some : 0 < bad → digits l ≡ false

pub tested-start : (l : List ℕ) → Tested l 0 0
tested-start l = record { few = omega arith; none = λ e. refl; some = λ h. absurd (omega arith) }

module _ (l : List ℕ) (i bad : ℕ) (t : Tested l i bad) where
  pub tested-more : i < length l → Tested l (i + 1) (bad + digit_of (get_or l i 0) / 16)
  tested-more h =
      let d = digit_of (get_or l i 0) in
      let w : i + 1 ≡ suc i = omega arith in
      by_order 16 d
      (λ g.
      let e : d / 16 ≡ 1 = omega (arith, digit-le (get_or l i 0)) in
      let n : digits l ≡ false = by_order 1 bad t.some (λ z. sym (t.none (omega arith)) ∙ digits-not l i h g) in
      rw e (record { few = omega (arith, t.few); none = λ z. absurd (omega arith); some = λ z. n }))
      (λ g.
      let e : bad + d / 16 ≡ bad = omega arith in
      rw (e, w) (record { few = omega (arith, t.few); none = λ z. sym (digits-on l i h g) ∙ t.none z; some = t.some }))

  pub tested-bad : 0 < bad → paired l ≡ false
  tested-bad h = paired-digits l ∙ rw (t.some h)

  pub tested-all : length l ≤ i → bad ≤ 0 → paired l ≡ eqb (length l % 2) 0
  tested-all h g =
      let e : digits l ≡ true = sym (t.none (omega arith)) ∙ rw (drop_of_length-le l h) in
      paired-digits l ∙ rw e

-- ---- the bytes that pairs stand for

-- twice, by recursion
abbrev twice : ℕ → ℕ
twice zero = zero
twice (suc k) = suc (suc (twice k))

twice_two : (k : ℕ) → twice k ≡ 2 * k
twice_two zero = refl
twice_two (suc k) = omega (arith, twice_two k)

-- byte k of the bytes stands for the two digits x and y
pub record Byte (l : List ℕ) (k x y : ℕ) : Type 0 where
  pub high : x < 16
  pub low : y < 16
  pub byte : x * 16 + y ≡ get_or (bytes_of l) k 0

byte_of : (l : List ℕ) (k : ℕ) → paired l ≡ true → suc (twice k) < length l
    → Byte l k (digit_of (get_or l (twice k) 0)) (digit_of (get_or l (suc (twice k)) 0))
unfolding bytes_of
byte_of [] k p h = absurd (omega arith)
byte_of (a ∷ []) k p h = absurd (omega arith)
byte_of (a ∷ b ∷ l) zero p h = let q = both-digits a b l p in record { high = q.0; low = q.1.0; byte = refl }
byte_of (a ∷ b ∷ l) (suc k) p h =
    let r = byte_of l k (both-digits a b l p).1.1 (omega arith) in
    record { high = r.high; low = r.low; byte = r.byte }

-- with the code's indices and digits
pub byte-here : (l : List ℕ) (k x y : ℕ) → paired l ≡ true → 2 * k + 1 < length l
    → x ≡ digit_of (get_or l (2 * k) 0) → y ≡ digit_of (get_or l (2 * k + 1) 0) → Byte l k x y
byte-here l k x y p h e f =
    let i : 2 * k + 1 ≡ suc (twice k) = omega (arith, twice_two k) in
    let s : suc (twice k) < length l = omega arith in
    rw (e, f, i, ← twice_two k) (byte_of l k p s)

-- half as many bytes
pub half : (l : List ℕ) (n : ℕ) → paired l ≡ true → length l ≡ 2 * n → length (bytes_of l) ≡ n
half l n p h = omega (arith, bytes-length l p)

pub half-not : (l : List ℕ) (n : ℕ) → paired l ≡ true → (length l ≡ 2 * n → ⊥) → length (bytes_of l) ≡ n → ⊥
half-not l n p h e = h (omega (arith, bytes-length l p))

-- ---- bytes as one number

-- one turn of the loop that reads a number
pub word-turn : (w : ℕ) (l : List ℕ) (k n i : ℕ) → i < n → k + i < length l
    → word_from w (take (n - i) (drop (k + i) l)) ≡ word_from (w * 256 + get_or l (k + i) 0) (take (n - (i + 1)) (drop (k + (i + 1)) l))
unfolding word_from
word-turn w l k n i h m =
    let e : n - i ≡ suc (n - (i + 1)) = omega arith in
    let f : k + (i + 1) ≡ suc (k + i) = omega arith in
    rw (e, f, drop-cons l (k + i) 0 m)

pub word-start : (l : List ℕ) (k n : ℕ) → word_from 0 (take (n - 0) (drop (k + 0) l)) ≡ word_from 0 (take n (drop k l))
word-start l k n = simp (add-zero, sub-zero)

pub word-done : (w : ℕ) (l : List ℕ) (k n i : ℕ) → n ≤ i → word_from w (take (n - i) (drop (k + i) l)) ≡ w
unfolding word_from
word-done w l k n i h = let e : n - i ≡ 0 = omega arith in rw e

-- a number of i bytes and one more are i + 1 bytes, which fit a word
pub word_fits : (w b i : ℕ) → w < 2 ^ (8 * i) → b < 256 → w * 256 + b < 2 ^ (8 * (i + 1))
word_fits w b i h k =
    let e : 8 * (i + 1) ≡ 8 * i + 8 = omega arith in
    rw (e, pow-add 2 (8 * i) 8) (omega arith)

pub word_room : (w b i : ℕ) → w < 2 ^ (8 * i) → b < 256 → i < 8 → w * 256 + b < 2 ^ 64
word_room w b i h k m =
    let e : 8 * (i + 1) ≤ 64 = omega arith in
    let p : 2 ^ (8 * (i + 1)) ≤ 2 ^ 64 = pow_mono e in
    omega (arith, word_fits w b i h k)
