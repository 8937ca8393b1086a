-- The stores behind a byte, a number and a text in digits. Assumes nothing.
use Prim.Native.Nat.{ℕ, suc, ◌+◌, ◌*◌, ◌/◌, ◌%◌, ◌≤◌, ◌<◌}
use native.Mathlib.Omega.{arith}
use native.Mathlib.Nat.{add-zero}
use mathlib.Core.Path.{◌≡◌, refl, sym, ap, ◌∙◌}
use mathlib.Core.List.{List, [], ◌∷◌, ◌++◌}
use lib.ListN.{length, get_or, set, drop, drop_of_length-le}
use lib.Seq.{sets, set_comm, drop-cons}
use Rattle.image.specs.Write.{hex_digit, hex_of, word_bytes}
use Rattle.image.proofs.HexLaws.{hex-append, hex-length, word-rest, word-length}
use Rattle.writer.specs.Putting.{Put}
use Rattle.writer.proofs.Puts.{sets-append, Cut}

pub one_byte :
    (o o₁ o₂ : List ℕ) (at b h l : ℕ) → h ≡ hex_digit (b / 16) → l ≡ hex_digit (b % 16) → o₁ ≡ set o (at + 0) h → o₂ ≡ set o₁ (at + 1) l
    → Put o at (hex_of (b ∷ [])) (at + 2) o₂
unfolding hex_of
one_byte o o₁ o₂ at b h l eh el e₁ e₂ =
    let e : at + 1 ≡ suc at = omega arith in
    record { next = refl; left = e₂ ∙ rw (e₁, eh, el, e, add-zero at) }

pub one_size : (b : ℕ) → length (hex_of (b ∷ [])) ≡ 2
unfolding hex_of
one_size b = refl

-- ---- a number, its lowest byte first

set-sets : (o : List ℕ) (i j x : ℕ) (ys : List ℕ) → i < j → sets (set o i x) j ys ≡ set (sets o j ys) i x
set-sets o i j x [] h = refl
set-sets o i j x (y ∷ ys) h =
    ap (λ (l : List ℕ). sets l (suc j) ys) (set_comm o i j x y (λ e. omega arith)) ∙ set-sets (set o j y) i (suc j) x ys (omega arith)

-- two parts that do not meet are put in either order
sets-swap : (o : List ℕ) (i j : ℕ) (xs ys : List ℕ) → i + length xs ≤ j → sets (sets o j ys) i xs ≡ sets (sets o i xs) j ys
sets-swap o i j [] ys h = refl
sets-swap o i j (x ∷ xs) ys h =
    ap (λ (l : List ℕ). sets l (suc i) xs) (sym (set-sets o i j x ys (omega arith)))
    ∙ sets-swap (set o i x) (suc i) j xs ys (omega arith)

pub number_size : (n w : ℕ) → length (hex_of (word_bytes n w [])) ≡ 2 * n
number_size n w = hex-length (word_bytes n w []) ∙ ap (λ (k : ℕ). 2 * k) (word-length n w)

-- one turn: the lowest of k + 1 bytes stands, and k are left
pub number-turn :
    (o o' : List ℕ) (at k x r : ℕ) → Put o (at + 2 * k) (hex_of (x % 256 ∷ [])) r o'
    → sets o' at (hex_of (word_bytes k (x / 256) [])) ≡ sets o at (hex_of (word_bytes (suc k) x []))
unfolding word_bytes
number-turn o o' at k x r p =
    let n : 2 * k ≡ length (hex_of (word_bytes k (x / 256) [])) = sym (number_size k (x / 256)) in
    rw (p.left, n, word-rest k (x / 256) (x % 256 ∷ []), hex-append (word_bytes k (x / 256) []) (x % 256 ∷ []))
    (in_turn (hex_of (word_bytes k (x / 256) [])) (hex_of (x % 256 ∷ [])))
  where
    in_turn : (A B : List ℕ) → sets (sets o (at + length A) B) at A ≡ sets o at (A ++ B)
    in_turn A B = sets-swap o at (at + length A) A B (omega arith) ∙ sym (sets-append o at A B)

pub number-done : (o : List ℕ) (at k x : ℕ) → k ≡ 0 → o ≡ sets o at (hex_of (word_bytes k x []))
unfolding hex_of word_bytes
number-done o at k x e = rw e

-- ---- a text

pub text-turn : (s : List ℕ) (i : ℕ) → i < length s → Cut (hex_of (drop i s)) (hex_of (get_or s i 0 ∷ [])) (hex_of (drop (i + 1) s))
unfolding hex_of
text-turn s i h = let e : i + 1 ≡ suc i = omega arith in record { parts = rw (e, drop-cons s i 0 h) }

pub text-done : (s : List ℕ) (i : ℕ) → length s ≤ i → hex_of (drop i s) ≡ []
unfolding hex_of
text-done s i h = rw (drop_of_length-le s h)

-- ---- the line's end

pub lf : (o o' : List ℕ) (at : ℕ) → o' ≡ set o (at + 0) 10 → Put o at (10 ∷ []) (at + 1) o'
lf o o' at e = record { next = refl; left = e ∙ rw (add-zero at) }

-- a byte that was worked out
pub put_as :
    {o o' : List ℕ} {at r x y : ℕ} → x ≡ y → Put o at (hex_of (x ∷ [])) r o' → Put o at (hex_of (y ∷ [])) r o'
put_as e p = rw e at p
