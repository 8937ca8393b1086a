-- What the bytes that were worked out say. Assumes nothing.
use Prim.Native.Nat.{ℕ, ◌/◌, ◌%◌}
use mathlib.Core.Path.{◌≡◌}
use mathlib.Core.List.{List, [], ◌∷◌, ◌++◌, append-nil}
use borrow.Author.Tests.{ne_eqb}
use Rattle.image.specs.Frames.{payload}
use Rattle.image.specs.Write.{word_bytes, frame_bytes}
use Rattle.writer.specs.Writing.{line_of, Lined}
use Rattle.step.specs.declared.Outcome.{Outcome}
use Rattle.deletion.specs.Lines.{answer_bytes, value_bytes}

-- the line of the same bytes
pub lined_as : {l m out out' : List ℕ} {r : ℕ} → l ≡ m → Lined (line_of l) r out out' → Lined (line_of m) r out out'
lined_as e p = rw e at p

pub and_none : (l : List ℕ) → l ++ [] ≡ l
and_none l = append-nil l

pub answer-said :
    (o : Outcome) (a b c d q x y n : ℕ) → a ≡ (o.count / 256 / 256 / 256) % 256 → b ≡ (o.count / 256 / 256) % 256 → c ≡ (o.count / 256) % 256 → d ≡ o.count % 256
    → q ≡ o.prototype % 256
    → x ≡ (o.instruction / 256) % 256
    → y ≡ o.instruction % 256
    → n ≡ o.operand % 256
    → 0xf0 ∷ o.number ∷ a ∷ b ∷ c ∷ d ∷ q ∷ x ∷ y ∷ n ∷ [] ≡ answer_bytes o
unfolding answer_bytes word_bytes
answer-said o a b c d q x y n ea eb ec ed eq ex ey en = rw (ea, eb, ec, ed, eq, ex, ey, en)

pub byte-said : (k w a : ℕ) → a ≡ w % 256 → 0xb0 ∷ k ∷ a ∷ [] ≡ 0xb0 ∷ k ∷ word_bytes 1 w []
unfolding word_bytes
byte-said k w a e = rw e

pub word-said :
    (k w a b c d p q x y : ℕ) → a ≡ (w / 256 / 256 / 256 / 256 / 256 / 256 / 256) % 256 → b ≡ (w / 256 / 256 / 256 / 256 / 256 / 256) % 256
    → c ≡ (w / 256 / 256 / 256 / 256 / 256) % 256
    → d ≡ (w / 256 / 256 / 256 / 256) % 256
    → p ≡ (w / 256 / 256 / 256) % 256
    → q ≡ (w / 256 / 256) % 256
    → x ≡ (w / 256) % 256
    → y ≡ w % 256
    → 0xb0 ∷ k ∷ a ∷ b ∷ c ∷ d ∷ p ∷ q ∷ x ∷ y ∷ [] ≡ 0xb0 ∷ k ∷ word_bytes 8 w []
unfolding word_bytes
word-said k w a b c d p q x y ea eb ec ed ep eq ex ey = rw (ea, eb, ec, ed, ep, eq, ex, ey)

-- ---- a value, by its kind

module _ (k w : ℕ) (text : List ℕ) (q : ℕ) where
  pub string_said : k ≡ 4 → 0xb0 ∷ 4 ∷ text ≡ value_bytes k w text q
  unfolding value_bytes frame_bytes
  string_said e = simp e

  pub nil-said : k ≡ 0 → 0xb0 ∷ 0 ∷ [] ≡ value_bytes k w text q
  unfolding value_bytes frame_bytes payload word_bytes
  nil-said e = simp e

  pub boolean_said : k ≡ 1 → 0xb0 ∷ 1 ∷ word_bytes 1 w [] ≡ value_bytes k w text q
  unfolding value_bytes frame_bytes payload
  boolean_said e = simp e

  pub function-said : k ≡ 5 → 0xb0 ∷ 5 ∷ word_bytes 1 q [] ≡ value_bytes k w text q
  unfolding value_bytes
  function-said e = simp e

  pub other-said :
      (k ≡ 4 → ⊥) → (k ≡ 5 → ⊥) → (k ≡ 0 → ⊥) → (k ≡ 1 → ⊥) → 0xb0 ∷ k ∷ word_bytes 8 w [] ≡ value_bytes k w text q
  unfolding value_bytes frame_bytes payload
  other-said h i f g = simp (ne_eqb _ _ h, ne_eqb _ _ i, ne_eqb _ _ f, ne_eqb _ _ g)
