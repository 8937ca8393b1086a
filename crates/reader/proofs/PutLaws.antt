-- Putting one frame: what the line says, what the enum's case says of the frame, and what the stores leave. Assumes nothing.
use Rattle.std.proofs.Common.{◌≡◌, ℕ, suc, ◌+◌, ◌-◌, ◌*◌, ◌/◌, ◌<◌, ◌≤◌, true, eqb, ltb, leb, List, [], ◌∷◌, length, get_or, take, drop, set, sym, refl, ap, ◌∙◌, add-zero, arith, length-drop, take_all, drop-cons, leb-true}
use native.Mathlib.Nat.{sub-zero}
use lib.Seq.{sets}
use Rattle.image.specs.Hex.{paired, bytes_of}
use Rattle.image.specs.Frames.{F, opens, const, str, code, ends, bad, desc, shape, frame_of, kind_bytes, open_bytes, word_bytes_of, const_bytes, code_bytes, end_bytes, desc_bytes, payload, most_of}
use Rattle.image.specs.declared.Frame.{Frame}
use Rattle.image.specs.declared.ReadError.{ReadError}
use Rattle.image.specs.declared.Frame.TheVariants.{Open, Const, Str, Code, End, Bad, Desc}
use Rattle.storage.specs.declared.Tops.{Tops}
use Rattle.storage.specs.Fields.{descriptors_place}
use Rattle.storage.specs.Layout.{entry_of, codes_of, kinds_of, words_of, texts_of, descriptor_word}
use Rattle.reader.specs.Steps.{FramePut, descriptor_put, desc_put, desc_top}
use Rattle.choices.proofs.Choices.{cond_cases}
use Rattle.image.proofs.HexLaws.{bytes-length}

-- ---- a string's bytes, one at a time

pub copy_start : (o B : List ℕ) (top n : ℕ) → sets o (top + 0) (take (n - 0) (drop (2 + 0) B)) ≡ sets o top (take n (drop 2 B))
copy_start o B top n = simp (add-zero, sub-zero)

pub copy-turn : (o B : List ℕ) (top n i : ℕ) → i < n → 2 + i < length B
    → sets o (top + i) (take (n - i) (drop (2 + i) B)) ≡ sets (set o (top + i) (get_or B (2 + i) 0)) (top + (i + 1)) (take (n - (i + 1)) (drop (2 + (i + 1)) B))
copy-turn o B top n i h k =
    let e : n - i ≡ suc (n - (i + 1)) = omega arith in
    let f : 2 + (i + 1) ≡ suc (2 + i) = omega arith in
    let g : top + (i + 1) ≡ suc (top + i) = omega arith in
    rw (e, f, g, drop-cons B (2 + i) 0 k)

pub copy_done : (o B : List ℕ) (top n i : ℕ) → n ≤ i → sets o (top + i) (take (n - i) (drop (2 + i) B)) ≡ o
copy_done o B top n i h = let e : n - i ≡ 0 = omega arith in rw e

pub sets-four :
    (l l₁ l₂ l₃ l₄ : List ℕ) (i a b c d : ℕ) → l₁ ≡ set l (i + 0) a → l₂ ≡ set l₁ (i + 1) b → l₃ ≡ set l₂ (i + 2) c → l₄ ≡ set l₃ (i + 3) d
    → l₄ ≡ sets l i (a ∷ b ∷ c ∷ d ∷ [])
sets-four l l₁ l₂ l₃ l₄ i a b c d p q r s =
    let e : i + 1 ≡ suc i = omega arith in
    let f : i + 2 ≡ suc (suc i) = omega arith in
    let g : i + 3 ≡ suc (suc (suc i)) = omega arith in
    rw (s, r, q, p, add-zero i, e, f, g)

pub sets-descriptor : (l l₁ l₂ : List ℕ) (q d w : ℕ) → l₁ ≡ set l (descriptors_place q + (1 + d)) w → l₂ ≡ set l₁ (descriptors_place q + 0) (d + 1)
    → l₂ ≡ descriptor_put q d w l
sets-descriptor l l₁ l₂ q d w e f = rw (f, e, add-zero (descriptors_place q))

-- ---- what a line says of its string

abbrev Told : List ℕ → F → Type 0
Told line (opens r p) = Unit {0}
Told line (const k w) = Unit {0}
Told line (str l) = (paired line ≡ true) × ((2 ≤ length (bytes_of line)) × (l ≡ drop 2 (bytes_of line)))
Told line (code w) = Unit {0}
Told line (ends n) = Unit {0}
Told line (bad k) = Unit {0}
Told line (desc k n) = Unit {0}

module _ (line : List ℕ) (p : paired line ≡ true) where
  open_told : Told line (open_bytes (bytes_of line))
  unfolding open_bytes
  open_told =
      let B = bytes_of line in
      cond_cases (Told line) (eqb (length B) 3) _ _
      (λ h. cond_cases (Told line) (leb 1 (get_or B 1 0)) _ _
      (λ t. cond_cases (Told line) (leb (get_or B 2 0) (get_or B 1 0)) _ _ (λ m. tt) (λ m. tt))
      (λ t. tt))
      (λ h. tt)

  word-told : (tag : ℕ) (l : List ℕ) → Told line (word_bytes_of tag l)
  unfolding word_bytes_of
  word-told tag l =
      cond_cases (Told line) (eqb (length l) (payload tag)) _ _
      (λ h. cond_cases (Told line) (leb _ (most_of tag)) _ _ (λ m. tt) (λ m. tt))
      (λ h. tt)

  const-told : Told line (const_bytes (bytes_of line))
  unfolding const_bytes
  const-told =
      let B = bytes_of line in
      cond_cases (Told line) (leb 2 (length B)) _ _
      (λ h. cond_cases (Told line) (ltb (get_or B 1 0) 4) _ _ (λ t. word-told (get_or B 1 0) (drop 2 B))
      (λ t. cond_cases (Told line) (eqb (get_or B 1 0) 4) _ _
      (λ u. cond_cases (Told line) (leb (length B) 66) _ _ (λ m. (p, (leb-true _ _ h, refl))) (λ m. tt))
      (λ u. tt)))
      (λ h. tt)

  code-told : Told line (code_bytes (bytes_of line))
  unfolding code_bytes
  code-told = cond_cases (Told line) (eqb (length (bytes_of line)) 6) _ _ (λ m. tt) (λ m. tt)

  end-told : Told line (end_bytes (bytes_of line))
  unfolding end_bytes
  end-told = cond_cases (Told line) (eqb (length (bytes_of line)) 2) _ _ (λ m. tt) (λ m. tt)

  desc-told : Told line (desc_bytes (bytes_of line))
  unfolding desc_bytes
  desc-told =
      let B = bytes_of line in
      cond_cases (Told line) (eqb (length B) 3) _ _
      (λ h. cond_cases (Told line) (leb (get_or B 1 0) 1) _ _ (λ m. tt) (λ m. tt))
      (λ h. tt)

  kind-told : Told line (kind_bytes (bytes_of line))
  unfolding kind_bytes
  kind-told =
      let k = get_or (bytes_of line) 0 0 in
      cond_cases (Told line) (eqb k 0xa0) _ _ (λ a. open_told)
      (λ a. cond_cases (Told line) (eqb k 0xb0) _ _ (λ b. const-told)
      (λ b. cond_cases (Told line) (eqb k 0xc0) _ _ (λ c. code-told)
      (λ c. cond_cases (Told line) (eqb k 0xe0) _ _ (λ d. end-told)
      (λ d. cond_cases (Told line) (eqb k 0xd1) _ _ (λ e. desc-told) (λ e. tt)))))

told : (line : List ℕ) → Told line (frame_of line)
unfolding frame_of
told line =
    cond_cases (Told line) (leb 1 (length line)) _ _
    (λ h. cond_cases (Told line) (paired line) _ _ (λ p. kind-told line p) (λ p. tt))
    (λ h. tt)

-- ---- what the enum's case says of the frame

-- a frame from the enum's case and, of a string, its bytes
abbrev said : Frame → List ℕ → F
said (Open r p) l = opens r p
said (Const k w) l = const k w
said (Str n) l = str l
said (Code w) l = code w
said (End n) l = ends n
said (Bad k) l = bad k
said (Desc k n) l = desc k n

said-shape : (f : F) → f ≡ said (shape f) (texts_of f)
unfolding shape texts_of
said-shape (opens r p) = refl
said-shape (const k w) = refl
said-shape (str l) = refl
said-shape (code w) = refl
said-shape (ends n) = refl
said-shape (bad k) = refl
said-shape (desc k n) = refl

pub from-shape : (f : F) (s : Frame) → shape f ≡ s → f ≡ said s (texts_of f)
from-shape f s e = said-shape f ∙ ap (λ (u : Frame). said u (texts_of f)) e

-- a line of which the enum says Str n
pub record StrLine (line : List ℕ) (n : ℕ) : Type 0 where
  pub text : List ℕ
  pub frame : frame_of line ≡ str text
  pub count : length text ≡ n
  pub pairs : paired line ≡ true
  pub long : 2 * n + 4 ≤ length line
  pub bytes : take n (drop 2 (bytes_of line)) ≡ text

pub str-line : (line : List ℕ) (n : ℕ) → shape (frame_of line) ≡ Str n → StrLine line n
unfolding shape
str-line line n e = go (frame_of line) refl (told line) e
  where
    go : (f : F) → frame_of line ≡ f → Told line f → shape f ≡ Str n → StrLine line n
    go (str l) d t e =
        let m : length l ≡ n = cc in
        let z : length (drop 2 (bytes_of line)) ≤ n = omega (arith, ap length t.1.1) in
        record {
          text = l;
          frame = d;
          count = m;
          pairs = t.0;
          long = omega (arith, ap length t.1.1, length-drop 2 (bytes_of line), bytes-length line t.0);
          bytes = take_all n (drop 2 (bytes_of line)) z ∙ sym t.1.1;
        }
    go (opens r p) d t e = absurd (let z : ◌≡◌ {A = ℕ} 0 1 = cc in omega arith)
    go (const k w) d t e = absurd (let z : ◌≡◌ {A = ℕ} 0 1 = cc in omega arith)
    go (code w) d t e = absurd (let z : ◌≡◌ {A = ℕ} 0 1 = cc in omega arith)
    go (ends n) d t e = absurd (let z : ◌≡◌ {A = ℕ} 0 1 = cc in omega arith)
    go (bad k) d t e = absurd (let z : ◌≡◌ {A = ℕ} 0 1 = cc in omega arith)
    go (desc k n) d t e = absurd (let z : ◌≡◌ {A = ℕ} 0 1 = cc in omega arith)

-- ---- what the stores leave, by the enum's case

module _ (t : Tops) (l c k w x : List ℕ) where
  pub put-open : (r q : ℕ)
      → FramePut t (record { entries = t.entries + 4; codes = t.codes; consts = t.consts; texts = t.texts; descs = 0 }) (opens r q)
      l (set (sets l t.entries (r ∷ q ∷ t.consts ∷ t.codes ∷ [])) (descriptors_place (t.entries / 4)) 0) c c k k w w x x
  unfolding entry_of codes_of kinds_of words_of texts_of desc_put desc_top
  put-open r q =
      record { top_entries = refl; top_codes = omega arith; top_consts = omega arith; top_texts = omega arith; top_descs = refl; table = refl; code = refl; kinds = refl; words = refl; texts = refl }

  pub put-end : (n : ℕ)
      → FramePut t (record { entries = t.entries + 4; codes = t.codes; consts = t.consts; texts = t.texts; descs = t.descs }) (ends n)
      l (sets l t.entries (0 ∷ 0 ∷ t.consts ∷ t.codes ∷ [])) c c k k w w x x
  unfolding entry_of codes_of kinds_of words_of texts_of desc_put desc_top
  put-end n =
      record { top_entries = refl; top_codes = omega arith; top_consts = omega arith; top_texts = omega arith; top_descs = refl; table = refl; code = refl; kinds = refl; words = refl; texts = refl }

  pub put_const : (tag v : ℕ)
      → FramePut t (record { entries = t.entries; codes = t.codes; consts = t.consts + 1; texts = t.texts; descs = t.descs }) (const tag v)
      l l c c k (set k (t.consts + 0) tag) w (set w (t.consts + 0) v) x x
  unfolding entry_of codes_of kinds_of words_of texts_of desc_put desc_top
  put_const tag v =
      rw (add-zero t.consts)
      (record { top_entries = omega arith; top_codes = omega arith; top_consts = refl; top_texts = omega arith; top_descs = refl; table = refl; code = refl; kinds = refl; words = refl; texts = refl })

  pub put-code : (v : ℕ)
      → FramePut t (record { entries = t.entries; codes = t.codes + 1; consts = t.consts; texts = t.texts; descs = t.descs }) (code v)
      l l c (set c (t.codes + 0) v) k k w w x x
  unfolding entry_of codes_of kinds_of words_of texts_of desc_put desc_top
  put-code v =
      rw (add-zero t.codes)
      (record { top_entries = omega arith; top_codes = refl; top_consts = omega arith; top_texts = omega arith; top_descs = refl; table = refl; code = refl; kinds = refl; words = refl; texts = refl })

  pub put-bad : (n : ReadError) → FramePut t t (bad n) l l c c k k w w x x
  unfolding entry_of codes_of kinds_of words_of texts_of desc_put desc_top
  put-bad n =
      record { top_entries = omega arith; top_codes = omega arith; top_consts = omega arith; top_texts = omega arith; top_descs = refl; table = refl; code = refl; kinds = refl; words = refl; texts = refl }

  pub put-str : (s : List ℕ) (n : ℕ) → length s ≡ n
      → FramePut t (record { entries = t.entries; codes = t.codes; consts = t.consts + 1; texts = t.texts + n; descs = t.descs }) (str s)
      l l c c k (set k (t.consts + 0) 4) w (set w (t.consts + 0) (t.texts * 65536 + n)) x (sets x t.texts s)
  unfolding entry_of codes_of kinds_of words_of texts_of desc_put desc_top
  put-str s n h =
      rw (add-zero t.consts, ← h)
      (record { top_entries = omega arith; top_codes = omega arith; top_consts = refl; top_texts = refl; top_descs = refl; table = refl; code = refl; kinds = refl; words = refl; texts = refl })

  pub put-desc : (v n : ℕ)
      → FramePut t (record { entries = t.entries; codes = t.codes; consts = t.consts; texts = t.texts; descs = t.descs + 1 }) (desc v n)
      l (descriptor_put (t.entries / 4 - 1) t.descs (descriptor_word v n) l) c c k k w w x x
  unfolding entry_of codes_of kinds_of words_of texts_of desc_put desc_top
  put-desc v n =
      record { top_entries = omega arith; top_codes = omega arith; top_consts = omega arith; top_texts = omega arith; top_descs = refl; table = refl; code = refl; kinds = refl; words = refl; texts = refl }
