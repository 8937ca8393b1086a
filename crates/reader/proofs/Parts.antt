-- The loop over frames, one slice at a time: what is left to store, stored on what is there, is the whole stored on the start. Assumes nothing.
use Rattle.std.proofs.Common.{◌≡◌, ℕ, suc, ◌+◌, ◌-◌, ◌/◌, ◌≤◌, List, [], ◌∷◌, ◌++◌, length, set, sym, refl, ap, ◌∙◌, add-zero, arith, length-append, length-set}
use lib.Seq.{sets, set_comm, length-sets}
use Rattle.image.specs.declared.ReadError.{ReadError}
use Rattle.image.specs.Frames.{F, opens, const, str, code, ends, bad, desc}
use Rattle.storage.specs.declared.Tops.{Tops}
use Rattle.storage.specs.Fields.{descriptors_place}
use Rattle.storage.specs.Layout.{entry_of, codes_of, kinds_of, words_of, texts_of, entries_all, codes_all, kinds_all, words_all, texts_all}
use Rattle.reader.specs.Steps.{Small, desc_put, desc_top, desc_puts, FramePut, Suffice, Filled}

-- storing one list after another
sets-append : (l : List ℕ) (i : ℕ) (xs ys : List ℕ) → sets l i (xs ++ ys) ≡ sets (sets l i xs) (i + length xs) ys
sets-append l i [] ys = rw (add-zero i)
sets-append l i (x ∷ xs) ys =
    let e : i + suc (length xs) ≡ suc i + length xs = omega arith in
    rw e (sets-append (set l i x) (suc i) xs ys)

-- `rest` is still to be stored from `top` on; `all` is the whole, from `base` on
pub record Part (l l₀ : List ℕ) (base top : ℕ) (rest all : List ℕ) : Type 0 where
  pub done : sets l top rest ≡ sets l₀ base all
  pub count : top + length rest ≡ base + length all
  pub same : length l ≡ length l₀

part-start : (l : List ℕ) (base : ℕ) (all : List ℕ) → Part l l base base all all
part-start l base all = record { done = refl; count = refl; same = refl }

part-turn : (l l₀ : List ℕ) (base top : ℕ) (xs rest all : List ℕ) → Part l l₀ base top (xs ++ rest) all
    → Part (sets l top xs) l₀ base (top + length xs) rest all
part-turn l l₀ base top xs rest all p =
    record {
      done = sym (sets-append l top xs rest) ∙ p.done;
      count = omega (arith, p.count, length-append xs rest);
      same = length-sets l top xs ∙ p.same;
    }

-- a constant's kind and its word go together
pub word-kind : (n : ℕ) (f : F) → length (words_of n f) ≡ length (kinds_of f)
unfolding words_of kinds_of
word-kind n (opens r p) = refl
word-kind n (const k w) = refl
word-kind n (str l) = refl
word-kind n (code w) = refl
word-kind n (ends m) = refl
word-kind n (bad k) = refl
word-kind n (desc k m) = refl

-- ---- the table: entries at the front, descriptors behind all of them

-- a store behind others goes before them
set-behind : (l : List ℕ) (i p x : ℕ) (ys : List ℕ) → i + length ys ≤ p → set (sets l i ys) p x ≡ sets (set l p x) i ys
set-behind l i p x [] h = refl
set-behind l i p x (y ∷ ys) h =
    set-behind (set l i y) (suc i) p x ys (omega arith)
    ∙ ap (λ (m : List ℕ). sets m (suc i) ys) (set_comm l i p y x (λ e. omega arith))

desc-behind : (at d : ℕ) (f : F) (l : List ℕ) (i : ℕ) (ys : List ℕ) → i + length ys ≤ descriptors_place 0
    → desc_put at d f (sets l i ys) ≡ sets (desc_put at d f l) i ys
unfolding desc_put
desc-behind at d (opens r p) l i ys h = set-behind l i (descriptors_place (at / 4)) 0 ys (omega arith)
desc-behind at d (const k w) l i ys h = refl
desc-behind at d (str x) l i ys h = refl
desc-behind at d (code w) l i ys h = refl
desc-behind at d (ends n) l i ys h = refl
desc-behind at d (bad k) l i ys h = refl
desc-behind at d (desc k n) l i ys h =
    let q = at / 4 - 1 in
    ap (λ (m : List ℕ). set m (descriptors_place q) (d + 1)) (set-behind l i (descriptors_place q + (1 + d)) _ ys (omega arith))
    ∙ set-behind _ i (descriptors_place q) (d + 1) ys (omega arith)

desc-length : (at d : ℕ) (f : F) (l : List ℕ) → length (desc_put at d f l) ≡ length l
unfolding desc_put
desc-length at d (opens r p) l = length-set l _ _
desc-length at d (const k w) l = refl
desc-length at d (str x) l = refl
desc-length at d (code w) l = refl
desc-length at d (ends n) l = refl
desc-length at d (bad k) l = refl
desc-length at d (desc k n) l = length-set (set l _ _) _ _ ∙ length-set l _ _

entry-size : (c k : ℕ) (f : F) → length (entry_of c k f) ≡ length (entry_of 0 0 f)
unfolding entry_of
entry-size c k (opens r p) = refl
entry-size c k (const t w) = refl
entry-size c k (str x) = refl
entry-size c k (code w) = refl
entry-size c k (ends n) = refl
entry-size c k (bad n) = refl
entry-size c k (desc t n) = refl

top-more : (d : ℕ) (f : F) → desc_top d f ≤ d + 1
unfolding desc_top
top-more d (opens r p) = omega arith
top-more d (const k w) = omega arith
top-more d (str x) = omega arith
top-more d (code w) = omega arith
top-more d (ends n) = omega arith
top-more d (bad k) = omega arith
top-more d (desc k n) = omega arith

-- the frames fs are left of `all`, the next entry goes to `at`; l₀ is the table at the start
module _ (all : List F) (l₀ : List ℕ) where
  pub record TableLeft (at c k d : ℕ) (fs : List F) (l : List ℕ) : Type 0 where
    pub done : desc_puts at d fs (sets l at (entries_all c k fs)) ≡ desc_puts 1 0 all (sets l₀ 1 (entries_all 0 0 all))
    pub count : at + length (entries_all c k fs) ≡ 1 + length (entries_all 0 0 all)
    pub same : length l ≡ length l₀
    pub descs : d + length fs ≤ length all

  table-turn : (at c k d : ℕ) (f : F) (fs : List F) (l : List ℕ) → 1 + length (entries_all 0 0 all) ≤ descriptors_place 0
      → TableLeft at c k d (f ∷ fs) l
      → TableLeft (at + length (entry_of c k f)) (c + length (kinds_of f)) (k + length (codes_of f)) (desc_top d f) fs (desc_put at d f (sets l at (entry_of c k f)))
  unfolding entries_all desc_puts
  table-turn at c k d f fs l h e =
      let xs = entry_of c k f in
      let ys = entries_all (c + length (kinds_of f)) (k + length (codes_of f)) fs in
      let n : at + length xs + length ys ≡ 1 + length (entries_all 0 0 all) = omega (arith, e.count, length-append xs ys) in
      record {
        done = rw (← desc-behind at d f (sets l at xs) (at + length xs) ys (omega arith), ← sets-append l at xs ys, entry-size c k f) e.done;
        count = n;
        same = desc-length at d f (sets l at xs) ∙ length-sets l at xs ∙ e.same;
        descs = omega (arith, top-more d f, e.descs);
      }

-- ---- all five slices: the frames fs are left of `all`. The table, l₀, has the number of prototypes in its first cell.

module _ (all : List F) (l₀ c₀ k₀ w₀ x₀ : List ℕ) where
  pub record Left (t : Tops) (fs : List F) (l c k w x : List ℕ) : Type 0 where
    pub table : TableLeft all l₀ t.entries t.consts t.codes t.descs fs l
    pub code : Part c c₀ 0 t.codes (codes_all fs) (codes_all all)
    pub kinds : Part k k₀ 0 t.consts (kinds_all fs) (kinds_all all)
    pub words : Part w w₀ 0 t.consts (words_all t.texts fs) (words_all 0 all)
    pub texts : Part x x₀ 0 t.texts (texts_all fs) (texts_all all)

  pub left-start : Left (record { entries = 1; codes = 0; consts = 0; texts = 0; descs = 0 }) all l₀ c₀ k₀ w₀ x₀
  left-start =
      record {
        table = record { done = refl; count = refl; same = refl; descs = omega arith };
        code = part-start c₀ 0 _;
        kinds = part-start k₀ 0 _;
        words = part-start w₀ 0 _;
        texts = part-start x₀ 0 _;
      }

  module _ (t : Tops) (fs : List F) (l c k w x : List ℕ) where
    pub left-small : (n : ℕ) → Left t fs l c k w x → Suffice n all → Small t
    left-small n left s =
        record {
          entries = omega (arith, left.table.count, s.table);
          codes = omega (arith, left.code.count, s.code);
          consts = omega (arith, left.kinds.count, s.kinds);
          texts = omega (arith, left.texts.count, s.texts);
          descs = omega (arith, left.table.descs, s.frames);
        }

    pub left-turn : (f : F) (r : Tops) (l' c' k' w' x' : List ℕ) (n : ℕ) → Suffice n all → Left t (f ∷ fs) l c k w x
        → FramePut t r f l l' c c' k k' w w' x x' → Left r fs l' c' k' w' x'
    unfolding entries_all codes_all kinds_all words_all texts_all
    left-turn f r l' c' k' w' x' n s left u =
        record {
          table = rw (u.table, u.top_entries, u.top_codes, u.top_consts, u.top_descs) (table-turn all l₀ t.entries t.consts t.codes t.descs f fs l (omega (arith, s.table)) left.table);
          code = rw (u.code, u.top_codes) (part-turn c c₀ 0 t.codes (codes_of f) _ _ left.code);
          kinds = rw (u.kinds, u.top_consts) (part-turn k k₀ 0 t.consts (kinds_of f) _ _ left.kinds);
          words = rw (u.words, u.top_consts, u.top_texts, ← word-kind t.texts f) (part-turn w w₀ 0 t.consts (words_of t.texts f) _ _ left.words);
          texts = rw (u.texts, u.top_texts) (part-turn x x₀ 0 t.texts (texts_of f) _ _ left.texts);
        }

  module _ (t : Tops) (l c k w x : List ℕ) where
    pub left_end : (n : ℕ) (table : List ℕ) → l₀ ≡ set table 0 n → Left t [] l c k w x → Filled n all table l c₀ c k₀ k w₀ w x₀ x
    unfolding entries_all codes_all kinds_all words_all texts_all desc_puts
    left_end n table e left =
        record {
          table = rw e at left.table.done;
          code = left.code.done;
          kinds = left.kinds.done;
          words = left.words.done;
          texts = left.texts.done;
        }

    -- a refused line at the end adds nothing
    pub left-bad : (m : ReadError) → Left t (bad m ∷ []) l c k w x → Left t [] l c k w x
    unfolding entries_all codes_all kinds_all words_all texts_all entry_of codes_of kinds_of words_of texts_of desc_put desc_top desc_puts
    left-bad m left =
        record {
          table = record { done = left.table.done; count = left.table.count; same = left.table.same; descs = omega (arith, left.table.descs) };
          code = left.code;
          kinds = left.kinds;
          words = left.words;
          texts = left.texts;
        }
