-- Frames that lie in a storage from a place on: the first one, and the rest from the next place on. Assumes nothing.
use Prim.Native.Nat.{ℕ, ◌+◌, ◌≤◌}
use native.Mathlib.Omega.{arith}
use native.Mathlib.Nat.{add-zero}
use mathlib.Core.Path.{◌≡◌, refl, sym, subst}
use mathlib.Core.List.{List, [], ◌∷◌}
use lib.ListN.{length}
use Rattle.image.specs.Frames.{F, opens, const, str, code, ends, bad, desc, shape}
use Rattle.storage.specs.Layout.{Storage, storage, entry_of, codes_of, kinds_of, words_of, texts_of, entries_all, codes_all, kinds_all, words_all, texts_all}
use Rattle.storage.specs.Fields.{entry_place}
use Rattle.storage.specs.Cursor.{past}
use Rattle.storage.specs.declared.Tops.{Tops}
use Rattle.storage.proofs.Places.{At, at_join, at_rest, at-within}

-- X stands in S from t on
pub record Stands (t : Tops) (X S : Storage) : Type 0 where
  pub table : At S.table t.entries X.table
  pub code : At S.code t.codes X.code
  pub kinds : At S.kinds t.consts X.kinds
  pub words : At S.words t.consts X.words
  pub texts : At S.texts t.texts X.texts

-- what one frame appends there, and what frames in a row do
abbrev pub one : Tops → F → Storage
one t f = storage (entry_of t.consts t.codes f) (codes_of f) (kinds_of f) (words_of t.texts f) (texts_of f)

abbrev pub all : Tops → List F → Storage
all t fs = storage (entries_all t.consts t.codes fs) (codes_all fs) (kinds_all fs) (words_all t.texts fs) (texts_all fs)

-- the place after a frame, by what it appends
abbrev beyond : Tops → F → Tops
beyond t f =
    record {
      entries = t.entries + length (entry_of t.consts t.codes f);
      codes = t.codes + length (codes_of f);
      consts = t.consts + length (kinds_of f);
      texts = t.texts + length (texts_of f);
      descs = (past t (shape f)).descs;
    }

beyond-past : (t : Tops) (f : F) → beyond t f ≡ past t (shape f)
unfolding past shape entry_of codes_of kinds_of texts_of
beyond-past t (opens r p) = simp add-zero
beyond-past t (const k w) = simp add-zero
beyond-past t (str l) = simp add-zero
beyond-past t (code w) = simp add-zero
beyond-past t (ends n) = simp add-zero
beyond-past t (bad k) = simp add-zero
beyond-past t (desc k n) = simp add-zero

pub past_texts : (t : Tops) (f : F) (S : Storage) → t.texts ≤ length S.texts → Stands t (one t f) S → (past t (shape f)).texts ≤ length S.texts
past_texts t f S h l = subst (λ (u : Tops). u.texts ≤ length S.texts) (beyond-past t f) (at-within S.texts t.texts (texts_of f) l.texts h)

-- a constant has one kind and one word
words-kinds : (top : ℕ) (f : F) → length (words_of top f) ≡ length (kinds_of f)
unfolding words_of kinds_of
words-kinds top (opens r p) = refl
words-kinds top (const k w) = refl
words-kinds top (str l) = refl
words-kinds top (code w) = refl
words-kinds top (ends n) = refl
words-kinds top (bad k) = refl
words-kinds top (desc k n) = refl

pub lies-none : (t : Tops) (S : Storage) → Stands t (all t []) S
unfolding entries_all codes_all kinds_all words_all texts_all
lies-none t S = record { table = refl; code = refl; kinds = refl; words = refl; texts = refl }

module _ (t : Tops) (f : F) (fs : List F) (S : Storage) where
  abbrev After : Type 0
  After = Stands (past t (shape f)) (all (past t (shape f)) fs) S

  pub lies-rest : Stands t (all t (f ∷ fs)) S → After
  unfolding entries_all codes_all kinds_all words_all texts_all
  lies-rest l = rw (← beyond-past t f) after
    where
      after : Stands (beyond t f) (all (beyond t f) fs) S
      after =
          record {
            table = at_rest S.table t.entries (entry_of t.consts t.codes f) _ l.table;
            code = at_rest S.code t.codes (codes_of f) _ l.code;
            kinds = at_rest S.kinds t.consts (kinds_of f) _ l.kinds;
            words = rw (← words-kinds t.texts f) (at_rest S.words t.consts (words_of t.texts f) _ l.words);
            texts = at_rest S.texts t.texts (texts_of f) _ l.texts;
          }

  pub lies-join : Stands t (one t f) S → After → Stands t (all t (f ∷ fs)) S
  unfolding entries_all codes_all kinds_all words_all texts_all
  lies-join h a = join (subst (λ (u : Tops). Stands u (all u fs) S) (sym (beyond-past t f)) a)
    where
      join : Stands (beyond t f) (all (beyond t f) fs) S → Stands t (all t (f ∷ fs)) S
      join l =
          record {
            table = at_join S.table t.entries (entry_of t.consts t.codes f) _ h.table l.table;
            code = at_join S.code t.codes (codes_of f) _ h.code l.code;
            kinds = at_join S.kinds t.consts (kinds_of f) _ h.kinds l.kinds;
            words = at_join S.words t.consts (words_of t.texts f) _ h.words (rw (words-kinds t.texts f) l.words);
            texts = at_join S.texts t.texts (texts_of f) _ h.texts l.texts;
          }

-- ---- by what is passed

-- p entries, c constants, k instructions and x bytes of texts are passed, and d descriptors of the last prototype
abbrev pub tops : ℕ → ℕ → ℕ → ℕ → ℕ → Tops
tops p c k x d = record { entries = entry_place p; codes = k; consts = c; texts = x; descs = d }

-- frames that lie in S from there on
abbrev pub Lie : Storage → ℕ → ℕ → ℕ → ℕ → ℕ → List F → Type 0
Lie S p c k x d fs = Stands (tops p c k x d) (all (tops p c k x d) fs) S

-- behind an a0 one entry more is passed
pub lies-opened : (S : Storage) (p c k x d r u : ℕ) (fs : List F) → Lie S p c k x d (opens r u ∷ fs) → Lie S (p + 1) c k x 0 fs
unfolding past shape
lies-opened S p c k x d r u fs l =
    let e : entry_place p + 4 ≡ entry_place (p + 1) = omega arith in
    rw e at (lies-rest (tops p c k x d) (opens r u) fs S l)
