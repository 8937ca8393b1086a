-- How an image lies in the storage, five lent slices: each frame appends to some of them, and a prototype's descriptors have their own place behind the entries of
-- the table. For one image there is one content. Assumes nothing.
--   table   the number of prototypes; then for each its registers, its parameters, its first constant and its first instruction; then a closing entry with the totals;
--           from `descriptors_place 0` on, 9 words for each prototype: the number of its descriptors, then these
--   code    the instructions, a number each
--   kinds   the constants' kinds, which are their tags: nil 0, boolean 1, integer 2, float 3, string 4
--   words   the constants' words: 0, 0 or 1, 64 bits; of a string start * 65,536 + length in the texts
--   texts   the strings' bytes, one after the other
use Rattle.std.specs.Prelude.{ℕ, ◌+◌, ◌*◌, Bool, false, cond, List, [], ◌∷◌, ◌++◌, length, drop, replicate, leb}
use Rattle.std.proofs.lemmas.List.Edits.{sets}
use Rattle.slices.specs.Lent.{Slice, MutSlice, seen, at_call, at_return}
use Rattle.storage.specs.Fields.{table_slots, descriptors_place}
use Rattle.image.specs.Frames.{F, opens, const, str, code, ends, bad, desc}

pub record Storage : Type 0 where
  pub table : List ℕ
  pub code : List ℕ
  pub kinds : List ℕ
  pub words : List ℕ
  pub texts : List ℕ

abbrev pub storage : List ℕ → List ℕ → List ℕ → List ℕ → List ℕ → Storage
storage t c k w x = record { table = t; code = c; kinds = k; words = w; texts = x }

-- what five slices hold that are lent to be read; and of five that are lent to be written, before and after
abbrev pub storage_in : Slice → Slice → Slice → Slice → Slice → Storage
storage_in t c k w x = storage (seen t) (seen c) (seen k) (seen w) (seen x)

abbrev pub storage_old : MutSlice → MutSlice → MutSlice → MutSlice → MutSlice → Storage
storage_old t c k w x = storage (at_call t) (at_call c) (at_call k) (at_call w) (at_call x)

abbrev pub storage_out : MutSlice → MutSlice → MutSlice → MutSlice → MutSlice → Storage
storage_out t c k w x = storage (at_return t) (at_return c) (at_return k) (at_return w) (at_return x)

-- ---- what one frame appends

unfoldable pub codes_of : F → List ℕ
codes_of (opens r p) = []
codes_of (const k w) = []
codes_of (str l) = []
codes_of (code w) = w ∷ []
codes_of (ends n) = []
codes_of (bad k) = []
codes_of (desc k n) = []

unfoldable pub kinds_of : F → List ℕ
kinds_of (opens r p) = []
kinds_of (const k w) = k ∷ []
kinds_of (str l) = 4 ∷ []
kinds_of (code w) = []
kinds_of (ends n) = []
kinds_of (bad k) = []
kinds_of (desc k n) = []

-- where the texts are filled up to `top`
unfoldable pub words_of : ℕ → F → List ℕ
words_of top (opens r p) = []
words_of top (const k w) = w ∷ []
words_of top (str l) = (top * 65536 + length l) ∷ []
words_of top (code w) = []
words_of top (ends n) = []
words_of top (bad k) = []
words_of top (desc k n) = []

unfoldable pub texts_of : F → List ℕ
texts_of (opens r p) = []
texts_of (const k w) = []
texts_of (str l) = l
texts_of (code w) = []
texts_of (ends n) = []
texts_of (bad k) = []
texts_of (desc k n) = []

-- where so many constants and instructions stand before it
unfoldable pub entry_of : ℕ → ℕ → F → List ℕ
entry_of consts codes (opens r p) = r ∷ p ∷ consts ∷ codes ∷ []
entry_of consts codes (const k w) = []
entry_of consts codes (str l) = []
entry_of consts codes (code w) = []
entry_of consts codes (ends n) = 0 ∷ 0 ∷ consts ∷ codes ∷ []
entry_of consts codes (bad k) = []
entry_of consts codes (desc k n) = []

-- ---- what all frames append

unfoldable pub codes_all : List F → List ℕ
codes_all [] = []
codes_all (f ∷ fs) = codes_of f ++ codes_all fs

unfoldable pub kinds_all : List F → List ℕ
kinds_all [] = []
kinds_all (f ∷ fs) = kinds_of f ++ kinds_all fs

unfoldable pub words_all : ℕ → List F → List ℕ
words_all top [] = []
words_all top (f ∷ fs) = words_of top f ++ words_all (top + length (texts_of f)) fs

unfoldable pub texts_all : List F → List ℕ
texts_all [] = []
texts_all (f ∷ fs) = texts_of f ++ texts_all fs

unfoldable pub entries_all : ℕ → ℕ → List F → List ℕ
entries_all consts codes [] = []
entries_all consts codes (f ∷ fs) =
    entry_of consts codes f ++ entries_all (consts + length (kinds_of f)) (codes + length (codes_of f)) fs

-- what an image of n prototypes fills
abbrev pub contents_of : ℕ → List F → Storage
contents_of n fs = storage (n ∷ entries_all 0 0 fs) (codes_all fs) (kinds_all fs) (words_all 0 fs) (texts_all fs)

-- ---- descriptors: document 02, 6/12, "A prototype gets descriptors (frames `d1`: ..), between `a0` and its constants, at most 8"

-- a descriptor's word
abbrev pub descriptor_word : ℕ → ℕ → ℕ
descriptor_word k n = k * 256 + n

-- the descriptors that stand at the front
unfoldable pub descriptors_ahead : List F → List ℕ
descriptors_ahead [] = []
descriptors_ahead (opens r p ∷ fs) = []
descriptors_ahead (const k w ∷ fs) = []
descriptors_ahead (str l ∷ fs) = []
descriptors_ahead (code w ∷ fs) = []
descriptors_ahead (ends n ∷ fs) = []
descriptors_ahead (bad k ∷ fs) = []
descriptors_ahead (desc k n ∷ fs) = descriptor_word k n ∷ descriptors_ahead fs

-- what a prototype that these follow has at its place: how many, then each
abbrev pub descriptor_block : List F → List ℕ
descriptor_block fs = length (descriptors_ahead fs) ∷ descriptors_ahead fs

-- the table l with the descriptors of every prototype that fs opens, the first of them number q
unfoldable pub described : ℕ → List F → List ℕ → List ℕ
described q [] l = l
described q (opens r p ∷ fs) l = described (q + 1) fs (sets l (descriptors_place q) (descriptor_block fs))
described q (const k w ∷ fs) l = described q fs l
described q (str x ∷ fs) l = described q fs l
described q (code w ∷ fs) l = described q fs l
described q (ends n ∷ fs) l = described q fs l
described q (bad k ∷ fs) l = described q fs l
described q (desc k n ∷ fs) l = described q fs l

-- ---- in the lent slices

-- xs at the front of l; "all beyond is unchanged"
abbrev pub laid : List ℕ → List ℕ → List ℕ
laid xs l = xs ++ drop (length xs) l

-- an image of n prototypes, laid in a storage
abbrev pub laid_in : ℕ → List F → Storage → Storage
laid_in n fs S =
    let xs = contents_of n fs in
    storage (described 0 fs (laid xs.table S.table)) (laid xs.code S.code) (laid xs.kinds S.kinds) (laid xs.words S.words)
    (laid xs.texts S.texts)

-- "sizes are published constants, none above 1,048,576": an image of 65,536 bytes has at most 32 prototypes, 5,041 instructions, 32 times 256 constants
-- (and the room of one prototype's constants behind them) and 32,768 bytes of strings
abbrev pub table_size : ℕ
table_size = table_slots

abbrev pub code_size : ℕ
code_size = 5041

abbrev pub constant_size : ℕ
constant_size = 8448

abbrev pub text_size : ℕ
text_size = 32768

-- slices of these sizes, all zero
abbrev pub blank_storage : Storage
blank_storage =
    storage (replicate table_size 0) (replicate code_size 0) (replicate constant_size 0) (replicate constant_size 0) (replicate text_size 0)

unfoldable pub long_enough : Storage → Bool
long_enough S =
    cond (leb table_size (length S.table))
    (cond (leb code_size (length S.code))
    (cond (leb constant_size (length S.kinds)) (cond (leb constant_size (length S.words)) (leb text_size (length S.texts)) false) false)
    false)
    false
