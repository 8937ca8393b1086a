-- What the code's own steps give: one line read, one frame put, all frames put. Assumes nothing.
use Rattle.std.specs.Prelude.{◌≡◌, ℕ, ◌+◌, ◌-◌, ◌/◌, ◌<◌, ◌≤◌, List, [], ◌∷◌, length, drop, slice_set}
use Rattle.std.proofs.lemmas.List.Edits.{sets}
use Rattle.image.specs.Lines.{line_len}
use Rattle.image.specs.Frames.{F, opens, const, str, code, ends, bad, desc, shape, frames_of, first_frame}
use Rattle.storage.specs.declared.Tops.{Tops}
use Rattle.storage.specs.Fields.{descriptors_place}
use Rattle.storage.specs.Layout.{entry_of, codes_of, kinds_of, words_of, texts_of, descriptor_word, contents_of, code_size, constant_size, text_size}
use Rattle.reader.specs.declared.line.Next.{Next}

-- the line at `at` was read: its frame, where its text ends, and the frames after it stand at r.next
pub record Advance (s : List ℕ) (at : ℕ) (r : Next) : Type 0 where
  pub here : r.frame ≡ shape (first_frame (drop at s))
  pub list : frames_of (drop at s) ≡ first_frame (drop at s) ∷ frames_of (drop r.next s)
  pub text : r.end ≡ at + line_len (drop at s)
  pub more : at < r.next
  pub within : r.next ≤ length s

-- no top can overflow by one frame more
pub record Small (t : Tops) : Type 0 where
  pub entries : t.entries ≤ 1048576
  pub codes : t.codes ≤ 1048576
  pub consts : t.consts ≤ 1048576
  pub texts : t.texts ≤ 1048576
  pub descs : t.descs ≤ 1048576

-- prototype q's descriptor d was put, its last one so far: its word, and how many there are now
abbrev pub descriptor_put : ℕ → ℕ → ℕ → List ℕ → List ℕ
descriptor_put q d w l = slice_set (slice_set l (descriptors_place q + (1 + d)) w) (descriptors_place q) (d + 1)

-- what one frame stores of descriptors, where the next entry goes to `at` and the prototype that was opened last has d so far
unfoldable pub desc_put : ℕ → ℕ → F → List ℕ → List ℕ
desc_put at d (opens r p) l = slice_set l (descriptors_place (at / 4)) 0
desc_put at d (const k w) l = l
desc_put at d (str x) l = l
desc_put at d (code w) l = l
desc_put at d (ends n) l = l
desc_put at d (bad k) l = l
desc_put at d (desc k n) l = descriptor_put (at / 4 - 1) d (descriptor_word k n) l

-- how many that one has then
unfoldable pub desc_top : ℕ → F → ℕ
desc_top d (opens r p) = 0
desc_top d (const k w) = d
desc_top d (str x) = d
desc_top d (code w) = d
desc_top d (ends n) = d
desc_top d (bad k) = d
desc_top d (desc k n) = d + 1

-- all frames, one after the other
unfoldable pub desc_puts : ℕ → ℕ → List F → List ℕ → List ℕ
desc_puts at d [] l = l
desc_puts at d (f ∷ fs) l = desc_puts (at + length (entry_of 0 0 f)) (desc_top d f) fs (desc_put at d f l)

-- one frame was put at the tops t; r is how far the slices are filled now
pub record FramePut (t r : Tops) (f : F) (l l' c c' k k' w w' x x' : List ℕ) : Type 0 where
  pub top_entries : r.entries ≡ t.entries + length (entry_of t.consts t.codes f)
  pub top_codes : r.codes ≡ t.codes + length (codes_of f)
  pub top_consts : r.consts ≡ t.consts + length (kinds_of f)
  pub top_texts : r.texts ≡ t.texts + length (texts_of f)
  pub top_descs : r.descs ≡ desc_top t.descs f
  pub table : l' ≡ desc_put t.entries t.descs f (sets l t.entries (entry_of t.consts t.codes f))
  pub code : c' ≡ sets c t.codes (codes_of f)
  pub kinds : k' ≡ sets k t.consts (kinds_of f)
  pub words : w' ≡ sets w t.consts (words_of t.texts f)
  pub texts : x' ≡ sets x t.texts (texts_of f)

-- the published sizes suffice for what the frames append; the table's entries end before the descriptors
pub record Suffice (n : ℕ) (fs : List F) : Type 0 where
  pub table : length (contents_of n fs).table ≤ descriptors_place 0
  pub code : length (contents_of n fs).code ≤ code_size
  pub kinds : length (contents_of n fs).kinds ≤ constant_size
  pub words : length (contents_of n fs).words ≤ constant_size
  pub texts : length (contents_of n fs).texts ≤ text_size
  pub frames : length fs ≤ 65536

-- all of it was stored, from the front on, and the descriptors at their places
pub record Filled (n : ℕ) (fs : List F) (l l' c c' k k' w w' x x' : List ℕ) : Type 0 where
  pub table : l' ≡ desc_puts 1 0 fs (sets l 0 (contents_of n fs).table)
  pub code : c' ≡ sets c 0 (contents_of n fs).code
  pub kinds : k' ≡ sets k 0 (contents_of n fs).kinds
  pub words : w' ≡ sets w 0 (contents_of n fs).words
  pub texts : x' ≡ sets x 0 (contents_of n fs).texts
