-- The image that a storage says, and the test behind 6: "no image reads to this storage's prototypes". Assumes nothing.
-- proofs/Six shows both directions: `reads_back S` is true exactly when there is an image that reads to S, and `image_in S` is then the only one.
use Rattle.std.specs.Prelude.{ℕ, zero, suc, ◌+◌, ◌/◌, ◌%◌, ◌≡◌, Bool, true, false, cond, List, [], ◌∷◌, ◌++◌, length, get_or, take, eqb, Option, Some, None, Ok, Err}
use Rattle.slices.specs.Ranges.{text_at}
use Rattle.image.specs.Frames.{F, opens, const, str, code, ends, bad, desc, frames_of}
use Rattle.image.specs.Judge.{Judged, judge_of}
use Rattle.image.specs.Write.{written}
use Rattle.storage.specs.Layout.{Storage, contents_of, descriptor_block}
use Rattle.storage.specs.Fields.{prototypes_of, registers_of, parameters_of, first_constant, first_instruction, constants_of, instructions_of, descriptors_place, descriptors_of, descriptor_of}

-- ---- the frames that a storage says

-- constant i of the whole image
unfoldable pub const_frame : Storage → ℕ → F
const_frame S i =
    cond (eqb (get_or S.kinds i 0) 4) (str (text_at (get_or S.words i 0) S.texts))
    (const (get_or S.kinds i 0) (get_or S.words i 0))

-- n constants from i on, n instructions from i on
unfoldable pub const_frames : Storage → ℕ → ℕ → List F
const_frames S zero i = []
const_frames S (suc n) i = const_frame S i ∷ const_frames S n (i + 1)

unfoldable pub code_frames : Storage → ℕ → ℕ → List F
code_frames S zero i = []
code_frames S (suc n) i = code (get_or S.code i 0) ∷ code_frames S n (i + 1)

-- n descriptors of prototype q from i on
unfoldable pub desc_frame : ℕ → F
desc_frame w = desc (w / 256) (w % 256)

unfoldable pub desc_frames : Storage → ℕ → ℕ → ℕ → List F
desc_frames S q zero i = []
desc_frames S q (suc n) i = desc_frame (descriptor_of S.table q i) ∷ desc_frames S q n (i + 1)

-- prototype q; n prototypes from q on; all of them and e0
unfoldable pub proto_frames : Storage → ℕ → List F
proto_frames S q =
    opens (registers_of S.table q) (parameters_of S.table q)
    ∷ desc_frames S q (descriptors_of S.table q) 0
    ++ const_frames S (constants_of S.table q) (first_constant S.table q)
    ++ code_frames S (instructions_of S.table q) (first_instruction S.table q)

unfoldable pub protos_frames : Storage → ℕ → ℕ → List F
protos_frames S zero q = []
protos_frames S (suc n) q = proto_frames S q ++ protos_frames S n (q + 1)

unfoldable pub frames_in : Storage → List F
frames_in S = protos_frames S (prototypes_of S.table) 0 ++ ends (prototypes_of S.table) ∷ []

-- the bytes that the writer writes
unfoldable pub image_in : Storage → List ℕ
image_in S = written (frames_in S)

-- ---- the test behind 6

-- xs stands at place p of l, where what is not there reads as 0
unfoldable pub holds_at : List ℕ → ℕ → List ℕ → Bool
holds_at l p [] = true
holds_at l p (x ∷ xs) = cond (eqb (get_or l p 0) x) (holds_at l (p + 1) xs) false

-- the table has the descriptors of every prototype that fs opens, the first of them number q
unfoldable pub describes : ℕ → List F → List ℕ → Bool
describes q [] l = true
describes q (opens r p ∷ fs) l = cond (holds_at l (descriptors_place q) (descriptor_block fs)) (describes (q + 1) fs l) false
describes q (const k w ∷ fs) l = describes q fs l
describes q (str x ∷ fs) l = describes q fs l
describes q (code w ∷ fs) l = describes q fs l
describes q (ends n ∷ fs) l = describes q fs l
describes q (bad k ∷ fs) l = describes q fs l
describes q (desc k n ∷ fs) l = describes q fs l

-- an image reads to a storage: it is accepted, and what it fills stands at the front of each slice, and its descriptors at their places
pub record ReadsTo (s : List ℕ) (S : Storage) : Type 0 where
  pub count : ℕ
  pub accepted : judge_of s ≡ Ok count
  pub table : take (length (contents_of count (frames_of s)).table) S.table ≡ (contents_of count (frames_of s)).table
  pub code : take (length (contents_of count (frames_of s)).code) S.code ≡ (contents_of count (frames_of s)).code
  pub kinds : take (length (contents_of count (frames_of s)).kinds) S.kinds ≡ (contents_of count (frames_of s)).kinds
  pub words : take (length (contents_of count (frames_of s)).words) S.words ≡ (contents_of count (frames_of s)).words
  pub texts : take (length (contents_of count (frames_of s)).texts) S.texts ≡ (contents_of count (frames_of s)).texts
  pub descriptors : describes 0 (frames_of s) S.table ≡ true

-- the same as a test
unfoldable pub starts_with : List ℕ → List ℕ → Bool
starts_with [] l = true
starts_with (x ∷ xs) [] = false
starts_with (x ∷ xs) (y ∷ l) = cond (eqb x y) (starts_with xs l) false

unfoldable pub stands_in : Storage → Storage → Bool
stands_in xs S =
    cond (starts_with xs.table S.table)
    (cond (starts_with xs.code S.code)
    (cond (starts_with xs.kinds S.kinds) (cond (starts_with xs.words S.words) (starts_with xs.texts S.texts) false) false)
    false)
    false

unfoldable pub back_in : Judged → List F → Storage → Bool
back_in (Ok n) fs S = cond (stands_in (contents_of n fs) S) (describes 0 fs S.table) false
back_in (Err e) fs S = false

-- what would be written reads back to this storage
unfoldable pub reads_back : Storage → Bool
reads_back S = back_in (judge_of (image_in S)) (frames_of (image_in S)) S

-- the length of the image; none where 6 is the answer
unfoldable pub valid_of : Storage → Option ℕ
valid_of S = cond (reads_back S) (Some (length (image_in S))) None
