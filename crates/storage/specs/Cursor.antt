-- For the code's own steps: the frame that stands at a cursor of the storage, or Bad for 6 where none does, and how far the cursor goes. Assumes nothing.
use Rattle.std.specs.Prelude.{ℕ, ◌+◌, ◌-◌, ◌*◌, ◌/◌, ◌%◌, ◌^◌, List, length, get_or, leb, ltb, eqb, cond}
use Rattle.image.specs.Frames.{payload, most_of}
use Rattle.image.specs.declared.ReadError.TheVariants.{Other}
use Rattle.image.specs.declared.Frame.{Frame}
use Rattle.image.specs.declared.Frame.TheVariants.{Open, Const, Str, Code, End, Bad, Desc}
use Rattle.storage.specs.Fields.{descriptors_of, descriptor_of}
use Rattle.storage.specs.declared.Tops.{Tops}

-- a string's word: where it starts, which is where the texts are passed up to, and its length
unfoldable pub next_text : ℕ → ℕ → ℕ → Frame
next_text top w n =
    cond (leb (top * 65536) w)
    (cond (leb (w - top * 65536) 64) (cond (leb (top + (w - top * 65536)) n) (Str (w - top * 65536)) (Bad (Other 6))) (Bad (Other 6)))
    (Bad (Other 6))

unfoldable pub next_const : Tops → List ℕ → List ℕ → List ℕ → Frame
next_const t k w x =
    cond (ltb t.consts (length k))
    (cond (ltb t.consts (length w))
    (cond (ltb (get_or k t.consts 0) 4)
    (cond (leb (get_or w t.consts 0) (most_of (get_or k t.consts 0))) (Const (get_or k t.consts 0) (get_or w t.consts 0)) (Bad (Other 6)))
    (cond (eqb (get_or k t.consts 0) 4) (next_text t.texts (get_or w t.consts 0) (length x)) (Bad (Other 6))))
    (Bad (Other 6)))
    (Bad (Other 6))

unfoldable pub next_code : Tops → List ℕ → Frame
next_code t c =
    cond (ltb t.codes (length c)) (cond (ltb (get_or c t.codes 0) (2 ^ 40)) (Code (get_or c t.codes 0)) (Bad (Other 6)))
    (Bad (Other 6))

unfoldable pub next_entry : Tops → ℕ → ℕ → Frame
next_entry t r p =
    cond (eqb r 0) (cond (eqb p 0) (End (t.entries / 4)) (Bad (Other 6)))
    (cond (leb r 255) (cond (leb p r) (Open r p) (Bad (Other 6))) (Bad (Other 6)))

-- the prototype that was opened last, where one was, and how many descriptors it has
abbrev pub current : Tops → ℕ
current t = t.entries / 4 - 1

abbrev pub descriptors_here : Tops → List ℕ → ℕ
descriptors_here t l = cond (leb 5 t.entries) (descriptors_of l (current t)) 0

unfoldable pub next_desc : ℕ → Frame
next_desc w = cond (ltb w 512) (Desc (w / 256) (w % 256)) (Bad (Other 6))

unfoldable pub next_frame : Tops → List ℕ → List ℕ → List ℕ → List ℕ → List ℕ → Frame
next_frame t l c k w x =
    cond (leb (t.entries + 4) (length l))
    (cond (ltb t.descs (descriptors_here t l)) (next_desc (descriptor_of l (current t) t.descs))
    (cond (ltb t.consts (get_or l (t.entries + 2) 0)) (next_const t k w x)
    (cond (eqb t.consts (get_or l (t.entries + 2) 0))
    (cond (ltb t.codes (get_or l (t.entries + 3) 0)) (next_code t c)
    (cond (eqb t.codes (get_or l (t.entries + 3) 0)) (next_entry t (get_or l t.entries 0) (get_or l (t.entries + 1) 0)) (Bad (Other 6))))
    (Bad (Other 6)))))
    (Bad (Other 6))

-- how many bytes a frame's line has
unfoldable pub size_of : Frame → ℕ
size_of (Open r p) = 7
size_of (Const k w) = 5 + 2 * payload k
size_of (Str n) = 5 + 2 * n
size_of (Code w) = 13
size_of (End n) = 5
size_of (Bad k) = 1
size_of (Desc k n) = 7

unfoldable pub past : Tops → Frame → Tops
past t (Open r p) = record { entries = t.entries + 4; codes = t.codes; consts = t.consts; texts = t.texts; descs = 0 }
past t (Const k w) = record { entries = t.entries; codes = t.codes; consts = t.consts + 1; texts = t.texts; descs = t.descs }
past t (Str n) = record { entries = t.entries; codes = t.codes; consts = t.consts + 1; texts = t.texts + n; descs = t.descs }
past t (Code w) = record { entries = t.entries; codes = t.codes + 1; consts = t.consts; texts = t.texts; descs = t.descs }
past t (End n) = record { entries = t.entries + 4; codes = t.codes; consts = t.consts; texts = t.texts; descs = t.descs }
past t (Bad k) = t
past t (Desc k n) = record { entries = t.entries; codes = t.codes; consts = t.consts; texts = t.texts; descs = t.descs + 1 }
