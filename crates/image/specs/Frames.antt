-- The frames of an image, one a line, each judged by itself: 1 where the line is no text of pairs, 2 where it says nothing that a frame can say. Assumes nothing.
use Rattle.std.specs.Prelude.{ℕ, List, map, length, get_or, take, drop, leb, ltb, eqb, cond}
use Rattle.image.specs.Hex.{paired, bytes_of, word_from}
use Rattle.image.specs.Lines.{Line, ended, unended, lines, line_len}
use Rattle.image.specs.Instruction.{packed}
use Rattle.image.specs.declared.Frame.{Frame}
use Rattle.image.specs.declared.ReadError.{ReadError}
use Rattle.image.specs.declared.ReadError.TheVariants.{BrokenLine, BadFrame}
use Rattle.image.specs.declared.Frame.TheVariants.{Open, Const, Str, Code, End, Bad, Desc}

-- a frame with all that it says: a prototype's registers and parameters; a constant's tag and word (nil, boolean, integer, float); a string's bytes; an
-- instruction's number; the number of prototypes; or what is wrong with the line; a descriptor's kind and number
pub data F : Type 0 where
  opens : ℕ → ℕ → F
  const : ℕ → ℕ → F
  str : List ℕ → F
  code : ℕ → F
  ends : ℕ → F
  bad : ReadError → F
  desc : ℕ → ℕ → F

-- what the program's enum tells of a frame: of a string its length, since its bytes stay in the line
unfoldable pub shape : F → Frame
shape (opens r p) = Open r p
shape (const k w) = Const k w
shape (str l) = Str (length l)
shape (code w) = Code w
shape (ends n) = End n
shape (bad k) = Bad k
shape (desc k n) = Desc k n

-- "`a0` registers (1 to 255), parameters (at most the registers): opens a prototype"
unfoldable pub open_bytes : List ℕ → F
open_bytes f =
    cond (eqb (length f) 3)
    (cond (leb 1 (get_or f 1 0)) (cond (leb (get_or f 2 0) (get_or f 1 0)) (opens (get_or f 1 0) (get_or f 2 0)) (bad BadFrame)) (bad BadFrame))
    (bad BadFrame)

-- "`b0` tag and payload, a constant: 00 nil; 01 and 00 or 01; 02 and 8 bytes of integer; 03 and 8 bytes of float bits; 04 and 0 to 64 bytes of string"
-- how many bytes of payload a tag below 4 has, and its largest word
unfoldable pub payload : ℕ → ℕ
payload tag = cond (eqb tag 0) 0 (cond (eqb tag 1) 1 8)

unfoldable pub most_of : ℕ → ℕ
most_of tag = cond (eqb tag 0) 0 (cond (eqb tag 1) 1 0xffff_ffff_ffff_ffff)

unfoldable pub word_bytes_of : ℕ → List ℕ → F
word_bytes_of tag l =
    cond (eqb (length l) (payload tag)) (cond (leb (word_from 0 l) (most_of tag)) (const tag (word_from 0 l)) (bad BadFrame))
    (bad BadFrame)

unfoldable pub const_bytes : List ℕ → F
const_bytes f =
    cond (leb 2 (length f))
    (cond (ltb (get_or f 1 0) 4) (word_bytes_of (get_or f 1 0) (drop 2 f))
    (cond (eqb (get_or f 1 0) 4) (cond (leb (length f) 66) (str (drop 2 f)) (bad BadFrame)) (bad BadFrame)))
    (bad BadFrame)

-- "`c0` operation, flags, a, b, c, any bytes"
unfoldable pub code_bytes : List ℕ → F
code_bytes f =
    cond (eqb (length f) 6) (code (packed (get_or f 1 0) (get_or f 2 0) (get_or f 3 0) (get_or f 4 0) (get_or f 5 0)))
    (bad BadFrame)

-- "`e0` number of prototypes: last"
unfoldable pub end_bytes : List ℕ → F
end_bytes f = cond (eqb (length f) 2) (ends (get_or f 1 0)) (bad BadFrame)

-- document 02, 6/12: "descriptors (frames `d1`: 00 and a parent's register, or 01 and the parent's upvalue number)"
unfoldable pub desc_bytes : List ℕ → F
desc_bytes f = cond (eqb (length f) 3) (cond (leb (get_or f 1 0) 1) (desc (get_or f 1 0) (get_or f 2 0)) (bad BadFrame)) (bad BadFrame)

-- "The first byte is the kind."
unfoldable pub kind_bytes : List ℕ → F
kind_bytes f =
    cond (eqb (get_or f 0 0) 0xa0) (open_bytes f)
    (cond (eqb (get_or f 0 0) 0xb0) (const_bytes f)
    (cond (eqb (get_or f 0 0) 0xc0) (code_bytes f)
    (cond (eqb (get_or f 0 0) 0xe0) (end_bytes f) (cond (eqb (get_or f 0 0) 0xd1) (desc_bytes f) (bad BadFrame)))))

-- a line's text: 1 where "line is empty, not paired lowercase hex, or lacks LF"
unfoldable pub frame_of : List ℕ → F
frame_of l = cond (leb 1 (length l)) (cond (paired l) (kind_bytes (bytes_of l)) (bad BrokenLine)) (bad BrokenLine)

unfoldable pub line_frame : Line → F
line_frame (ended l) = frame_of l
line_frame (unended l) = bad BrokenLine

unfoldable pub frames_of : List ℕ → List F
frames_of s = map line_frame (lines s)

-- the first frame of what is left, read off by its length
unfoldable pub first_frame : List ℕ → F
first_frame s = cond (ltb (line_len s) (length s)) (frame_of (take (line_len s) s)) (bad BrokenLine)
