-- Writing a storage back: the answer, and what the output holds. Assumes nothing.
-- "Writer, checker and start give 5 for storage or state, then 6; the writer last gives 5 for an output shorter than the image. .. the writer its bytes, telling
-- how many; all beyond is unchanged."
use Rattle.std.specs.Prelude.{ℕ, ◌≡◌, List, [], ◌∷◌, ◌++◌, length, leb, cond, Result, Ok, Err}
use Rattle.image.specs.Write.{hex_of}
use Rattle.storage.specs.Layout.{Storage, long_enough, laid}
use Rattle.storage.specs.Stored.{image_in, reads_back}
use Rattle.writer.specs.declared.WriteRefusal.{WriteRefusal}
use Rattle.writer.specs.declared.WriteRefusal.TheVariants.{TooShort, NoImage, Other}

-- the numbers of the refusals; one that is neither stands for itself
abbrev pub write_number : WriteRefusal → ℕ
write_number TooShort = 5
write_number NoImage = 6
write_number (Other n) = n

-- how many bytes were written, or why none
abbrev pub Wrote : Type 0
Wrote = Result ℕ WriteRefusal

unfoldable pub write_of : Storage → List ℕ → Wrote
write_of S out =
    cond (long_enough S)
    (cond (reads_back S) (cond (leb (length (image_in S)) (length out)) (Ok (length (image_in S))) (Err TooShort)) (Err NoImage))
    (Err TooShort)

unfoldable pub out_of : Wrote → Storage → List ℕ → List ℕ
out_of (Ok n) S out = laid (image_in S) out
out_of (Err e) S out = out

pub record Written (S : Storage) (r : Wrote) (out out' : List ℕ) : Type 0 where
  pub answer : r ≡ write_of S out
  pub left : out' ≡ out_of r S out

-- ---- one line: "Lowercase digits in pairs, ended by LF"

abbrev pub line_of : List ℕ → List ℕ
line_of bytes = hex_of bytes ++ 10 ∷ []

-- at the front of an output that has room for it
pub record Lined (line : List ℕ) (r : ℕ) (out out' : List ℕ) : Type 0 where
  pub answer : r ≡ cond (leb (length line) (length out)) (length line) 0
  pub left : out' ≡ cond (leb (length line) (length out)) (laid line out) out
