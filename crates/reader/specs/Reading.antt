-- Reading an image whole: the answer, and what the lent storage holds. Assumes nothing.
-- "Reading: 5, then 3 for image length, then lines from 0 in order up to e0, each by 1, 2, 3"; "An accepted image fills the used storage".
use Rattle.std.specs.Prelude.{◌≡◌, ℕ, cond, List, Ok, Err}
use Rattle.image.specs.Frames.{F, frames_of}
use Rattle.image.specs.Judge.{Judged, refused, judge_of}
use Rattle.image.specs.declared.ReadError.TheVariants.{ShortStorage}
use Rattle.storage.specs.Layout.{Storage, laid_in, long_enough}

unfoldable pub read_of : List ℕ → Storage → Judged
read_of image S = cond (long_enough S) (judge_of image) (refused ShortStorage 0)

-- "storage untouched"
unfoldable pub left_of : Judged → List F → Storage → Storage
left_of (Ok n) fs S = laid_in n fs S
left_of (Err e) fs S = S

pub record Read (image : List ℕ) (r : Judged) (S S' : Storage) : Type 0 where
  pub answer : r ≡ read_of image S
  pub left : S' ≡ left_of r (frames_of image) S
