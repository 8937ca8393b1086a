-- What the test behind 6 means: "no image reads to this storage's prototypes". The storage says one image, `image_in S`; if any image
-- reads to the storage it is that one, and the test asks whether it does. Assumes nothing.
use Prim.Native.Nat.{ℕ, ◌≤◌}
use native.Mathlib.Omega.{arith}
use mathlib.Core.Path.{◌≡◌, refl, sym, ap, ◌∙◌}
use mathlib.Core.Bool.{Bool, true, false}
use mathlib.Core.List.{List}
use lib.ListN.{length}
use Rattle.image.specs.Judge.{judge_of}
use Rattle.image.specs.Frames.{frames_of}
use Rattle.image.specs.Write.{written}
use Rattle.choices.proofs.Choices.{by_bool}
use Rattle.image.proofs.Trip.{round_trip, accepted_said}
use Rattle.storage.specs.Layout.{Storage}
use Rattle.storage.specs.Stored.{ReadsTo, image_in, reads_back, valid_of}
use Rattle.std.specs.Prelude.{Some, None}
use Rattle.storage.proofs.Order.{frames-in}
use Rattle.storage.proofs.Reading.{back-reads, reads-back, accepted_short, reads_frames}

-- an image that reads to a storage is the one that the storage says
pub only-image : {s : List ℕ} {S : Storage} → ReadsTo s S → image_in S ≡ s
unfolding image_in
only-image {s} {S} r =
    let f = reads_frames r in
    ap written (sym (frames-in S (frames_of s) f.runs (accepted_said s r.count r.accepted) f.lies f.descriptors))
    ∙ round_trip s r.count r.accepted

-- so two different images never leave the same storage
pub one-image : {s t : List ℕ} {S : Storage} → ReadsTo s S → ReadsTo t S → s ≡ t
one-image r u = sym (only-image r) ∙ only-image u

-- the test is true: the image that the storage says reads to it
pub readable : (S : Storage) → reads_back S ≡ true → ReadsTo (image_in S) S
unfolding reads_back
readable S e = back-reads (image_in S) S (judge_of (image_in S)) refl e

-- some image reads to the storage: the test is true
pub readable_back : {s : List ℕ} {S : Storage} → ReadsTo s S → reads_back S ≡ true
unfolding reads_back
readable_back r = rw (only-image r) (reads-back r)

-- 6 exactly where no image reads to the storage
pub six : (S : Storage)
    → (reads_back S ≡ false → (s : List ℕ) → ReadsTo s S → ⊥) × (((s : List ℕ) → ReadsTo s S → ⊥) → reads_back S ≡ false)
six S = (
  λ e s r. let z : ◌≡◌ {A = ℕ} 0 1 = clash e (readable_back r) in omega arith,
  λ n. by_bool (reads_back S) (λ e. absurd (n (image_in S) (readable S e))) (λ e. e),
)
  where
    clash : {b : Bool} → b ≡ false → b ≡ true → ◌≡◌ {A = ℕ} 0 1
    clash e f = cc

-- "Limits: 65,536 image bytes"
pub fits : {s : List ℕ} {S : Storage} → ReadsTo s S → length s ≤ 65536
fits {s} r = (accepted_short s r.count r.accepted).0

-- ---- the answer of `valid`: the length of the image, or none, which is 6

pub bytes-answer : {s : List ℕ} {S : Storage} → ReadsTo s S → valid_of S ≡ Some (length s)
unfolding valid_of
bytes-answer r = rw (readable_back r, only-image r)

pub six-answer : (S : Storage) → ((s : List ℕ) → ReadsTo s S → ⊥) → valid_of S ≡ None
unfolding valid_of
six-answer S n = rw ((six S).1 n)

pub answered-bytes : (S : Storage) (b : ℕ) → valid_of S ≡ Some b → ReadsTo (image_in S) S × (length (image_in S) ≡ b)
unfolding valid_of
answered-bytes S b =
    by_bool (reads_back S) (λ h. rw h (λ e. (readable S h, cc))) (λ h. rw h (λ e. let z : ◌≡◌ {A = ℕ} 0 1 = cc in absurd (omega arith)))

pub answered-six : (S : Storage) → valid_of S ≡ None → (s : List ℕ) → ReadsTo s S → ⊥
answered-six S e s r = let g = bytes-answer r in let z : ◌≡◌ {A = ℕ} 0 1 = cc in omega arith
