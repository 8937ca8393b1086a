-- Reader and writer together, over what the two promise: an accepted image, written back, is the same bytes; what is written reads back to the same contents; and no
-- two images leave one storage. Each follows from `only-image` of crate storage, that a storage says one image. Assumes nothing.
use Prim.Native.Nat.{ℕ, ◌≤◌}
use native.Mathlib.Omega.{arith}
use mathlib.Core.Path.{◌≡◌, refl, ◌∙◌}
use mathlib.Core.Bool.{true}
use mathlib.Core.List.{List}
use lib.ListN.{length, take, drop, length-append, length-drop}
use lib.Seq.{take-append_seam}
use lib.Dec.{leb}
use borrow.Author.Tests.{le-leb, leb-true}
use Rattle.image.specs.Frames.{F, frames_of}
use Rattle.std.specs.Prelude.{Ok, Err}
use Rattle.image.specs.Judge.{Judged}
use Rattle.choices.proofs.Choices.{by_bool, cond-true}
use Rattle.storage.specs.Layout.{Storage, contents_of, laid, laid_in, table_size, code_size, constant_size, text_size, long_enough}
use Rattle.storage.specs.Stored.{ReadsTo, image_in, reads_back}
use Rattle.storage.proofs.Six.{only-image, one-image, readable, readable_back}
use Rattle.reader.specs.Reading.{read_of, left_of, Read}
use Rattle.reader.proofs.Described.{described-length}
use Rattle.reader.proofs.Contents.{reads-to}
use Rattle.writer.specs.Writing.{Wrote, write_of, out_of, Written}
use Rattle.writer.specs.declared.WriteRefusal.{WriteRefusal}

-- ---- what reading an image leaves

-- the reader accepted: the storage was long enough, and the image's contents are left
read-parts : {s : List ℕ} {q : ℕ} {S S' : Storage} → Read s (Ok q) S S' → (long_enough S ≡ true) × (S' ≡ laid_in q (frames_of s) S)
unfolding left_of
read-parts {s} {q} {S} {S'} r = (tested r.answer, r.left)
  where
    tested : Ok q ≡ read_of s S → long_enough S ≡ true
    tested = unfold read_of in
        by_bool (long_enough S) (λ l. rw l (λ e. refl)) (λ l. rw l (λ e. let z : ◌≡◌ {A = ℕ} 0 1 = cc in absurd (omega arith)))

pub left-long : (n : ℕ) (fs : List F) (S : Storage) → long_enough S ≡ true → long_enough (laid_in n fs S) ≡ true
unfolding long_enough
left-long n fs S h =
    let X = contents_of n fs in
    let a = cond-true _ _ h in
    let b = cond-true _ _ a.1 in
    let c = cond-true _ _ b.1 in
    let d = cond-true _ _ c.1 in
    simp (
      described-length 0 fs (laid X.table S.table),
      longer X.table S.table table_size a.0,
      longer X.code S.code code_size b.0,
      longer X.kinds S.kinds constant_size c.0,
      longer X.words S.words constant_size d.0,
      longer X.texts S.texts text_size d.1,
    )
  where
    longer : (xs l : List ℕ) (n : ℕ) → leb n (length l) ≡ true → leb n (length (laid xs l)) ≡ true
    longer xs l n h =
        le-leb n (length (laid xs l))
        (omega (arith, leb-true n (length l) h, length-append xs (drop (length xs) l), length-drop (length xs) l))

-- ---- an accepted image, written back, is the same bytes

-- where an image reads to the storage, and storage and output are long enough, the writer answers its length and leaves its bytes at the front
pub written_back :
    {s : List ℕ} {S : Storage} {r : Wrote} {out out' : List ℕ} → ReadsTo s S → long_enough S ≡ true → length s ≤ length out
    → Written S r out out' → (r ≡ Ok (length s)) × (out' ≡ laid s out)
unfolding write_of out_of
written_back {s} {S} {r} {out} {out'} t l h w =
    let i = only-image t in
    let a : r ≡ Ok (length s) = w.answer ∙ rw (l, readable_back t, i) (simp (le-leb _ _ h)) in
    (a, w.left ∙ rw (a, i))

pub read-written :
    {s : List ℕ} {q : ℕ} {S S' : Storage} {r : Wrote} {out out' : List ℕ} → Read s (Ok q) S S' → length s ≤ length out
    → Written S' r out out' → (r ≡ Ok (length s)) × (out' ≡ laid s out)
read-written {s} {q} {S} {S'} t h w =
    let p = read-parts t in
    written_back (reads-to s q S S' t) (rw p.1 (left-long q (frames_of s) S p.0)) h w

-- ---- what is written reads back to the same contents

never : {X : Type 0} {n : ℕ} {e : WriteRefusal} → ◌≡◌ {A = Wrote} (Ok n) (Err e) → X
never e = let z : ◌≡◌ {A = ℕ} 0 1 = cc in absurd (omega arith)

-- the n bytes that the writer left are an image that reads to the storage that was written
pub reads-back : {S : Storage} {n : ℕ} {out out' : List ℕ} → Written S (Ok n) out out' → ReadsTo (take n out') S
unfolding write_of out_of
reads-back {S} {n} {out} {out'} w =
    let b = wrote w.answer in
    let e : take n out' ≡ image_in S = rw (w.left, b.1) (take-append_seam (image_in S) (drop (length (image_in S)) out)) in
    rw e (readable S b.0)
  where
    wrote : Ok n ≡ write_of S out → (reads_back S ≡ true) × (n ≡ length (image_in S))
    wrote = unfold write_of in
        by_bool (long_enough S)
        (λ l. by_bool (reads_back S)
        (λ b. by_bool (leb (length (image_in S)) (length out)) (λ h. rw (l, b, h) (λ e. (refl, cc))) (λ h. rw (l, b, h) (λ e. never e)))
        (λ b. rw (l, b) (λ e. never e)))
        (λ l. rw l (λ e. never e))

-- read into any storage that is long enough, they are accepted, and lie there as they lie in the storage that was written
pub written_read :
    {S T T' : Storage} {n : ℕ} {out out' : List ℕ} {r : Judged} (w : Written S (Ok n) out out') → long_enough T ≡ true
    → Read (take n out') r T T' → (r ≡ Ok (reads-back w).count) × (T' ≡ laid_in (reads-back w).count (frames_of (take n out')) T)
unfolding read_of left_of
written_read {S} {T} {T'} {n} {out} {out'} {r} w l t =
    let a : r ≡ Ok (reads-back w).count = t.answer ∙ rw l (reads-back w).accepted in
    (a, t.left ∙ rw a)

-- ---- no two images leave one storage

pub no-two :
    {s t : List ℕ} {q p : ℕ} {S T S' : Storage} → Read s (Ok q) S S' → Read t (Ok p) T S' → s ≡ t
no-two {s} {t} {q} {p} {S} {T} {S'} r u = one-image (reads-to s q S S' r) (reads-to t p T S' u)
