-- What reading leaves: the answer by the tests that led to it, the image's contents in the slices, and that the image then reads to the storage in the sense that
-- writer, checker and start test. Assumes nothing.
use Rattle.std.proofs.Common.{◌≡◌, ℕ, ◌≤◌, true, false, List, ◌++◌, Ok, Err, IsErrAnd, length, take, drop, sym, refl, ap, ◌∙◌, zero-add, arith, length-append, length-drop, leb-true}
use lib.Seq.{sets, sets-eq, take-append_seam}
use Rattle.image.specs.Frames.{frames_of}
use Rattle.image.specs.Judge.{Judged, refused, start, judge_of}
use Rattle.image.specs.declared.ReadRefusal.{ReadRefusal}
use Rattle.image.specs.declared.ReadError.TheVariants.{ShortStorage}
use Rattle.storage.specs.Layout.{Storage, storage, contents_of, laid, long_enough, table_size, code_size, constant_size, text_size, described}
use Rattle.storage.specs.Stored.{ReadsTo}
use Rattle.storage.proofs.Runs.{Runs, accepted_runs}
use Rattle.storage.proofs.Reading.{accepted_short}
use Rattle.reader.specs.Reading.{Read, read_of, left_of}
use Rattle.reader.specs.Steps.{Filled}
use Rattle.choices.proofs.Choices.{cond_cases, cond-true}
use Rattle.reader.proofs.Bounds.{sizes_suffice}
use Rattle.reader.proofs.Described.{puts-described, described-front, described-tells}

-- ---- the answer

module _ (image : List ℕ) (S : Storage) where
  pub too_short : long_enough S ≡ false → Read image (refused ShortStorage 0) S S
  unfolding read_of left_of
  too_short e = record { answer = rw e; left = refl }

  -- x hands on the judge's refusal
  pub refused_read : (x : Judged) (r : ReadRefusal) → IsErrAnd x (λ (y : ReadRefusal). y ≡ r) → long_enough S ≡ true → judge_of image ≡ Err r
      → Read image x S S
  unfolding read_of left_of
  refused_read (Ok n) r h e j = absurd h
  refused_read (Err y) r h e j = record { answer = rw (e, j, h); left = refl }

-- ---- the contents

record Long (t c k w x : List ℕ) : Type 0 where
  table : table_size ≤ length t
  code : code_size ≤ length c
  kinds : constant_size ≤ length k
  words : constant_size ≤ length w
  texts : text_size ≤ length x

long-slices : (t c k w x : List ℕ) → long_enough (storage t c k w x) ≡ true → Long t c k w x
unfolding long_enough
long-slices t c k w x e =
    let a = cond-true _ _ e in
    let b = cond-true _ _ a.1 in
    let d = cond-true _ _ b.1 in
    let f = cond-true _ _ d.1 in
    record { table = leb-true _ _ a.0; code = leb-true _ _ b.0; kinds = leb-true _ _ d.0; words = leb-true _ _ f.0; texts = leb-true _ _ f.1 }

sets-laid : (xs l : List ℕ) → length xs ≤ length l → sets l 0 xs ≡ laid xs l
sets-laid xs l h = sets-eq xs l 0 (omega arith) ∙ ap (λ (n : ℕ). xs ++ drop n l) (zero-add (length xs))

runs : (image : List ℕ) (n : ℕ) → judge_of image ≡ Ok n → Runs start n (frames_of image)
runs image n j = accepted_runs (frames_of image) start 0 n (accepted_short image n j).1

module _ (image : List ℕ) (n : ℕ) (t c k w x : List ℕ) (e : long_enough (storage t c k w x) ≡ true) (j : judge_of image ≡ Ok n) where
  pub accepted : (t' c' k' w' x' : List ℕ) → Filled n (frames_of image) t t' c c' k k' w w' x x'
      → Read image (Ok n) (storage t c k w x) (storage t' c' k' w' x')
  unfolding read_of left_of
  accepted t' c' k' w' x' f =
      let X = contents_of n (frames_of image) in
      let l = long-slices t c k w x e in
      let s = sizes_suffice image n j in
      record {
        answer = rw (e, j);
        left =
            rw (
              f.table ∙ puts-described (runs image n j) _ ∙ ap (described 0 (frames_of image)) (sets-laid X.table t (omega (arith, s.table, l.table))),
              f.code ∙ sets-laid X.code c (omega (arith, s.code, l.code)),
              f.kinds ∙ sets-laid X.kinds k (omega (arith, s.kinds, l.kinds)),
              f.words ∙ sets-laid X.words w (omega (arith, s.words, l.words)),
              f.texts ∙ sets-laid X.texts x (omega (arith, s.texts, l.texts)),
            );
      }

-- ---- after Ok the image reads to the storage

front : (xs l : List ℕ) → take (length xs) (laid xs l) ≡ xs
front xs l = take-append_seam xs (drop (length xs) l)

laid-length : (xs l : List ℕ) → length l ≤ length (laid xs l)
laid-length xs l = omega (arith, length-append xs (drop (length xs) l), length-drop (length xs) l)

judged : (image : List ℕ) (n : ℕ) (S : Storage) → Ok n ≡ read_of image S → (long_enough S ≡ true) × (judge_of image ≡ Ok n)
unfolding read_of
judged image n S =
    cond_cases (λ (j : Judged). Ok n ≡ j → (long_enough S ≡ true) × (judge_of image ≡ Ok n)) (long_enough S) _ _ (λ h e. (h, sym e))
    (λ h e. let z : ◌≡◌ {A = ℕ} 0 1 = cc in absurd (omega arith))

pub reads-to : (image : List ℕ) (n : ℕ) (S S' : Storage) → Read image (Ok n) S S' → ReadsTo image S'
unfolding left_of
reads-to image n S S' r =
    let fs = frames_of image in
    let j = judged image n S r.answer in
    let X = (contents_of n fs).table in
    let l = long-slices S.table S.code S.kinds S.words S.texts j.0 in
    rw r.left
    (record {
      count = n;
      accepted = j.1;
      table = described-front (length X) 0 fs (laid X S.table) (sizes_suffice image n j.1).table ∙ front X S.table;
      code = front _ S.code;
      kinds = front _ S.kinds;
      words = front _ S.words;
      texts = front _ S.texts;
      descriptors = described-tells (runs image n j.1) (laid X S.table) (omega (arith, l.table, laid-length X S.table));
    })
