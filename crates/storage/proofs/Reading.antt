-- That an image reads to a storage, as a test and as frames that lie in the storage. Assumes nothing.
use Prim.Native.Nat.{ℕ, suc, ◌≤◌}
use native.Mathlib.Omega.{arith}
use mathlib.Core.Path.{◌≡◌, refl, sym, ap, ap₂}
use mathlib.Core.Bool.{true}
use mathlib.Core.List.{List, [], ◌∷◌}
use lib.ListN.{length, take}
use lib.Dec.{ltb}
use borrow.Author.Tests.{le-ltb, ltb-false, eqb-true, eq-eqb}
use Rattle.image.specs.Frames.{frames_of}
use Rattle.image.specs.Judge.{Judged, start, judge_frames, judge_of}
use Rattle.std.specs.Prelude.{Ok, Err}
use Rattle.choices.proofs.Choices.{cond_cases, cond-true}
use Rattle.storage.specs.Layout.{Storage, contents_of}
use Rattle.storage.specs.Fields.{prototypes_of}
use Rattle.storage.specs.Stored.{ReadsTo, describes, starts_with, stands_in, back_in}
use Rattle.storage.proofs.Places.{at-cons, at_head, at_rest, at-fits}
use Rattle.storage.proofs.Runs.{Runs, accepted_runs}
use Rattle.storage.proofs.Lies.{Stands, all}
use Rattle.storage.proofs.Seen.{entry-of}
use Rattle.storage.proofs.Order.{front}

-- ---- the test

starts-take : (xs l : List ℕ) → starts_with xs l ≡ true → take (length xs) l ≡ xs
unfolding starts_with
starts-take [] l e = refl
starts-take (x ∷ xs) [] e = let z : ◌≡◌ {A = ℕ} 0 1 = cc in absurd (omega arith)
starts-take (x ∷ xs) (y ∷ l) e =
    let p = cond-true _ _ e in
    ap₂ (λ (z : ℕ) (r : List ℕ). z ∷ r) (sym (eqb-true _ _ p.0)) (starts-take xs l p.1)

take-starts : (xs l : List ℕ) → take (length xs) l ≡ xs → starts_with xs l ≡ true
unfolding starts_with
take-starts [] l e = refl
take-starts (x ∷ xs) [] e = let z : 0 ≡ suc (length xs) = ap length e in absurd (omega arith)
take-starts (x ∷ xs) (y ∷ l) e =
    let a : y ≡ x = cc in
    let b : take (length xs) l ≡ xs = cc in
    simp (eq-eqb x y (sym a)) (take-starts xs l b)

pub back-reads : (s : List ℕ) (S : Storage) (j : Judged) → judge_of s ≡ j → back_in j (frames_of s) S ≡ true → ReadsTo s S
unfolding back_in stands_in
back-reads s S (Ok n) e h =
    let g = cond-true _ _ h in
    let a = cond-true _ _ g.0 in
    let b = cond-true _ _ a.1 in
    let c = cond-true _ _ b.1 in
    let d = cond-true _ _ c.1 in
    record {
      count = n;
      accepted = e;
      table = starts-take _ _ a.0;
      code = starts-take _ _ b.0;
      kinds = starts-take _ _ c.0;
      words = starts-take _ _ d.0;
      texts = starts-take _ _ d.1;
      descriptors = g.1;
    }
back-reads s S (Err r) e h = let z : ◌≡◌ {A = ℕ} 0 1 = cc in absurd (omega arith)

pub reads-back : {s : List ℕ} {S : Storage} → ReadsTo s S → back_in (judge_of s) (frames_of s) S ≡ true
unfolding back_in stands_in
reads-back {s} {S} r =
    let X = contents_of r.count (frames_of s) in
    rw r.accepted
    (simp (
      take-starts X.table S.table r.table,
      take-starts X.code S.code r.code,
      take-starts X.kinds S.kinds r.kinds,
      take-starts X.words S.words r.words,
      take-starts X.texts S.texts r.texts,
      r.descriptors,
    ))

-- ---- the judgement

abbrev Short : List ℕ → ℕ → Judged → Type 0
Short s q j = j ≡ Ok q → (length s ≤ 65536) × (judge_frames start 0 (frames_of s) ≡ Ok q)

pub accepted_short : (s : List ℕ) (q : ℕ) → Short s q (judge_of s)
unfolding judge_of
accepted_short s q =
    cond_cases (Short s q) (ltb 65536 (length s)) _ _
    (λ h e. let z : ◌≡◌ {A = ℕ} 0 1 = cc in absurd (omega arith))
    (λ h e. (ltb-false _ _ h, e))

pub short_accepted : (s : List ℕ) (q : ℕ) → length s ≤ 65536 → judge_frames start 0 (frames_of s) ≡ Ok q → judge_of s ≡ Ok q
unfolding judge_of
short_accepted s q h e = simp (le-ltb 65536 (length s) h) e

-- ---- the frames

pub record FramesIn (s : List ℕ) (S : Storage) : Type 0 where
  pub runs : Runs start (prototypes_of S.table) (frames_of s)
  pub lies : Stands front (all front (frames_of s)) S
  pub descriptors : describes 0 (frames_of s) S.table ≡ true

pub reads_frames : {s : List ℕ} {S : Storage} → ReadsTo s S → FramesIn s S
reads_frames {s} {S} r =
    let h = at_head S.table 0 r.count _ r.table in
    record {
      runs = rw h.1 (accepted_runs (frames_of s) start 0 r.count (accepted_short s r.count r.accepted).1);
      lies = record {
        table = at_rest S.table 0 (r.count ∷ []) _ r.table;
        code = r.code;
        kinds = r.kinds;
        words = r.words;
        texts = r.texts;
      };
      descriptors = r.descriptors;
    }

pub frames_reads : {s : List ℕ} {S : Storage} → judge_of s ≡ Ok (prototypes_of S.table) → FramesIn s S → ReadsTo s S
frames_reads {s} {S} e f =
    let h = entry-of f.runs 0 0 in
    record {
      count = prototypes_of S.table;
      accepted = e;
      table = at-cons S.table 0 _ _ (omega (arith, at-fits S.table 1 _ f.lies.table (omega (arith, h.four)))) refl f.lies.table;
      code = f.lies.code;
      kinds = f.lies.kinds;
      words = f.lies.words;
      texts = f.lies.texts;
      descriptors = f.descriptors;
    }
