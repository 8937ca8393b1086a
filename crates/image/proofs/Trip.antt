-- An accepted image, written back, is the same bytes: every line that is not refused is its frame's own text, and an accepted image has no other.
-- Assumes nothing.
use Prim.Native.Nat.{ℕ, suc, ◌+◌, ◌≤◌, ◌<◌}
use native.Mathlib.Omega.{arith}
use mathlib.Core.Path.{◌≡◌, refl, sym, ap, ap₂, ◌∙◌}
use mathlib.Core.List.{List, [], ◌∷◌, ◌++◌, map}
use mathlib.Core.Bool.{Bool, true, false}
use lib.ListN.{length, get_or, drop, drop_of_length-le, length-drop}
use lib.Seq.{drop-cons}
use lib.Dec.{leb, ltb, eqb}
use borrow.Author.Tests.{ltb-true, leb-true, eqb-true}
use Rattle.std.specs.Prelude.{Ok}
use Rattle.image.specs.Hex.{paired, bytes_of, word_from}
use Rattle.image.specs.Lines.{Line, ended, unended, onto, lines}
use Rattle.image.specs.Instruction.{packed, Packs}
use Rattle.image.specs.Frames.{F, opens, const, str, code, ends, bad, desc, shape, payload, most_of, word_bytes_of, frame_of, kind_bytes, open_bytes, const_bytes, code_bytes, end_bytes, desc_bytes, line_frame, frames_of}
use Rattle.image.specs.Judge.{Judged, refused, frame_step, start, at_end, judge_after, judge_frames, judge_of}
use Rattle.image.specs.Write.{hex_of, frame_bytes, written}
use Rattle.image.specs.declared.Counts.{Counts}
use Rattle.image.specs.declared.Step.{Step}
use Rattle.image.specs.declared.Step.TheVariants.{On, Done, No}
use Rattle.image.specs.declared.ReadError.{ReadError}
use Rattle.image.specs.declared.ReadError.TheVariants.{BrokenLine, BadFrame, PastLimit}
use Rattle.choices.proofs.Choices.{by_bool, cond_cases}
use Rattle.image.proofs.HexLaws.{AllBytes, bytes_drop, byte-lt, hex-back, word-bytes}
use Rattle.image.proofs.Packing.{packed-back}
use Rattle.image.proofs.Said.{Said, AllSaid, none, more}

-- ---- frames

-- a frame that is not refused
abbrev good : F → Bool
good (opens r p) = true
good (const k w) = true
good (str l) = true
good (code w) = true
good (ends n) = true
good (bad k) = false
good (desc k n) = true

-- a line's bytes B: a frame read from them that is not refused has these bytes, and is one that a line can say
module _ (B : List ℕ) (bytes : AllBytes B) where
  abbrev Back : F → Type 0
  Back f = good f ≡ true → (frame_bytes f ≡ B) × Said f

  bad-back : (e : ReadError) → Back (bad e)
  bad-back r e = let z : ◌≡◌ {A = ℕ} 0 1 = cc in absurd (omega arith)

  -- B by its first elements
  front : (i x : ℕ) (r : List ℕ) → i < length B → x ≡ get_or B i 0 → r ≡ drop (suc i) B → x ∷ r ≡ drop i B
  front i x r h e f = rw (e, f) (sym (drop-cons B i 0 h))

  last : (i : ℕ) → length B ≤ i → [] ≡ drop i B
  last i h = sym (drop_of_length-le B {i = i} h)

  open-back : 0xa0 ≡ get_or B 0 0 → Back (open_bytes B)
  unfolding open_bytes
  open-back k =
      cond_cases Back (eqb (length B) 3) _ _
      (λ h. cond_cases Back (leb 1 (get_or B 1 0)) _ _
      (λ t. cond_cases Back (leb (get_or B 2 0) (get_or B 1 0)) _ _
      (λ m e. (three (eqb-true _ _ h), (leb-true _ _ t, (omega (arith, bytes 1), leb-true _ _ m)))) (λ m. bad-back BadFrame))
      (λ t. bad-back BadFrame))
      (λ h. bad-back BadFrame)
    where
      three : length B ≡ 3 → frame_bytes (opens (get_or B 1 0) (get_or B 2 0)) ≡ B
      three h = unfold frame_bytes in
          front 0 _ _ (omega arith) k
          (front 1 _ _ (omega arith) refl (front 2 _ _ (omega arith) refl (last 3 (omega arith))))

  end_back : 0xe0 ≡ get_or B 0 0 → Back (end_bytes B)
  unfolding end_bytes
  end_back k = cond_cases Back (eqb (length B) 2) _ _ (λ h e. (two (eqb-true _ _ h), bytes 1)) (λ h. bad-back BadFrame)
    where
      two : length B ≡ 2 → frame_bytes (ends (get_or B 1 0)) ≡ B
      two h = unfold frame_bytes in
          front 0 _ _ (omega arith) k (front 1 _ _ (omega arith) refl (last 2 (omega arith)))

  code-back : 0xc0 ≡ get_or B 0 0 → Back (code_bytes B)
  unfolding code_bytes
  code-back k =
      cond_cases Back (eqb (length B) 6) _ _ (λ h e. (six (eqb-true _ _ h), fields.fits)) (λ h. bad-back BadFrame)
    where
      w : ℕ
      w = packed (get_or B 1 0) (get_or B 2 0) (get_or B 3 0) (get_or B 4 0) (get_or B 5 0)

      fields : Packs (get_or B 1 0) (get_or B 2 0) (get_or B 3 0) (get_or B 4 0) (get_or B 5 0) w
      fields = packed-back _ _ _ _ _ (bytes 1) (bytes 2) (bytes 3) (bytes 4) (bytes 5)

      six : length B ≡ 6 → frame_bytes (code w) ≡ B
      six h = unfold frame_bytes in
          front 0 _ _ (omega arith) k
          (front 1 _ _ (omega arith) fields.operation_back
          (front 2 _ _ (omega arith) fields.flags_back
          (front 3 _ _ (omega arith) fields.a_back
          (front 4 _ _ (omega arith) fields.b_back (front 5 _ _ (omega arith) fields.c_back (last 6 (omega arith)))))))

  word_back : (tag : ℕ) → 2 ≤ length B → 0xb0 ≡ get_or B 0 0 → tag ≡ get_or B 1 0 → tag < 4 → Back (word_bytes_of tag (drop 2 B))
  unfolding word_bytes_of
  word_back tag h k t l =
      cond_cases Back (eqb (length (drop 2 B)) (payload tag)) _ _
      (λ m. cond_cases Back (leb (word_from 0 (drop 2 B)) (most_of tag)) _ _
      (λ n e. (some (eqb-true _ _ m), (l, leb-true _ _ n))) (λ n. bad-back BadFrame))
      (λ m. bad-back BadFrame)
    where
      some : length (drop 2 B) ≡ payload tag → frame_bytes (const tag (word_from 0 (drop 2 B))) ≡ B
      some m = unfold frame_bytes in
          front 0 _ _ (omega arith) k
          (front 1 _ _ (omega arith) t (word-bytes (drop 2 B) (payload tag) m (bytes_drop 2 B bytes)))

  const-back : 0xb0 ≡ get_or B 0 0 → Back (const_bytes B)
  unfolding const_bytes
  const-back k =
      cond_cases Back (leb 2 (length B)) _ _
      (λ h. cond_cases Back (ltb (get_or B 1 0) 4) _ _ (λ t. word_back (get_or B 1 0) (leb-true _ _ h) k refl (ltb-true _ _ t))
      (λ t. cond_cases Back (eqb (get_or B 1 0) 4) _ _
      (λ u. cond_cases Back (leb (length B) 66) _ _
      (λ m e. (text (leb-true _ _ h) (eqb-true _ _ u), (short (leb-true _ _ m), bytes_drop 2 B bytes))) (λ m. bad-back BadFrame))
      (λ u. bad-back BadFrame)))
      (λ h. bad-back BadFrame)
    where
      text : 2 ≤ length B → get_or B 1 0 ≡ 4 → frame_bytes (str (drop 2 B)) ≡ B
      text h t = unfold frame_bytes in front 0 _ _ (omega arith) k (front 1 _ _ (omega arith) (sym t) refl)

      short : length B ≤ 66 → length (drop 2 B) ≤ 64
      short h = omega (arith, length-drop 2 B)

  desc-back : 0xd1 ≡ get_or B 0 0 → Back (desc_bytes B)
  unfolding desc_bytes
  desc-back k =
      cond_cases Back (eqb (length B) 3) _ _
      (λ h. cond_cases Back (leb (get_or B 1 0) 1) _ _ (λ t e. (three (eqb-true _ _ h), (leb-true _ _ t, bytes 2))) (λ t. bad-back BadFrame))
      (λ h. bad-back BadFrame)
    where
      three : length B ≡ 3 → frame_bytes (desc (get_or B 1 0) (get_or B 2 0)) ≡ B
      three h = unfold frame_bytes in
          front 0 _ _ (omega arith) k
          (front 1 _ _ (omega arith) refl (front 2 _ _ (omega arith) refl (last 3 (omega arith))))

  kind-back : Back (kind_bytes B)
  unfolding kind_bytes
  kind-back =
      let k = get_or B 0 0 in
      cond_cases Back (eqb k 0xa0) _ _ (λ a. open-back (sym (eqb-true _ _ a)))
      (λ a. cond_cases Back (eqb k 0xb0) _ _ (λ b. const-back (sym (eqb-true _ _ b)))
      (λ b. cond_cases Back (eqb k 0xc0) _ _ (λ c. code-back (sym (eqb-true _ _ c)))
      (λ c. cond_cases Back (eqb k 0xe0) _ _ (λ d. end_back (sym (eqb-true _ _ d)))
      (λ d. cond_cases Back (eqb k 0xd1) _ _ (λ e. desc-back (sym (eqb-true _ _ e))) (λ e. bad-back BadFrame)))))

-- a line of which a frame was read is that frame's text
line-back : (l : List ℕ) → good (frame_of l) ≡ true → (hex_of (frame_bytes (frame_of l)) ≡ l) × Said (frame_of l)
unfolding frame_of
line-back l =
    cond_cases Text (leb 1 (length l)) _ _
    (λ h. cond_cases Text (paired l) _ _
    (λ p e. let b = kind-back (bytes_of l) (byte-lt l p) e in (ap hex_of b.0 ∙ hex-back l p, b.1)) (λ p. broken))
    (λ h. broken)
  where
    Text : F → Type 0
    Text f = good f ≡ true → (hex_of (frame_bytes f) ≡ l) × Said f

    broken : Text (bad BrokenLine)
    broken e = let z : ◌≡◌ {A = ℕ} 0 1 = cc in absurd (omega arith)

-- ---- lines

unfoldable joined : List Line → List ℕ
joined [] = []
joined (ended l ∷ ls) = l ++ 10 ∷ joined ls
joined (unended l ∷ ls) = l ++ joined ls

joined-onto : (b : ℕ) (ls : List Line) → joined (onto b ls) ≡ b ∷ joined ls
unfolding joined onto
joined-onto b [] = refl
joined-onto b (ended l ∷ ls) = refl
joined-onto b (unended l ∷ ls) = refl

joined-lines : (s : List ℕ) → joined (lines s) ≡ s
unfolding joined lines
joined-lines [] = refl
joined-lines (b ∷ s) =
    by_bool (eqb b 10)
    (λ e. let d : b ≡ 10 = eqb-true _ _ e in rw e (ap₂ (λ (x : ℕ) (r : List ℕ). x ∷ r) (sym d) (joined-lines s)))
    (λ e. rw e (joined-onto b (lines s) ∙ ap (λ (r : List ℕ). b ∷ r) (joined-lines s)))

-- ---- frames of lines, when none is refused

data AllGood : List F → Type 0 where
  no : AllGood []
  and : {f : F} {fs : List F} → good f ≡ true → AllGood fs → AllGood (f ∷ fs)

written-lines : (ls : List Line) → AllGood (map line_frame ls) → (written (map line_frame ls) ≡ joined ls) × AllSaid (map line_frame ls)
unfolding written joined line_frame
written-lines [] g = (refl, none)
written-lines (ended l ∷ ls) (and e g) =
    let b = line-back l e in
    let r = written-lines ls g in
    (ap₂ (λ (x y : List ℕ). x ++ 10 ∷ y) b.0 r.0, more b.1 r.1)
written-lines (unended l ∷ ls) (and e g) = let z : ◌≡◌ {A = ℕ} 0 1 = cc in absurd (omega arith)

-- ---- an accepted image refuses no frame

good-step : (f : F) (st : Counts) → ((k : ReadError) → frame_step st (shape f) ≡ No k → ⊥) → good f ≡ true
unfolding frame_step shape
good-step (opens r p) st e = refl
good-step (const k w) st e = refl
good-step (str l) st e = refl
good-step (code w) st e = refl
good-step (ends m) st e = refl
good-step (bad k) st e = absurd (e k refl)
good-step (desc k n) st e = refl

good-end : (fs : List F) (p n q : ℕ) → at_end p n fs ≡ Ok q → AllGood fs
unfolding at_end
good-end [] p n q e = no
good-end (f ∷ fs) p n q e = let z : ◌≡◌ {A = ℕ} 0 1 = cc in absurd (omega arith)

by-step : (f : F) (fs : List F) (st : Counts) (n q : ℕ) (u : Step) → frame_step st (shape f) ≡ u
    → judge_after u st.protos n fs (λ t. judge_frames t (n + 1) fs) ≡ Ok q
    → ((t : Counts) → judge_frames t (n + 1) fs ≡ Ok q → AllGood fs) → AllGood (f ∷ fs)
unfolding judge_after
by-step f fs st n q (On t) r e ih =
    and (good-step f st (λ k h. let z : ◌≡◌ {A = ℕ} 0 1 = cc in omega arith)) (ih t e)
by-step f fs st n q Done r e ih =
    and (good-step f st (λ k h. let z : ◌≡◌ {A = ℕ} 0 1 = cc in omega arith)) (good-end fs _ _ _ e)
by-step f fs st n q (No k) r e ih = let z : ◌≡◌ {A = ℕ} 0 1 = cc in absurd (omega arith)

judge-good : (fs : List F) (st : Counts) (n q : ℕ) → judge_frames st n fs ≡ Ok q → AllGood fs
unfolding judge_frames
judge-good [] st n q e = no
judge-good (f ∷ fs) st n q e =
    by-step f fs st n q (frame_step st (shape f)) refl e (λ t. judge-good fs t (n + 1) q)

trip : (s : List ℕ) (q : ℕ) → judge_of s ≡ Ok q → (written (frames_of s) ≡ s) × AllSaid (frames_of s)
unfolding frames_of judge_of
trip s q =
    cond_cases (λ (j : Judged). j ≡ Ok q → (written (map line_frame (lines s)) ≡ s) × AllSaid (map line_frame (lines s))) (ltb 65536 (length s)) _ _
    (λ h e. let z : ◌≡◌ {A = ℕ} 0 1 = too_long e in absurd (omega arith))
    (λ h e. let r = written-lines (lines s) (judge-good (map line_frame (lines s)) start 0 q e) in (r.0 ∙ joined-lines s, r.1))
  where
    too_long : refused PastLimit 0 ≡ Ok q → ◌≡◌ {A = ℕ} 0 1
    too_long e = cc

pub round_trip : (s : List ℕ) (q : ℕ) → judge_of s ≡ Ok q → written (frames_of s) ≡ s
round_trip s q e = (trip s q e).0

-- its frames are such as lines can say
pub accepted_said : (s : List ℕ) (q : ℕ) → judge_of s ≡ Ok q → AllSaid (frames_of s)
accepted_said s q e = (trip s q e).1
