-- The frames of an accepted image that lies in a storage are those that the storage says: by their order, what is left from a place
-- on is the rest of the prototype's descriptors, then of its constants, then of its instructions, then the prototypes after it, then e0. Assumes nothing.
use Prim.Native.Nat.{ℕ, suc, ◌+◌, ◌-◌, ◌*◌, ◌/◌, ◌%◌, ◌≤◌, ◌<◌}
use native.Mathlib.Omega.{arith}
use native.Mathlib.Nat.{add-zero, sub-zero, sub_self}
use mathlib.Core.Path.{◌≡◌, refl, sym, ap, ap₂, ◌∙◌}
use mathlib.Core.Bool.{true}
use mathlib.Core.List.{List, [], ◌∷◌, ◌++◌, append_assoc}
use lib.ListN.{length, get_or, take, drop}
use borrow.Author.Tests.{ne_eqb}
use Rattle.image.specs.Frames.{F, opens, const, str, code, ends, desc, shape}
use Rattle.image.specs.Judge.{start}
use Rattle.image.specs.declared.Counts.{Counts}
use Rattle.image.specs.declared.Step.TheVariants.{On, Done}
use Rattle.image.proofs.Said.{Said, AllSaid, more}
use Rattle.storage.specs.Layout.{Storage, texts_of, texts_all, descriptors_ahead}
use Rattle.storage.specs.Fields.{prototypes_of, entry_place, first_constant, first_instruction, descriptors_of, descriptor_of}
use Rattle.storage.specs.Stored.{describes, const_frame, const_frames, code_frames, desc_frame, desc_frames, proto_frames, protos_frames, frames_in}
use Rattle.storage.specs.Cursor.{past}
use Rattle.storage.specs.declared.Tops.{Tops}
use Rattle.storage.proofs.Places.{at_first, at-cell}
use Rattle.storage.proofs.Runs.{Runs, last, next, Told, opened, word, text, instruction, ended, described, told_as, runs-count}
use Rattle.storage.proofs.Lies.{Stands, all, lies-rest, tops, Lie, lies-opened}
use Rattle.storage.proofs.Described.{held_by, held_next, Descs, descs_start, settled, unsettled, descs_rest}
use Rattle.storage.proofs.Seen.{Entry, Constant, open-seen, end_seen, word-seen, text-seen, instruction-seen, entry-of}

-- where the first frame is
abbrev pub front : Tops
front = tops 0 0 0 0 0

-- what a storage of q prototypes says from there on: behind the last prototype's descriptors, and with them
abbrev behind_in : Storage → ℕ → ℕ → ℕ → ℕ → List F
behind_in S q p c k =
    const_frames S (first_constant S.table p - c) c
    ++ (code_frames S (first_instruction S.table p - k) k ++ (protos_frames S (q - p) p ++ ends q ∷ []))

abbrev rest_in : Storage → ℕ → ℕ → ℕ → ℕ → ℕ → List F
rest_in S q p c k d = desc_frames S (p - 1) (held_by S.table p - d) d ++ behind_in S q p c k

regroup : (a b c d e : List F) → (((a ++ b) ++ c) ++ d) ++ e ≡ a ++ (b ++ (c ++ (d ++ e)))
regroup a b c d e = simp append_assoc

module _ (S : Storage) (q : ℕ) where
  one_more : (a b : ℕ) → a < b → b - a ≡ suc (b - (a + 1))
  one_more a b h = omega arith

  no_more : (a b : ℕ) → b ≡ a → b - a ≡ 0
  no_more a b h = omega arith

  none_left : (p c k d : ℕ) → held_by S.table p ≤ d → rest_in S q p c k d ≡ behind_in S q p c k
  unfolding desc_frames
  none_left p c k d h = let e : held_by S.table p - d ≡ 0 = omega arith in rw e refl

  descs_more : (p c k d : ℕ) → d < held_by S.table p
      → rest_in S q p c k d ≡ desc_frame (descriptor_of S.table (p - 1) d) ∷ rest_in S q p c k (d + 1)
  unfolding desc_frames
  descs_more p c k d h = rw (one_more d (held_by S.table p) h)

  constants-more : (p c k : ℕ) → c < first_constant S.table p → behind_in S q p c k ≡ const_frame S c ∷ behind_in S q p (c + 1) k
  unfolding const_frames
  constants-more p c k h = rw (one_more c (first_constant S.table p) h)

  codes-more : (p c k : ℕ) → first_constant S.table p ≡ c → k < first_instruction S.table p
      → behind_in S q p c k ≡ code (get_or S.code k 0) ∷ behind_in S q p c (k + 1)
  unfolding const_frames code_frames
  codes-more p c k g h = rw (no_more c (first_constant S.table p) g, one_more k (first_instruction S.table p) h)

  protos_more : (r u p c k x d : ℕ) → p < q → Entry (tops p c k x d) S r u → behind_in S q p c k ≡ opens r u ∷ rest_in S q (p + 1) c k 0
  unfolding const_frames code_frames protos_frames proto_frames
  protos_more r u p c k x d h e =
      let m : p + 1 - 1 ≡ p = omega arith in
      let n : held_by S.table (p + 1) ≡ descriptors_of S.table p = held_next S.table p in
      rw
      (one_more p q h, add-zero (entry_place p), e.registers, e.parameters, e.consts, e.codes, sub_self c, sub_self k, m, n, sub-zero (descriptors_of S.table p))
      (ap (λ (z : List F). opens r u ∷ z)
      (regroup (desc_frames S p (descriptors_of S.table p) 0) (const_frames S (first_constant S.table (p + 1) - c) c)
      (code_frames S (first_instruction S.table (p + 1) - k) k) (protos_frames S (q - (p + 1)) (p + 1)) (ends q ∷ [])))

  desc-frame : (w k n : ℕ) → w ≡ k * 256 + n → n < 256 → desc_frame w ≡ desc k n
  unfolding desc_frame
  desc-frame w k n e h =
      let a : w / 256 ≡ k = omega arith in
      let b : w % 256 ≡ n = omega arith in
      rw (a, b) refl

  word-frame : (t : Tops) (k w : ℕ) → Constant t S k w → k < 4 → const_frame S t.consts ≡ const k w
  unfolding const_frame
  word-frame t k w e h = rw (e.kind, e.word) (simp (ne_eqb k 4 (omega arith)))

  text-frame : (t : Tops) (b : List ℕ) → Constant t S 4 (t.texts * 65536 + length b) → length b ≤ 64
      → take (length b) (drop t.texts S.texts) ≡ b → const_frame S t.consts ≡ str b
  unfolding const_frame
  text-frame t b e h a =
      let m : (t.texts * 65536 + length b) % 65536 ≡ length b = omega arith in
      let d : (t.texts * 65536 + length b) / 65536 ≡ t.texts = omega arith in
      rw (e.kind, e.word, m, d) (ap str a)

  -- ---- one frame, and the rest after it

  text_here : (p c k x d : ℕ) (b : List ℕ) (fs : List F) → Lie S p c k x d (str b ∷ fs) → take (length b) (drop x S.texts) ≡ b
  unfolding texts_all texts_of
  text_here p c k x d b fs l = at_first S.texts x b _ l.texts

  -- a constant or an instruction: no descriptor is left before it, and none after it
  begun : (p c k c' k' d : ℕ) (f g : F) (fs : List F) → f ≡ g → held_by S.table p ≤ d → behind_in S q p c k ≡ g ∷ behind_in S q p c' k'
      → fs ≡ rest_in S q p c' k' d → f ∷ fs ≡ rest_in S q p c k d
  begun p c k c' k' d f g fs e o h i =
      ap₂ (λ (f : F) (z : List F). f ∷ z) e (i ∙ none_left p c' k' d o) ∙ sym (none_left p c k d o ∙ h)

  abbrev Rests : ℕ → List F → Type 0
  Rests p fs = (c k x d : ℕ) → Lie S p c k x d fs → Descs S.table p d fs → fs ≡ rest_in S q p c k d

  frames_next : {st u : Counts} {f : F} {fs : List F} → Told st f (On u) → Runs u q fs → Said f
      → Rests u.protos fs → Rests st.protos (f ∷ fs)
  unfolding past shape descriptors_ahead
  frames_next {st} (opened {r} {p} a) h y ih c k x d l D =
      let t = tops st.protos c k x d in
      let o = settled S.table st.protos d _ refl D in
      ap (λ (z : List F). opens r p ∷ z) (ih c k x 0 (lies-opened S st.protos c k x d r p _ l) (descs_rest S.table {st = st} t (opened a) h D))
      ∙ sym (none_left st.protos c k d o ∙ protos_more r p st.protos c k x d (omega (arith, runs-count h)) (open-seen t S r p _ l))
  frames_next {st} (word {k = tag} {w} a b) h y ih c k x d l D =
      let t = tops st.protos c k x d in
      let e = word-seen t S h tag w l in
      begun st.protos c k (c + 1) k d (const tag w) (const_frame S c) _ (sym (word-frame t tag w e y.0))
      (settled S.table st.protos d _ refl D)
      (constants-more st.protos c k e.consts)
      (ih (c + 1) k x d (lies-rest t (const tag w) _ S l) (descs_rest S.table {st = st} t (word a b) h D))
  frames_next {st} (text {l = b} a g) h y ih c k x d l D =
      let t = tops st.protos c k x d in
      let e = text-seen t S h b l in
      begun st.protos c k (c + 1) k d (str b) (const_frame S c) _ (sym (text-frame t b e y.0 (text_here st.protos c k x d b _ l)))
      (settled S.table st.protos d _ refl D)
      (constants-more st.protos c k e.consts)
      (ih (c + 1) k (x + length b) d (lies-rest t (str b) _ S l) (descs_rest S.table {st = st} t (text a g) h D))
  frames_next {st} (instruction {w} a) h y ih c k x d l D =
      let t = tops st.protos c k x d in
      let e = instruction-seen t S h w (omega arith) l in
      begun st.protos c k c (k + 1) d (code w) (code (get_or S.code k 0)) _ (ap code (sym e.word))
      (settled S.table st.protos d _ refl D)
      (codes-more st.protos c k e.consts e.codes)
      (ih c (k + 1) x d (lies-rest t (code w) _ S l) (descs_rest S.table {st = st} t (instruction a) h D))
  frames_next {st} (described {k = kind} {n} a b g i) h y ih c k x d l D =
      let t = tops st.protos c k x d in
      let e = unsettled S.table st.protos d kind n _ a D in
      ap₂ (λ (f : F) (z : List F). f ∷ z) (sym (desc-frame _ kind n e.1 y.1))
      (ih c k x (d + 1) (lies-rest t (desc kind n) _ S l) (descs_rest S.table {st = st} t (described a b g i) h D))
      ∙ sym (descs_more st.protos c k d e.0)

  frames_last : {st : Counts} {f : F} → Told st f Done → st.protos ≡ q → Rests st.protos (f ∷ [])
  unfolding const_frames code_frames protos_frames descriptors_ahead
  frames_last {st} (ended {m} e) g c k x d l D =
      let s = end_seen (tops st.protos c k x d) S m [] l in
      let z : m ≡ q = e ∙ g in
      rw (none_left st.protos c k d (settled S.table st.protos d _ refl D))
      (rw (s.consts, s.codes, sub_self c, sub_self k, g, sub_self q, z))

  frames_from : {st : Counts} {fs : List F} → Runs st q fs → AllSaid fs → Rests st.protos fs
  frames_from (last r e) ys c k x d l D = frames_last (told_as r) e c k x d l D
  frames_from (next r h) (more y ys) c k x d l D = frames_next (told_as r) h y (λ c k x d l D. frames_from h ys c k x d l D) c k x d l D

-- ---- from the front

pub frames-in : (S : Storage) (fs : List F) → Runs start (prototypes_of S.table) fs → AllSaid fs → Stands front (all front fs) S
    → describes 0 fs S.table ≡ true → fs ≡ frames_in S
unfolding frames_in const_frames code_frames desc_frames held_by
frames-in S fs r ys l h =
    let n = entry-of r 0 0 in
    let c : get_or S.table 3 0 ≡ 0 = at-cell S.table 1 _ 2 l.table (omega (arith, n.four)) ∙ (n.fresh refl).0 in
    let k : get_or S.table 4 0 ≡ 0 = at-cell S.table 1 _ 3 l.table (omega (arith, n.four)) ∙ (n.fresh refl).1 in
    frames_from S (prototypes_of S.table) r ys 0 0 0 0 l (descs_start S.table fs h) ∙ rw (c, k, sub-zero (prototypes_of S.table))
