-- The storage's frames in the order in which the loops put them. Assumes nothing.
use Prim.Native.Nat.{ℕ, zero, suc, ◌+◌, ◌-◌, ◌/◌, ◌%◌, ◌≤◌, ◌<◌}
use native.Mathlib.Omega.{arith}
use native.Mathlib.Nat.{zero-add}
use mathlib.Core.Path.{◌≡◌, refl, ap, ◌∙◌}
use mathlib.Core.List.{List, [], ◌∷◌, ◌++◌, append_assoc}
use lib.ListN.{get_or}
use borrow.Author.Tests.{eq-eqb, ne_eqb}
use Rattle.slices.specs.Ranges.{text_at}
use Rattle.image.specs.Frames.{F, opens, const, str, code, ends, desc}
use Rattle.image.specs.Write.{written}
use Rattle.image.proofs.Sizes.{written-append}
use Rattle.storage.specs.Layout.{Storage, storage}
use Rattle.storage.specs.Fields.{prototypes_of, registers_of, parameters_of, first_constant, first_instruction, constants_of, instructions_of, descriptors_of, descriptor_of}
use Rattle.storage.specs.Stored.{const_frame, const_frames, code_frames, desc_frame, desc_frames, proto_frames, protos_frames, frames_in, image_in}
use Rattle.writer.proofs.Puts.{Cut, put_then, room-first, room-then}
use Rattle.writer.specs.Putting.{Room, Put}

-- frames in a row are put in a row
cut : (gs fs hs : List F) → gs ≡ fs ++ hs → Cut (written gs) (written fs) (written hs)
cut gs fs hs e = record { parts = ap written e ∙ written-append fs hs }

left : (n i : ℕ) → i < n → n - i ≡ suc (n - (i + 1))
left n i h = omega arith

over : (n i : ℕ) → n ≤ i → n - i ≡ 0
over n i h = omega arith

-- ---- n frames from `first` on, in a loop

-- `frames n i` are f i, f (i + 1) and so on, n of them
pub record Each (frames : ℕ → ℕ → List F) (f : ℕ → F) : Type 0 where
  pub some : (n i : ℕ) → frames (suc n) i ≡ f i ∷ frames n (i + 1)
  pub none : (i : ℕ) → frames 0 i ≡ []

pub consts_each : (S : Storage) → Each (const_frames S) (const_frame S)
unfolding const_frames
consts_each S = record { some = λ n i. refl; none = λ i. refl }

pub codes-each : (S : Storage) → Each (code_frames S) (λ i. code (get_or S.code i 0))
unfolding code_frames
codes-each S = record { some = λ n i. refl; none = λ i. refl }

pub descs_each : (S : Storage) (q : ℕ) → Each (desc_frames S q) (λ i. desc_frame (descriptor_of S.table q i))
unfolding desc_frames
descs_each S q = record { some = λ n i. refl; none = λ i. refl }

-- what is left of them after i turns
abbrev pub rest : (ℕ → ℕ → List F) → ℕ → ℕ → ℕ → List ℕ
rest frames n first i = written (frames (n - i) (first + i))

module _ {frames : ℕ → ℕ → List F} {f : ℕ → F} (each : Each frames f) (n first : ℕ) where
  pub each_start : rest frames n first 0 ≡ written (frames n first)
  each_start =
      let a : n - 0 ≡ n = omega arith in
      let b : first + 0 ≡ first = omega arith in
      rw (a, b)

  pub each_turn : (i : ℕ) → i < n → Cut (rest frames n first i) (written (f (first + i) ∷ [])) (rest frames n first (i + 1))
  each_turn i h =
      let e : first + (i + 1) ≡ first + i + 1 = omega arith in
      cut _ (f (first + i) ∷ []) _ (rw (left n i h, e) (each.some (n - (i + 1)) (first + i)))

  pub each-done : (i : ℕ) → n ≤ i → rest frames n first i ≡ []
  unfolding written
  each-done i h = rw (over n i h, each.none (first + i))

-- ---- a constant by its kind and word

module _ (k w x : List ℕ) (j kind word : ℕ) (ek : kind ≡ get_or k j 0) (ew : word ≡ get_or w j 0) where
  pub string_frame : (s : List ℕ) → s ≡ text_at word x → kind ≡ 4 → const_frame (storage [] [] k w x) j ≡ str s
  unfolding const_frame
  string_frame s es e = rw (← ek, ← ew, ← es) (simp (eq-eqb _ _ e))

  pub word-frame : (kind ≡ 4 → ⊥) → const_frame (storage [] [] k w x) j ≡ const kind word
  unfolding const_frame
  word-frame e = rw (← ek, ← ew) (simp (ne_eqb _ _ e))

-- ---- a descriptor by its word

desc-frame : (t : List ℕ) (q i w : ℕ) → w ≡ descriptor_of t q i → desc_frame (descriptor_of t q (0 + i)) ≡ desc (w / 256) (w % 256)
unfolding desc_frame
desc-frame t q i w e = rw (zero-add i, e)

pub desc-turn : (t : List ℕ) (q n i w : ℕ) → i < n → w ≡ descriptor_of t q i
    → Cut (rest (desc_frames (storage t [] [] [] []) q) n 0 i) (written (desc (w / 256) (w % 256) ∷ [])) (rest (desc_frames (storage t [] [] [] []) q) n 0 (i + 1))
desc-turn t q n i w h e = rw (← desc-frame t q i w e) (each_turn (descs_each (storage t [] [] [] []) q) n 0 i h)

-- ---- a prototype: its line, its descriptors, its constants, its instructions

four : (f : F) (D C K : List F) → written (f ∷ D ++ C ++ K) ≡ written (f ∷ []) ++ (written D ++ (written C ++ written K))
four f D C K =
    ap written (append_assoc (f ∷ D) C K)
    ∙ written-append (f ∷ []) (D ++ (C ++ K))
    ∙ ap (λ (l : List ℕ). written (f ∷ []) ++ l) (written-append D (C ++ K) ∙ ap (λ (l : List ℕ). written D ++ l) (written-append C K))

-- a prototype's entry, as it was read, and its number of descriptors
pub record Entry (t : List ℕ) (q r p consts consts-n codes codes-n descs-n : ℕ) : Type 0 where
  pub registers : r ≡ registers_of t q
  pub parameters : p ≡ parameters_of t q
  pub first-constant : consts ≡ first_constant t q
  pub constants : consts-n ≡ constants_of t q
  pub first-instruction : codes ≡ first_instruction t q
  pub instructions : codes-n ≡ instructions_of t q
  pub descriptors : descs-n ≡ descriptors_of t q

module _ (S : Storage) where
  -- descriptors lie in the table alone, constants in kinds, words and texts, instructions in the code
  abbrev descs_only : Storage
  descs_only = storage S.table [] [] [] []

  abbrev consts_only : Storage
  consts_only = storage [] [] S.kinds S.words S.texts

  abbrev codes_only : Storage
  codes_only = storage [] S.code [] [] []

  descs_alone : (q n i : ℕ) → desc_frames S q n i ≡ desc_frames descs_only q n i
  unfolding desc_frames
  descs_alone q zero i = refl
  descs_alone q (suc n) i = ap (λ (fs : List F). desc_frame (descriptor_of S.table q i) ∷ fs) (descs_alone q n (i + 1))

  consts_alone : (n i : ℕ) → const_frames S n i ≡ const_frames consts_only n i
  unfolding const_frames const_frame
  consts_alone zero i = refl
  consts_alone (suc n) i = ap (λ (fs : List F). const_frame S i ∷ fs) (consts_alone n (i + 1))

  codes_alone : (n i : ℕ) → code_frames S n i ≡ code_frames codes_only n i
  unfolding code_frames
  codes_alone zero i = refl
  codes_alone (suc n) i = ap (λ (fs : List F). code (get_or S.code i 0) ∷ fs) (codes_alone n (i + 1))

  module _
      {q r p consts consts-n codes codes-n descs-n : ℕ} (e : Entry S.table q r p consts consts-n codes codes-n descs-n) (out : List ℕ) (at : ℕ)
    where
      abbrev opens_bytes : List ℕ
      opens_bytes = written (opens r p ∷ [])

      abbrev descs_bytes : List ℕ
      descs_bytes = written (desc_frames descs_only q descs-n 0)

      abbrev consts_bytes : List ℕ
      consts_bytes = written (const_frames consts_only consts-n consts)

      abbrev codes_bytes : List ℕ
      codes_bytes = written (code_frames codes_only codes-n codes)

      abbrev proto_bytes : List ℕ
      proto_bytes = written (proto_frames S q)

      parts : proto_bytes ≡ opens_bytes ++ (descs_bytes ++ (consts_bytes ++ codes_bytes))
      unfolding proto_frames
      parts =
          rw (
            e.registers,
            e.parameters,
            e.first-constant,
            e.constants,
            e.first-instruction,
            e.instructions,
            e.descriptors,
            descs_alone q (descriptors_of S.table q) 0,
            consts_alone (constants_of S.table q) (first_constant S.table q),
            codes_alone (instructions_of S.table q) (first_instruction S.table q),
          )
          (four (opens (registers_of S.table q) (parameters_of S.table q)) _ _ _)

      pub proto_put :
          {o o₂ o₃ o₄ : List ℕ} {to to₂ to₃ to₄ : ℕ} → Put out at opens_bytes to o → Put o to descs_bytes to₂ o₂ → Put o₂ to₂ consts_bytes to₃ o₃
          → Put o₃ to₃ codes_bytes to₄ o₄ → Put out at proto_bytes to₄ o₄
      proto_put u d v z = rw parts (put_then u (put_then d (put_then v z)))

      module _ (room : Room out at proto_bytes) where
        whole : Room out at (opens_bytes ++ (descs_bytes ++ (consts_bytes ++ codes_bytes)))
        whole = rw parts at room

        pub opens_room : Room out at opens_bytes
        opens_room = room-first out at opens_bytes (descs_bytes ++ (consts_bytes ++ codes_bytes)) whole

        module _ {o : List ℕ} {to : ℕ} (u : Put out at opens_bytes to o) where
          rest_room : Room o to (descs_bytes ++ (consts_bytes ++ codes_bytes))
          rest_room = room-then out at opens_bytes (descs_bytes ++ (consts_bytes ++ codes_bytes)) whole o to u

          pub descs_room : Room o to descs_bytes
          descs_room = room-first o to descs_bytes (consts_bytes ++ codes_bytes) rest_room

          module _ {o₂ : List ℕ} {to₂ : ℕ} (d : Put o to descs_bytes to₂ o₂) where
            last_room : Room o₂ to₂ (consts_bytes ++ codes_bytes)
            last_room = room-then o to descs_bytes (consts_bytes ++ codes_bytes) rest_room o₂ to₂ d

            pub consts_room : Room o₂ to₂ consts_bytes
            consts_room = room-first o₂ to₂ consts_bytes codes_bytes last_room

            pub codes_room : {o₃ : List ℕ} {to₃ : ℕ} → Put o₂ to₂ consts_bytes to₃ o₃ → Room o₃ to₃ codes_bytes
            codes_room {o₃} {to₃} v = room-then o₂ to₂ consts_bytes codes_bytes last_room o₃ to₃ v

-- ---- all prototypes, and the last line

module _ (S : Storage) where
  abbrev pub protos_rest : ℕ → List ℕ
  protos_rest q = written (protos_frames S (prototypes_of S.table - q) q ++ ends (prototypes_of S.table) ∷ [])

  pub protos_start : protos_rest 0 ≡ image_in S
  unfolding image_in frames_in
  protos_start = let a : prototypes_of S.table - 0 ≡ prototypes_of S.table = omega arith in rw a

  pub protos_turn : (q : ℕ) → q < prototypes_of S.table → Cut (protos_rest q) (written (proto_frames S q)) (protos_rest (q + 1))
  unfolding protos_frames
  protos_turn q h = cut _ _ _ (rw (left (prototypes_of S.table) q h) (append_assoc (proto_frames S q) _ _))

  pub protos_last : (q : ℕ) → prototypes_of S.table ≤ q → Cut (protos_rest q) (written (ends (prototypes_of S.table) ∷ [])) (written [])
  unfolding protos_frames
  protos_last q h = cut _ (ends (prototypes_of S.table) ∷ []) [] (rw (over (prototypes_of S.table) q h))

pub written_none : written [] ≡ []
unfolding written
written_none = refl
