-- What a storage says at a place stands there, and is a frame that a line can say. Assumes nothing.
use Prim.Native.Nat.{ℕ, suc, ◌+◌, ◌-◌, ◌*◌, ◌^◌, ◌≤◌, ◌<◌}
use native.Mathlib.Omega.{arith}
use mathlib.Core.Path.{◌≡◌, refl, sym, ap}
use mathlib.Core.List.{List, [], ◌∷◌}
use lib.ListN.{length, get_or, take, drop, length-drop, length-take, get_or-eq_default}
use lib.Seq.{length-take-le, get_or-take}
use lib.Dec.{leb, ltb, eqb}
use borrow.Author.Tests.{ltb-true, ltb-false, leb-true, eqb-true, eqb-false}
use Rattle.image.specs.Frames.{F, opens, const, str, code, ends, bad, desc, shape, most_of}
use Rattle.image.specs.declared.ReadError.{ReadError}
use Rattle.image.specs.declared.ReadError.TheVariants.{Other}
use Rattle.image.specs.declared.Frame.{Frame}
use Rattle.image.specs.declared.Frame.TheVariants.{Open, Const, Str, Code, End, Bad, Desc}
use Rattle.choices.proofs.Choices.{cond_cases, by_order}
use Rattle.image.proofs.HexLaws.{AllBytes, bytes_drop}
use Rattle.image.proofs.Said.{Said}
use Rattle.storage.specs.Layout.{Storage, descriptor_word, entry_of, codes_of, kinds_of, words_of, texts_of}
use Rattle.storage.specs.Cursor.{next_text, next_const, next_code, next_entry, next_desc, next_frame, current, descriptors_here}
use Rattle.storage.specs.Fields.{descriptor_of}
use Rattle.storage.specs.declared.Tops.{Tops}
use Rattle.storage.proofs.Places.{At, at-cons, at-four, at_part}
use Rattle.storage.proofs.Lies.{Stands, one}
use Rattle.storage.proofs.Heads.{next_in}

-- the frame that the enum's case stands for: a string's bytes are those that the texts have there
unfoldable pub real : Tops → Storage → Frame → F
real t S (Open r p) = opens r p
real t S (Const k w) = const k w
real t S (Str n) = str (take n (drop t.texts S.texts))
real t S (Code w) = code w
real t S (End n) = ends n
real t S (Bad k) = bad k
real t S (Desc k n) = desc k n

bytes_take : (n : ℕ) (l : List ℕ) → AllBytes l → AllBytes (take n l)
bytes_take n l h i =
    by_order (suc i) n (λ g. rw (get_or-take n l i 0 g) (h i))
    (λ g. rw (get_or-eq_default (take n l) 0 {n = i} (omega (arith, length-take n l))) (omega arith))

back : (a b : ℕ) → a ≤ b → b ≡ a + (b - a)
back a b h = omega arith

-- what the table says of descriptors where this frame is next: one is left, and this is it; or none is left
abbrev pub Left : Tops → Storage → Frame → Type 0
Left t S (Open r p) = descriptors_here t S.table ≤ t.descs
Left t S (Const k w) = descriptors_here t S.table ≤ t.descs
Left t S (Str n) = descriptors_here t S.table ≤ t.descs
Left t S (Code w) = descriptors_here t S.table ≤ t.descs
Left t S (End n) = descriptors_here t S.table ≤ t.descs
Left t S (Bad k) = Unit {0}
Left t S (Desc k n) = (t.descs < descriptors_here t S.table) × (descriptor_of S.table (current t) t.descs ≡ descriptor_word k n)

-- of a frame: it stands at t, a line can say it, and the enum's case tells it
pub record Tells (t : Tops) (S : Storage) (f : F) (fr : Frame) : Type 0 where
  pub here : Stands t (one t f) S
  pub said : Said f
  pub told : shape f ≡ fr
  pub left : Left t S fr

module _ (t : Tops) (S : Storage) (bytes : AllBytes S.texts) (few : t.entries ≤ 129) where
  abbrev Sound : Frame → Type 0
  Sound fr = ((k : ReadError) → fr ≡ Bad k → ⊥) → Tells t S (real t S fr) fr

  none : (k : ReadError) → Sound (Bad k)
  none k n = absurd (n k refl)

  -- ---- where the last prototype's descriptors are passed

  module _ (passed : descriptors_here t S.table ≤ t.descs) where
    code_sound : Sound (next_code t S.code)
    unfolding next_code real shape entry_of codes_of kinds_of words_of texts_of
    code_sound =
        cond_cases Sound (ltb t.codes (length S.code)) _ _
        (λ a. cond_cases Sound (ltb (get_or S.code t.codes 0) (2 ^ 40)) _ _
        (λ b n. record {
          here = record { table = refl; code = at-cons S.code t.codes _ [] (ltb-true _ _ a) refl refl; kinds = refl; words = refl; texts = refl };
          said = ltb-true _ _ b;
          told = refl;
          left = passed;
        })
        (λ b. none (Other 6)))
        (λ a. none (Other 6))

    module _ (a : t.consts < length S.kinds) (b : t.consts < length S.words) where
      word_sound : get_or S.kinds t.consts 0 < 4 → get_or S.words t.consts 0 ≤ most_of (get_or S.kinds t.consts 0)
          → Sound (Const (get_or S.kinds t.consts 0) (get_or S.words t.consts 0))
      unfolding real shape entry_of codes_of kinds_of words_of texts_of
      word_sound g h n =
          record {
            here = record {
              table = refl;
              code = refl;
              kinds = at-cons S.kinds t.consts _ [] a refl refl;
              words = at-cons S.words t.consts _ [] b refl refl;
              texts = refl;
            };
            said = (g, h);
            told = refl;
            left = passed;
          }

      text_here : (n : ℕ) → get_or S.kinds t.consts 0 ≡ 4 → get_or S.words t.consts 0 ≡ t.texts * 65536 + n → n ≤ 64
          → t.texts + n ≤ length S.texts → Sound (Str n)
      unfolding real shape entry_of codes_of kinds_of words_of texts_of
      text_here n g w h m k =
          let e : length (take n (drop t.texts S.texts)) ≡ n =
          length-take-le n (drop t.texts S.texts) (omega (arith, length-drop t.texts S.texts)) in
          record {
            here = record {
              table = refl;
              code = refl;
              kinds = at-cons S.kinds t.consts _ [] a g refl;
              words = at-cons S.words t.consts _ [] b (omega arith) refl;
              texts = at_part S.texts t.texts n m;
            };
            said = (omega arith, bytes_take n (drop t.texts S.texts) (bytes_drop t.texts S.texts bytes));
            told = ap Str e;
            left = passed;
          }

      text_sound : get_or S.kinds t.consts 0 ≡ 4 → Sound (next_text t.texts (get_or S.words t.consts 0) (length S.texts))
      unfolding next_text
      text_sound g =
          let w = get_or S.words t.consts 0 in
          let n = get_or S.words t.consts 0 - t.texts * 65536 in
          cond_cases Sound (leb (t.texts * 65536) w) _ _
          (λ h. cond_cases Sound (leb n 64) _ _
          (λ i. cond_cases Sound (leb (t.texts + n) (length S.texts)) _ _
          (λ j. text_here n g (back (t.texts * 65536) w (leb-true _ _ h)) (leb-true _ _ i) (leb-true _ _ j)) (λ j. none (Other 6)))
          (λ i. none (Other 6)))
          (λ h. none (Other 6))

    const_sound : Sound (next_const t S.kinds S.words S.texts)
    unfolding next_const
    const_sound =
        let k = get_or S.kinds t.consts 0 in
        cond_cases Sound (ltb t.consts (length S.kinds)) _ _
        (λ a. cond_cases Sound (ltb t.consts (length S.words)) _ _
        (λ b. cond_cases Sound (ltb k 4) _ _
        (λ c. cond_cases Sound (leb (get_or S.words t.consts 0) (most_of k)) _ _
        (λ d. word_sound (ltb-true _ _ a) (ltb-true _ _ b) (ltb-true _ _ c) (leb-true _ _ d)) (λ d. none (Other 6)))
        (λ c. cond_cases Sound (eqb k 4) _ _ (λ d. text_sound (ltb-true _ _ a) (ltb-true _ _ b) (eqb-true _ _ d)) (λ d. none (Other 6))))
        (λ b. none (Other 6)))
        (λ a. none (Other 6))

    module _
        (room : t.entries + 4 ≤ length S.table) (cs : get_or S.table (t.entries + 2) 0 ≡ t.consts)
        (ks : get_or S.table (t.entries + 3) 0 ≡ t.codes) where
      entry_here : (r p : ℕ) → get_or S.table t.entries 0 ≡ r → get_or S.table (t.entries + 1) 0 ≡ p
          → At S.table t.entries (r ∷ p ∷ t.consts ∷ t.codes ∷ [])
      entry_here r p e f = at-four S.table t.entries r p t.consts t.codes room e f cs ks

      positive : (x : ℕ) → (x ≡ 0 → ⊥) → 1 ≤ x
      positive x h = omega arith

      entry_sound : Sound (next_entry t (get_or S.table t.entries 0) (get_or S.table (t.entries + 1) 0))
      unfolding next_entry real shape entry_of codes_of kinds_of words_of texts_of
      entry_sound =
          let r = get_or S.table t.entries 0 in
          let p = get_or S.table (t.entries + 1) 0 in
          cond_cases Sound (eqb r 0) _ _
          (λ a. cond_cases Sound (eqb p 0) _ _
          (λ b n. record {
            here = record { table = entry_here 0 0 (eqb-true _ _ a) (eqb-true _ _ b); code = refl; kinds = refl; words = refl; texts = refl };
            said = omega arith;
            told = refl;
            left = passed;
          })
          (λ b. none (Other 6)))
          (λ a. cond_cases Sound (leb r 255) _ _
          (λ b. cond_cases Sound (leb p r) _ _
          (λ c n. record {
            here = record { table = entry_here _ _ refl refl; code = refl; kinds = refl; words = refl; texts = refl };
            said = (positive r (eqb-false _ _ a), (leb-true _ _ b, leb-true _ _ c));
            told = refl;
            left = passed;
          })
          (λ c. none (Other 6)))
          (λ b. none (Other 6)))

  -- ---- a descriptor, and all together

  desc_sound : t.descs < descriptors_here t S.table → Sound (next_desc (descriptor_of S.table (current t) t.descs))
  unfolding next_desc real shape entry_of codes_of kinds_of words_of texts_of
  desc_sound o =
      let w = descriptor_of S.table (current t) t.descs in
      cond_cases Sound (ltb w 512) _ _
      (λ a n. record {
        here = record { table = refl; code = refl; kinds = refl; words = refl; texts = refl };
        said = (omega (arith, ltb-true w 512 a), omega arith);
        told = refl;
        left = (o, omega arith);
      })
      (λ a. none (Other 6))

  pub sound : Sound (next_in t S)
  unfolding next_frame
  sound =
      let cs = get_or S.table (t.entries + 2) 0 in
      let ks = get_or S.table (t.entries + 3) 0 in
      cond_cases Sound (leb (t.entries + 4) (length S.table)) _ _
      (λ a. cond_cases Sound (ltb t.descs (descriptors_here t S.table)) _ _ (λ h. desc_sound (ltb-true _ _ h))
      (λ h. let o = ltb-false _ _ h in
      cond_cases Sound (ltb t.consts cs) _ _ (λ b. const_sound o)
      (λ b. cond_cases Sound (eqb t.consts cs) _ _
      (λ c. cond_cases Sound (ltb t.codes ks) _ _ (λ d. code_sound o)
      (λ d. cond_cases Sound (eqb t.codes ks) _ _
      (λ e. entry_sound o (leb-true _ _ a) (sym (eqb-true _ _ c)) (sym (eqb-true _ _ e))) (λ e. none (Other 6))))
      (λ c. none (Other 6)))))
      (λ a. none (Other 6))
