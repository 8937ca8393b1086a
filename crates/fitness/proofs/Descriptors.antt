-- An image that reads to a storage has at most 32 prototypes, each with at most 8 descriptors. Assumes nothing.
use mathlib.Core.Path.{◌≡◌}
use mathlib.Core.Bool.{true}
use mathlib.Core.List.{List, [], ◌∷◌}
use Prim.Native.Nat.{ℕ, ◌+◌, ◌<◌, ◌≤◌}
use native.Mathlib.Omega.{arith}
use borrow.Author.Tests.{eqb-true, eqb-false}
use lib.Dec.{eqb}
use lib.ListN.{length}
use Rattle.choices.proofs.Choices.{by_bool, cond-true}
use Rattle.image.specs.Frames.{F}
use Rattle.image.specs.declared.Counts.{Counts}
use Rattle.image.specs.declared.Step.TheVariants.{On, Done}
use Rattle.storage.specs.Layout.{Storage, descriptors_ahead, descriptor_block}
use Rattle.storage.specs.Fields.{prototypes_of, descriptors_place, descriptors_of}
use Rattle.storage.specs.Stored.{holds_at, describes, reads_back}
use Rattle.storage.proofs.Runs.{Runs, last, next, Told, opened, word, text, instruction, ended, described, told_as}
use Rattle.storage.proofs.Reading.{reads_frames}
use Rattle.storage.proofs.Six.{readable}

-- ---- prototypes

module _ (q : ℕ) where
  count-few : {st : Counts} {fs : List F} → Runs st q fs → st.protos ≤ 32 → q ≤ 32
  count-few (last r e) h = omega arith
  count-few (next r g) h = count-few g (more (told_as r) h)
    where
      more : {st u : Counts} {f : F} → Told st f (On u) → st.protos ≤ 32 → u.protos ≤ 32
      more (opened a) h = omega arith
      more (word a b) h = h
      more (text a b) h = h
      more (instruction a) h = h
      more (described a b c d) h = h

  -- ---- descriptors that follow

  ahead-few : {st : Counts} {fs : List F} → Runs st q fs → st.descs ≤ 8 → st.descs + length (descriptors_ahead fs) ≤ 8
  unfolding descriptors_ahead
  ahead-few (last r e) h = at_last (told_as r) h
    where
      at_last : {st : Counts} {f : F} → Told st f Done → st.descs ≤ 8 → st.descs + length (descriptors_ahead (f ∷ [])) ≤ 8
      at_last (ended e) h = omega arith
  ahead-few (next {fs} r g) h = at_next fs (told_as r) h (λ m. ahead-few g m)
    where
      at_next :
          {st u : Counts} {f : F} (fs : List F) → Told st f (On u) → st.descs ≤ 8 → (u.descs ≤ 8 → u.descs + length (descriptors_ahead fs) ≤ 8)
          → st.descs + length (descriptors_ahead (f ∷ fs)) ≤ 8
      at_next fs (opened a) h g = omega arith
      at_next fs (word a b) h g = omega arith
      at_next fs (text a b) h g = omega arith
      at_next fs (instruction a) h g = omega arith
      at_next fs (described a b c d) h g = let x = g (omega arith) in omega arith

  -- ---- descriptors of the prototypes that follow

  module _ (l : List ℕ) where
    opened-few : (p : ℕ) (fs : List F) → holds_at l (descriptors_place p) (descriptor_block fs) ≡ true → length (descriptors_ahead fs) ≤ 8 → descriptors_of l p ≤ 8
    unfolding holds_at
    opened-few p fs h few =
        let e : descriptors_of l p ≡ length (descriptors_ahead fs) = eqb-true _ _ (cond-true _ _ h).0 in omega arith

    later-few :
        {st : Counts} {fs : List F} → Runs st q fs → describes st.protos fs l ≡ true → (i : ℕ) → st.protos ≤ i → i < q → descriptors_of l i ≤ 8
    unfolding describes
    later-few (last r e) d i a b = absurd (omega arith)
    later-few (next {fs} r g) d i a b = at_next fs (told_as r) g d i a b (λ d i a b. later-few g d i a b)
      where
        at_next :
            {st u : Counts} {f : F} (fs : List F) → Told st f (On u) → Runs u q fs → describes st.protos (f ∷ fs) l ≡ true → (i : ℕ) → st.protos ≤ i
            → i < q → (describes u.protos fs l ≡ true → (i : ℕ) → u.protos ≤ i → i < q → descriptors_of l i ≤ 8) → descriptors_of l i ≤ 8
        at_next {st} fs (opened a) g d i m n rest =
            let c = cond-true (holds_at l (descriptors_place st.protos) (descriptor_block fs)) (describes (st.protos + 1) fs l) d in
            by_bool (eqb i st.protos)
            (λ e. let x = ahead-few g (omega arith) in rw (eqb-true i st.protos e) (opened-few st.protos fs c.0 (omega arith)))
            (λ e. let x = eqb-false i st.protos e in rest c.1 i (omega (arith, x)) n)
        at_next fs (word a b) g d i m n rest = rest d i m n
        at_next fs (text a b) g d i m n rest = rest d i m n
        at_next fs (instruction a) g d i m n rest = rest d i m n
        at_next fs (described a b c e) g d i m n rest = rest d i m n

-- ---- of a storage

module _ (S : Storage) (read : reads_back S ≡ true) where
  pub prototypes-few : prototypes_of S.table ≤ 32
  prototypes-few = count-few (prototypes_of S.table) (reads_frames (readable S read)).runs (omega arith)

  pub descriptors-few : (q : ℕ) → q < prototypes_of S.table → descriptors_of S.table q ≤ 8
  descriptors-few q h =
      let f = reads_frames (readable S read) in
      later-few (prototypes_of S.table) S.table f.runs f.descriptors q (omega arith) h
