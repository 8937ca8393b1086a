-- Descriptors of frames that lie in a storage: those that are left of the prototype that was opened last, and those of the prototypes after it; one frame, and the rest
-- after it. Assumes nothing.
use Prim.Native.Nat.{ℕ, zero, suc, ◌+◌, ◌-◌, ◌*◌, ◌/◌, ◌≤◌, ◌<◌}
use native.Mathlib.Omega.{arith}
use mathlib.Core.Path.{◌≡◌, refl, sym, ◌∙◌}
use mathlib.Core.Bool.{true}
use mathlib.Core.List.{List, [], ◌∷◌}
use lib.ListN.{length, get_or}
use borrow.Author.Tests.{eqb-true, eq-eqb, le-leb}
use Rattle.image.specs.Frames.{F, opens, const, str, code, ends, bad, desc, shape}
use Rattle.image.specs.declared.Counts.{Counts}
use Rattle.image.specs.declared.Step.TheVariants.{On, Done}
use Rattle.choices.proofs.Choices.{cond-true}
use Rattle.storage.specs.Layout.{descriptor_word, descriptors_ahead}
use Rattle.storage.specs.Fields.{entry_place, descriptors_place, descriptors_of, descriptor_of}
use Rattle.storage.specs.Stored.{holds_at, describes}
use Rattle.storage.specs.Cursor.{descriptors_here, past}
use Rattle.storage.specs.declared.Tops.{Tops}
use Rattle.storage.proofs.Runs.{Runs, Told, opened, word, text, instruction, ended, described, none_ahead}

-- how many descriptors the last of p prototypes has; 0 where there is none
unfoldable pub held_by : List ℕ → ℕ → ℕ
held_by l zero = 0
held_by l (suc p) = descriptors_of l p

pub held_next : (l : List ℕ) (p : ℕ) → held_by l (p + 1) ≡ descriptors_of l p
unfolding held_by
held_next l p = let e : p + 1 ≡ suc p = omega arith in rw e refl

pub here-held : (t : Tops) (l : List ℕ) (p : ℕ) → t.entries ≡ entry_place p → descriptors_here t l ≡ held_by l p
unfolding held_by
here-held t l zero e = rw e refl
here-held t l (suc p) e =
    let a : (1 + 4 * suc p) / 4 - 1 ≡ p = omega arith in
    rw e (simp (le-leb 5 (1 + 4 * suc p) (omega arith), a))

-- p prototypes are opened, d descriptors of the last one passed, and frames fs left
pub record Descs (l : List ℕ) (p d : ℕ) (fs : List F) : Type 0 where
  pub count : 1 ≤ p → held_by l p ≡ d + length (descriptors_ahead fs)
  pub words : 1 ≤ p → holds_at l (descriptors_place (p - 1) + (1 + d)) (descriptors_ahead fs) ≡ true
  pub later : describes p fs l ≡ true

-- ---- a list that stands at a place, element by element

holds-head : (l : List ℕ) (p x : ℕ) (xs : List ℕ) → holds_at l p (x ∷ xs) ≡ true → (get_or l p 0 ≡ x) × (holds_at l (p + 1) xs ≡ true)
unfolding holds_at
holds-head l p x xs h = let c = cond-true _ _ h in (eqb-true _ _ c.0, c.1)

holds-cons : (l : List ℕ) (p x : ℕ) (xs : List ℕ) → get_or l p 0 ≡ x → holds_at l (p + 1) xs ≡ true → holds_at l p (x ∷ xs) ≡ true
unfolding holds_at
holds-cons l p x xs e h = simp (eq-eqb _ _ e) h

module _ (l : List ℕ) where
  holds-moved : (a b : ℕ) (xs : List ℕ) → a ≡ b → holds_at l a xs ≡ true → holds_at l b xs ≡ true
  holds-moved a b xs e h = rw e at h

  -- the first frame

  pub descs_start : (fs : List F) → describes 0 fs l ≡ true → Descs l 0 0 fs
  descs_start fs h = record { count = λ o. absurd (omega arith); words = λ o. absurd (omega arith); later = h }

  -- none of the last prototype is left
  pub settled : (p d : ℕ) (fs : List F) → descriptors_ahead fs ≡ [] → Descs l p d fs → held_by l p ≤ d
  unfolding held_by
  settled zero d fs n D = omega arith
  settled (suc p) d fs n D = let e = rw n at (D.count (omega arith)) in omega arith

  -- one is left
  pub unsettled : (p d k n : ℕ) (fs : List F) → 1 ≤ p → Descs l p d (desc k n ∷ fs)
      → (d < held_by l p) × (descriptor_of l (p - 1) d ≡ descriptor_word k n)
  unfolding descriptors_ahead
  unsettled p d k n fs o D = (omega (arith, D.count o), (holds-head l _ _ _ (D.words o)).0)

  -- ---- the rest after a frame

  opened-rest : (p d r u : ℕ) (fs : List F) → Descs l p d (opens r u ∷ fs) → Descs l (p + 1) 0 fs
  unfolding describes held_by
  opened-rest p d r u fs D =
      let c = cond-true _ _ D.later in
      let h = holds-head l _ _ _ c.0 in
      let e : p + 1 ≡ suc p = omega arith in
      rw e
      (record {
        count = λ o. omega (arith, h.0);
        words = λ o. holds-moved (descriptors_place p + 1) (descriptors_place (suc p - 1) + (1 + 0)) (descriptors_ahead fs) (omega arith) h.1;
        later = rw e at c.1;
      })

  described-rest : (p d k n : ℕ) (fs : List F) → Descs l p d (desc k n ∷ fs) → Descs l p (d + 1) fs
  unfolding describes descriptors_ahead
  described-rest p d k n fs D =
      let m = descriptors_place (p - 1) + (1 + d) in
      record {
        count = λ o. omega (arith, D.count o);
        words = λ o. holds-moved (m + 1) (descriptors_place (p - 1) + (1 + (d + 1))) (descriptors_ahead fs) (omega arith) (holds-head l _ _ _ (D.words o)).1;
        later = D.later;
      }

  -- behind a constant or an instruction no descriptor is left
  begun-rest : (p d : ℕ) (f : F) (fs : List F) → descriptors_ahead (f ∷ fs) ≡ [] → descriptors_ahead fs ≡ []
      → describes p (f ∷ fs) l ≡ describes p fs l → Descs l p d (f ∷ fs) → Descs l p d fs
  begun-rest p d f fs a b e D =
      record {
        count = λ o. rw b (rw a at (D.count o));
        words = λ o. rw b (rw a at (D.words o));
        later = sym e ∙ D.later;
      }

  begun-join : (p d : ℕ) (f : F) (fs : List F) → descriptors_ahead (f ∷ fs) ≡ [] → descriptors_ahead fs ≡ []
      → describes p (f ∷ fs) l ≡ describes p fs l → Descs l p d fs → Descs l p d (f ∷ fs)
  begun-join p d f fs a b e D =
      record {
        count = λ o. rw a (rw b at (D.count o));
        words = λ o. rw a (rw b at (D.words o));
        later = e ∙ D.later;
      }

  pub descs_rest : {st u : Counts} {q : ℕ} {f : F} {fs : List F} (t : Tops) → Told st f (On u) → Runs u q fs
      → Descs l st.protos t.descs (f ∷ fs) → Descs l u.protos (past t (shape f)).descs fs
  unfolding past shape descriptors_ahead describes
  descs_rest t (opened a) h D = opened-rest _ _ _ _ _ D
  descs_rest t (word a b) h D = begun-rest _ _ _ _ refl (none_ahead h (omega arith)) refl D
  descs_rest t (text a b) h D = begun-rest _ _ _ _ refl (none_ahead h (omega arith)) refl D
  descs_rest t (instruction a) h D = begun-rest _ _ _ _ refl (none_ahead h (omega arith)) refl D
  descs_rest t (described a b c d) h D = described-rest _ _ _ _ _ D

  -- ---- a frame, and the rest after it

  -- what the table has to say of a frame for that
  abbrev pub Agrees : ℕ → ℕ → F → Type 0
  Agrees p d (opens r u) = held_by l p ≡ d
  Agrees p d (const k w) = Unit {0}
  Agrees p d (str x) = Unit {0}
  Agrees p d (code w) = Unit {0}
  Agrees p d (ends n) = held_by l p ≡ d
  Agrees p d (bad k) = Unit {0}
  Agrees p d (desc k n) = descriptor_of l (p - 1) d ≡ descriptor_word k n

  opened-join : (p d r u : ℕ) (fs : List F) → held_by l p ≡ d → Descs l (p + 1) 0 fs → Descs l p d (opens r u ∷ fs)
  unfolding describes descriptors_ahead held_by
  opened-join p d r u fs h D =
      let e : p + 1 ≡ suc p = omega arith in
      let E = rw e at D in
      let c : get_or l (descriptors_place p) 0 ≡ length (descriptors_ahead fs) = omega (arith, E.count (omega arith)) in
      let w = holds-moved (descriptors_place (suc p - 1) + (1 + 0)) (descriptors_place p + 1) (descriptors_ahead fs) (omega arith) (E.words (omega arith)) in
      record {
        count = λ o. omega (arith, h);
        words = λ o. unfold holds_at in refl;
        later = simp (holds-cons l (descriptors_place p) (length (descriptors_ahead fs)) (descriptors_ahead fs) c w) D.later;
      }

  described-join : (p d k n : ℕ) (fs : List F) → descriptor_of l (p - 1) d ≡ descriptor_word k n → Descs l p (d + 1) fs
      → Descs l p d (desc k n ∷ fs)
  unfolding describes descriptors_ahead
  described-join p d k n fs e D =
      let m = descriptors_place (p - 1) + (1 + d) in
      record {
        count = λ o. omega (arith, D.count o);
        words = λ o. holds-cons l m (descriptor_word k n) (descriptors_ahead fs) e
            (holds-moved (descriptors_place (p - 1) + (1 + (d + 1))) (m + 1) (descriptors_ahead fs) (omega arith) (D.words o));
        later = D.later;
      }

  pub descs_join : {st u : Counts} {q : ℕ} {f : F} {fs : List F} (t : Tops) → Told st f (On u) → Runs u q fs
      → Agrees st.protos t.descs f → Descs l u.protos (past t (shape f)).descs fs → Descs l st.protos t.descs (f ∷ fs)
  unfolding past shape descriptors_ahead describes
  descs_join t (opened a) h g D = opened-join _ _ _ _ _ g D
  descs_join t (word a b) h g D = begun-join _ _ _ _ refl (none_ahead h (omega arith)) refl D
  descs_join t (text a b) h g D = begun-join _ _ _ _ refl (none_ahead h (omega arith)) refl D
  descs_join t (instruction a) h g D = begun-join _ _ _ _ refl (none_ahead h (omega arith)) refl D
  descs_join t (described a b c d) h g D = described-join _ _ _ _ _ g D

  pub descs_last : {st : Counts} {f : F} (d : ℕ) → Told st f Done → Agrees st.protos d f → Descs l st.protos d (f ∷ [])
  unfolding descriptors_ahead describes holds_at
  descs_last d (ended e) g = record { count = λ o. omega (arith, g); words = λ o. refl; later = refl }
