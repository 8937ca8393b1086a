-- An accepted run of frames, step by step: the last frame is e0 with the right count, and every other one is counted. Assumes nothing.
use Prim.Native.Nat.{ℕ, ◌+◌, ◌≤◌, ◌<◌}
use native.Mathlib.Omega.{arith}
use mathlib.Core.Path.{◌≡◌, refl, subst}
use mathlib.Core.List.{List, [], ◌∷◌}
use lib.Dec.{leb, ltb, eqb}
use borrow.Author.Tests.{ltb-true, leb-true, eqb-true}
use Rattle.image.specs.Frames.{F, opens, const, str, code, ends, bad, desc, shape}
use Rattle.image.specs.Judge.{const_step, code_step, desc_step, frame_step, at_end, judge_after, judge_frames}
use Rattle.image.specs.declared.ReadError.{ReadError}
use Rattle.image.specs.declared.Counts.{Counts}
use Rattle.image.specs.declared.Step.{Step}
use Rattle.image.specs.declared.Step.TheVariants.{On, Done, No}
use Rattle.std.specs.Prelude.{Ok}
use Rattle.choices.proofs.Choices.{cond_cases}
use Rattle.storage.specs.Layout.{descriptors_ahead}

-- ---- the run

pub data Runs : Counts → ℕ → List F → Type 0 where
  last : {st : Counts} {q : ℕ} {f : F} → frame_step st (shape f) ≡ Done → st.protos ≡ q → Runs st q (f ∷ [])
  next : {st u : Counts} {q : ℕ} {f : F} {fs : List F} → frame_step st (shape f) ≡ On u → Runs u q fs → Runs st q (f ∷ fs)

module _ (f : F) (fs : List F) (st : Counts) (n q : ℕ) where
  by_end : frame_step st (shape f) ≡ Done → (gs : List F) → at_end st.protos (n + 1) gs ≡ Ok q → Runs st q (f ∷ gs)
  unfolding at_end
  by_end r [] e = last {q = q} r (cc)
  by_end r (g ∷ gs) e = let z : ◌≡◌ {A = ℕ} 0 1 = cc in absurd (omega arith)

  by-step : (u : Step) → frame_step st (shape f) ≡ u → judge_after u st.protos n fs (λ t. judge_frames t (n + 1) fs) ≡ Ok q
      → ((t : Counts) → judge_frames t (n + 1) fs ≡ Ok q → Runs t q fs) → Runs st q (f ∷ fs)
  unfolding judge_after
  by-step (On t) r e ih = next r (ih t e)
  by-step Done r e ih = by_end r fs e
  by-step (No k) r e ih = let z : ◌≡◌ {A = ℕ} 0 1 = cc in absurd (omega arith)

pub accepted_runs : (fs : List F) (st : Counts) (n q : ℕ) → judge_frames st n fs ≡ Ok q → Runs st q fs
unfolding judge_frames
accepted_runs [] st n q e = let z : ◌≡◌ {A = ℕ} 0 1 = cc in absurd (omega arith)
accepted_runs (f ∷ fs) st n q e = by-step f fs st n q (frame_step st (shape f)) refl e (λ t. accepted_runs fs t (n + 1) q)

pub runs_accepted : {st : Counts} {q : ℕ} {fs : List F} → Runs st q fs → (n : ℕ) → judge_frames st n fs ≡ Ok q
unfolding judge_frames judge_after at_end
runs_accepted (last r e) n = rw (r, e)
runs_accepted (next r h) n = rw r (runs_accepted h (n + 1))

-- ---- what a step says of its frame

abbrev const_more : Counts → Counts
const_more st = record { protos = st.protos; consts = st.consts + 1; codes = st.codes; descs = st.descs }

abbrev code_more : Counts → Counts
code_more st = record { protos = st.protos; consts = st.consts; codes = st.codes + 1; descs = st.descs }

abbrev desc_more : Counts → Counts
desc_more st = record { protos = st.protos; consts = st.consts; codes = st.codes; descs = st.descs + 1 }

pub data Told (st : Counts) : F → Step → Type 0 where
  opened : {r p : ℕ} → st.protos < 32 → Told st (opens r p) (On (record { protos = st.protos + 1; consts = 0; codes = 0; descs = 0 }))
  word : {k w : ℕ} → 1 ≤ st.protos → st.codes ≡ 0 → Told st (const k w) (On (const_more st))
  text : {l : List ℕ} → 1 ≤ st.protos → st.codes ≡ 0 → Told st (str l) (On (const_more st))
  instruction : {w : ℕ} → 1 ≤ st.protos → Told st (code w) (On (code_more st))
  ended : {m : ℕ} → m ≡ st.protos → Told st (ends m) Done
  described : {k n : ℕ} → 1 ≤ st.protos → st.consts ≡ 0 → st.codes ≡ 0 → st.descs < 8 → Told st (desc k n) (On (desc_more st))
  refused : {f : F} {k : ReadError} → Told st f (No k)

module _ (st : Counts) (f : F) where
  const-told : (1 ≤ st.protos → st.codes ≡ 0 → Told st f (On (const_more st))) → Told st f (const_step st)
  unfolding const_step
  const-told on =
      cond_cases (Told st f) (leb 1 st.protos) _ _
      (λ a. cond_cases (Told st f) (eqb st.codes 0) _ _
      (λ b. cond_cases (Told st f) (ltb st.consts 256) _ _ (λ c. on (leb-true _ _ a) (eqb-true _ _ b)) (λ c. refused))
      (λ b. refused))
      (λ a. refused)

  code-told : (1 ≤ st.protos → Told st f (On (code_more st))) → Told st f (code_step st)
  unfolding code_step
  code-told on =
      cond_cases (Told st f) (leb 1 st.protos) _ _
      (λ a. cond_cases (Told st f) (ltb st.codes 4096) _ _ (λ b. on (leb-true _ _ a)) (λ b. refused))
      (λ a. refused)

  desc-told : (1 ≤ st.protos → st.consts ≡ 0 → st.codes ≡ 0 → st.descs < 8 → Told st f (On (desc_more st))) → Told st f (desc_step st)
  unfolding desc_step
  desc-told on =
      cond_cases (Told st f) (leb 1 st.protos) _ _
      (λ a. cond_cases (Told st f) (eqb st.consts 0) _ _
      (λ b. cond_cases (Told st f) (eqb st.codes 0) _ _
      (λ c. cond_cases (Told st f) (ltb st.descs 8) _ _
      (λ d. on (leb-true _ _ a) (eqb-true _ _ b) (eqb-true _ _ c) (ltb-true _ _ d)) (λ d. refused))
      (λ c. refused))
      (λ b. refused))
      (λ a. refused)

told : (f : F) (st : Counts) → Told st f (frame_step st (shape f))
unfolding frame_step shape
told (opens r p) st = cond_cases (Told st (opens r p)) (ltb st.protos 32) _ _ (λ a. opened (ltb-true _ _ a)) (λ a. refused)
told (const k w) st = const-told st (const k w) word
told (str l) st = const-told st (str l) text
told (code w) st = code-told st (code w) instruction
told (ends m) st = cond_cases (Told st (ends m)) (eqb m st.protos) _ _ (λ a. ended (eqb-true _ _ a)) (λ a. refused)
told (bad k) st = refused
told (desc k n) st = desc-told st (desc k n) described

pub told_as : {st : Counts} {f : F} {x : Step} → frame_step st (shape f) ≡ x → Told st f x
told_as {st} {f} e = subst (λ (x : Step). Told st f x) e (told f st)

-- no prototype is closed again
pub runs-count : {st : Counts} {q : ℕ} {fs : List F} → Runs st q fs → st.protos ≤ q
runs-count (last r e) = omega arith
runs-count (next r h) = more (told_as r) (runs-count h)
  where
    more : {st u : Counts} {q : ℕ} {f : F} → Told st f (On u) → u.protos ≤ q → st.protos ≤ q
    more (opened a) h = omega arith
    more (word a b) h = h
    more (text a b) h = h
    more (instruction a) h = h
    more (described a b c d) h = h

-- ---- descriptors come before constants and instructions

abbrev pub Begun : Counts → Type 0
Begun st = 1 ≤ st.consts + st.codes

pub none_ahead : {st : Counts} {q : ℕ} {fs : List F} → Runs st q fs → Begun st → descriptors_ahead fs ≡ []
none_ahead (last r e) h = at_last (told_as r)
  where
    at_last : {st : Counts} {f : F} → Told st f Done → descriptors_ahead (f ∷ []) ≡ []
    at_last (ended e) = unfold descriptors_ahead in refl
none_ahead (next {fs} r g) h = at_next fs (told_as r) h
  where
    at_next : {st u : Counts} {f : F} (fs : List F) → Told st f (On u) → Begun st → descriptors_ahead (f ∷ fs) ≡ []
    at_next fs (opened a) h = unfold descriptors_ahead in refl
    at_next fs (word a b) h = unfold descriptors_ahead in refl
    at_next fs (text a b) h = unfold descriptors_ahead in refl
    at_next fs (instruction a) h = unfold descriptors_ahead in refl
    at_next fs (described a b c d) h = absurd (omega arith)
