-- A story that is known step by step: every pass of it comes back, and whatever holds of its passes holds of every pass that is reached. So the law's premises can be
-- shown of a loop at hand, and a law that asks for less refuted. Assumes nothing.
use mathlib.Core.Path.{◌≡◌, refl, sym, ap, ◌∙◌, subst}
use mathlib.Core.Bool.{Bool, true, false, false≢true}
use mathlib.Core.List.{List, [], ◌∷◌}
use Prim.Native.Nat.{ℕ, zero, suc, ◌+◌}
use lib.ListN.{length}
use lib.IntN.{ℤ, pos}
use Rattle.storage.specs.Layout.{Storage}
use Rattle.constant.specs.declared.Value.{Value}
use Rattle.state.specs.States.{State}
use Rattle.step.specs.Step.{Turn, on, stop, fault, step_of}
use Rattle.laws.specs.Passes.{LoopAt, Unchanged, number_in, visits, Comes, here, later, begins_pass, Reached, first_pass, later_pass, Story, Returning, Keeping}
use Rattle.laws.specs.Passes as passes
use Rattle.laws.specs.Chunks.{NotZero, first_visit, LawUnder, how_many}
use Rattle.laws.specs.Needed.{Shows}
use Rattle.laws.proofs.Listing.{closed-form}
use Rattle.laws.proofs.Stories.{to, same_turn, clash, comes-once, one_story}

-- ---- steps that go on

unfoldable pub goes : Turn → Bool
goes (on t) = true
goes (stop n t) = false
goes (fault t) = false

-- the state after n steps
unfoldable pub later-on : Storage → State → ℕ → State
later-on S s zero = s
later-on S s (suc n) = to (step_of S (later-on S s n)) s

on-to : (x : Turn) (s : State) → goes x ≡ true → x ≡ on (to x s)
unfolding goes to
on-to (on t) s e = refl
on-to (stop n t) s e = absurd (false≢true e)
on-to (fault t) s e = absurd (false≢true e)

pub goes_on : (S : Storage) (s : State) (n : ℕ) → goes (step_of S (later-on S s n)) ≡ true → step_of S (later-on S s n) ≡ on (later-on S s (suc n))
unfolding later-on
goes_on S s n e = on-to (step_of S (later-on S s n)) s e

module _ (S : Storage) (L : LoopAt) where
  -- a pass that stops before it comes back doesn't
  pub never_back : {t u : State} {n : ℕ} → visits L t ≡ false → goes (step_of S t) ≡ false → Comes S L t n u → ⊥
  unfolding goes
  never_back {t = t} v g (here e) = clash (visits L t) e v
  never_back {t = t} v g (later e l f c) = clash (goes (step_of S t)) (ap goes f) g

  -- ---- a story with what holds of each of its passes, from its start to the visit after it

  module _ (Holds : State → State → Type 0) where
    pub data Walk : State → List Value → ℕ → State → Type 0 where
      over : {s f : State} → begins_pass S s ≡ false → step_of S s ≡ on f → Walk s [] 1 f
      pass :
          {s t u f : State} {n m : ℕ} {xs : List Value} → begins_pass S s ≡ true → step_of S s ≡ on t → Comes S L t n u → Holds t u → Walk u xs m f
          → Walk s (number_in S L t ∷ xs) (1 + n + m) f

    pub walk_story : {e f : State} {xs : List Value} {n : ℕ} → Walk e xs n f → Story S L e xs n f
    walk_story (over b s) = passes.leaves_loop b s
    walk_story (pass b s c h w) = passes.makes_pass b s c (walk_story w)

    pub record Back (t : State) : Type 0 where
      pub steps : ℕ
      pub visit : State
      pub comes : Comes S L t steps visit
      pub holds : Holds t visit

    pub walked : {e f t : State} {xs ys : List Value} {n m : ℕ} → Walk e xs n f → Reached S L e ys m t → Back t
    walked {e = e} (over b s) (first_pass a f) = clash (begins_pass S e) a b
    walked {e = e} (over b s) (later_pass a f c r) = clash (begins_pass S e) a b
    walked {e = e} (pass {t = t} {u = u} {n = n} b s c h w) (first_pass {t = v} a f) =
        subst Back (same_turn S e t v s f) (record { steps = n; visit = u; comes = c; holds = h })
    walked {e = e} (pass {t = t} {u = u} b s c h w) (later_pass {t = v} {u = x} {v = y} {n = n} {m = m} {xs = xs} a f d r) =
        let met = comes-once S L c (subst (λ (z : State). Comes S L z n x) (sym (same_turn S e t v s f)) d) in
        walked w (subst (λ (z : State). Reached S L z xs m y) (sym met.visit) r)

  pub walk-returning : (Holds : State → State → Type 0) {e f : State} {xs : List Value} {n : ℕ} → Walk Holds e xs n f → Returning S L e
  walk-returning Holds w ys m t r = let b = walked Holds w r in (b.steps, b.visit, b.comes)

  pub walk-keeping : {e f : State} {xs : List Value} {n : ℕ} → Walk (Unchanged S L) e xs n f → Keeping S L e
  walk-keeping w ys m t r k u c =
      let b = walked (Unchanged S L) w r in
      subst (Unchanged S L t) (comes-once S L b.comes c).visit b.holds

  -- what was shown of the first visit holds of whatever is named as the first visit
  pub at_first : (P : State → Type 0) {s e : State} {k : ℕ} → Comes S L s k e → P e → (n : ℕ) (x : State) → first_visit S L s n x → P x
  at_first P c h n x d = subst P (comes-once S L c d).visit h

-- ---- a law is refuted by a loop that meets its premises and begins another number of passes

pub refuted :
    (Limits : ℤ → ℤ → Type 0) (Passes : Storage → LoopAt → State → Type 0) (S : Storage) (L : LoopAt) (s : State) (start limit step : ℤ)
    (numbers : List Value) → Shows Limits Passes S L s start limit step numbers → NotZero limit step
    → (pos (length numbers) ≡ how_many start limit step → ⊥)
    → LawUnder first_visit Limits Passes → ⊥
refuted Limits Passes S L s start limit step numbers x nonzero other law =
    let t = law S L s start limit step x.setting x.limits x.passes in
    let met = comes-once S L t.opened x.opened in
    let same =
    one_story S L x.opener t.numbers numbers t.steps x.steps t.after x.after
    (subst (λ (e : State). Story S L e t.numbers t.steps t.after) met.visit t.story) x.story in
    other
    (ap (λ (xs : List Value). pos (length xs)) (sym same.numbers) ∙ (closed-form start limit step t.numbers nonzero t.exactly).many)
