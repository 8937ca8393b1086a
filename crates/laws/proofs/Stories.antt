-- Stories of loops, whatever the edition: a state has one at most, its steps are steps of the machine, and where every visit goes on by one number it tells the whole
-- list. Assumes nothing.
use mathlib.Core.Path.{◌≡◌, refl, sym, ap, ◌∙◌, subst}
use mathlib.Core.Bool.{Bool, true, false, false≢true}
use mathlib.Core.List.{List, ◌∷◌, ◌++◌}
use Prim.Native.Nat.{ℕ, zero, suc, ◌+◌, ◌<◌}
use native.Mathlib.Omega.{arith}
use lib.ListN.{length, get_or, take}
use lib.IntN.{ℤ, ◌+ℤ◌}
use Rattle.storage.specs.Layout.{Storage}
use Rattle.constant.specs.declared.Value.{Value}
use Rattle.constant.specs.declared.Value.TheVariants.{Nil, Integer}
use Rattle.checker.specs.Kept.{Demanded}
use Rattle.checker.proofs.Exact.{exact}
use Rattle.fitness.proofs.Facts.{fit-facts, facts-fit}
use Rattle.state.specs.States.{State}
use Rattle.step.specs.Step.{Turn, on, stop, fault, step_of}
use Rattle.laws.specs.Statements as statements
use Rattle.laws.specs.Statements.{Steps}
use Rattle.laws.specs.Passes.{LoopAt, Controls, Unchanged, number_in, visits, Comes, here, later, begins_pass, Reached, first_pass, later_pass, KeptUntil, Story, leaves_loop, makes_pass, Behind, Returning, Keeping}
use Rattle.laws.specs.Chunks as chunks
use Rattle.laws.specs.Chunks.{is_past, Chunks, NotZero, Turns, jumps_on, goes_behind, AnyEdition, SameStory, OneStory}
use Rattle.laws.proofs.Fitting.{Running}
use Rattle.laws.proofs.Steps.{Stays}
use Rattle.laws.proofs.Runs.{step_stays}
use Rattle.laws.proofs.Listing.{listed}

-- ---- a step leads to one state

unfoldable pub to : Turn → State → State
to (on t) s = t
to (stop n t) s = s
to (fault t) s = s

pub same_turn : (S : Storage) (s t u : State) → step_of S s ≡ on t → step_of S s ≡ on u → t ≡ u
unfolding to
same_turn S s t u e f = ap (λ (x : Turn). to x s) (sym e ∙ f)

pub clash : {X : Type 0} (b : Bool) → b ≡ true → b ≡ false → X
clash b e f = absurd (false≢true (sym f ∙ e))

module _ (S : Storage) (L : LoopAt) where
  -- ---- one visit is the first

  pub record Met (n m : ℕ) (u v : State) : Type 0 where
    pub steps : n ≡ m
    pub visit : u ≡ v

  pub comes-once : {s u v : State} {n m : ℕ} → Comes S L s n u → Comes S L s m v → Met n m u v
  comes-once (here a) (here b) = record { steps = refl; visit = refl }
  comes-once {s = s} (here a) (later b l e c) = clash (visits L s) a b
  comes-once {s = s} (later a l e c) (here b) = clash (visits L s) b a
  comes-once {s = s} {v = v} (later {t = t} a l e c) (later {t = w} {n = k} b _ f d) =
      let same = comes-once c (subst (λ (x : State). Comes S L x k v) (sym (same_turn S s t w e f)) d) in
      record { steps = ap (λ (x : ℕ). x + 1) same.steps; visit = same.visit }

  pub comes-visit : {s u : State} {n : ℕ} → Comes S L s n u → visits L u ≡ true
  comes-visit (here a) = a
  comes-visit (later a l e c) = comes-visit c

  -- ---- one story

  one :
      {e f g : State} {xs ys : List Value} {n m : ℕ} → Story S L e xs n f → Story S L e ys m g → SameStory xs ys n m f g
  one {e = s} (leaves_loop {f = f} a e) (leaves_loop {f = g} b d) = record { numbers = refl; steps = refl; after = same_turn S s f g e d }
  one {e = s} (leaves_loop a e) (makes_pass b d c x) = clash (begins_pass S s) b a
  one {e = s} (makes_pass a e c x) (leaves_loop b d) = clash (begins_pass S s) a b
  one {e = s} {g = g} (makes_pass {t = t} {u = u} {n = n} {m = k} {xs = xs} a e c x) (makes_pass {t = t'} {u = u'} {n = n'} {m = k'} {xs = ys} b d c' y) =
      let st : t ≡ t' = same_turn S s t t' e d in
      let met = comes-once c (subst (λ (z : State). Comes S L z n' u') (sym st) c') in
      let rest = one x (subst (λ (z : State). Story S L z ys k' g) (sym met.visit) y) in
      record {
        numbers = ap (λ (z : State). number_in S L z ∷ xs) st ∙ ap (λ (zs : List Value). number_in S L t' ∷ zs) rest.numbers;
        steps = ap (λ (z : ℕ). 1 + z + k) met.steps ∙ ap (λ (z : ℕ). 1 + n' + z) rest.steps;
        after = rest.after;
      }

  -- ---- steps of the machine

  after-step : {s t u : State} {n : ℕ} → step_of S s ≡ on t → Steps S t n u → Steps S s (n + 1) u
  after-step e statements.none = statements.more statements.none e
  after-step e (statements.more h f) = statements.more (after-step e h) f

  pub in_turn : {s t u : State} {n m : ℕ} → Steps S s n t → Steps S t m u → Steps S s (n + m) u
  in_turn {s = s} {u = u} {n = n} h statements.none = let e : n ≡ n + 0 = omega arith in subst (λ (k : ℕ). Steps S s k u) e h
  in_turn {s = s} {u = u} {n = n} h (statements.more {n = m} g e) =
      let i : n + m + 1 ≡ n + (m + 1) = omega arith in
      subst (λ (k : ℕ). Steps S s k u) i (statements.more (in_turn h g) e)

  pub comes-steps : {s u : State} {n : ℕ} → Comes S L s n u → Steps S s n u
  comes-steps (here a) = statements.none
  comes-steps (later a l e c) = after-step e (comes-steps c)

  -- a step, n steps and m steps
  turn-steps : {s t u v : State} {n m : ℕ} → step_of S s ≡ on t → Steps S t n u → Steps S u m v → Steps S s (1 + n + m) v
  turn-steps {s = s} {v = v} {n = n} {m = m} e h g =
      let i : n + m + 1 ≡ 1 + n + m = omega arith in
      subst (λ (k : ℕ). Steps S s k v) i (after-step e (in_turn h g))

  pub reached-steps : {s t : State} {xs : List Value} {n : ℕ} → Reached S L s xs n t → Steps S s n t
  reached-steps (first_pass a e) = after-step e statements.none
  reached-steps (later_pass a e c r) = turn-steps e (comes-steps c) (reached-steps r)

  pub story_steps : {s f : State} {xs : List Value} {n : ℕ} → Story S L s xs n f → Steps S s n f
  story_steps (leaves_loop a e) = after-step e statements.none
  story_steps (makes_pass a e c x) = turn-steps e (comes-steps c) (story_steps x)

  -- ---- every number of a story is that of a pass

  pub record PassOf (e : State) (xs : List Value) (i : ℕ) : Type 0 where
    pub steps : ℕ
    pub start : State
    pub reached : Reached S L e (take (suc i) xs) steps start
    pub holds : number_in S L start ≡ get_or xs i Nil

  pub pass_of : {e f : State} {xs : List Value} {n : ℕ} → Story S L e xs n f → (i : ℕ) → i < length xs → PassOf e xs i
  pass_of (leaves_loop a e) i h = absurd (omega arith)
  pass_of (makes_pass {t = t} a e c x) zero h = record { steps = 1; start = t; reached = first_pass a e; holds = refl }
  pass_of (makes_pass {n = n} {xs = xs} a e c x) (suc i) h =
      let l : i < length xs = omega arith in
      let rest = pass_of x i l in
      record { steps = 1 + n + rest.steps; start = rest.start; reached = later_pass a e c rest.reached; holds = rest.holds }

pub one_story : OneStory
one_story S L e xs ys n m f g = one S L

-- ---- a running machine stays one

module _ (S : Storage) (demanded : Demanded S) where
  pub step-running : {s t : State} → Running S s → step_of S s ≡ on t → Running S t
  step-running {s = s} r e = subst (Stays S) e (step_stays S s demanded r)

  pub steps-running : {s t : State} {n : ℕ} → Running S s → Steps S s n t → Running S t
  steps-running r statements.none = r
  steps-running r (statements.more h e) = step-running (steps-running r h) e

-- ---- the common part: what a visit does is the edition's; here it goes on by one number

module _
    (S : Storage) (L : LoopAt) (demanded : Demanded S) (limit step : ℤ)
    (onward :
    (u : State) (v : ℤ) → Running S u → visits L u ≡ true → Controls S L u v limit step → is_past limit step v ≡ false
    → Turns S L limit step u (v +ℤ step)) where
  -- controls that were kept
  kept-controls : {t u : State} {x : ℤ} → Controls S L t x limit step → Unchanged S L t u → Controls S L u x limit step
  kept-controls c k =
      record {
        holds_index = k.index ∙ c.holds_index;
        holds_limit = k.limit ∙ c.holds_limit;
        holds_step = k.step ∙ c.holds_step;
      }

  -- the visit after a pass that began with x
  back :
      {t u : State} {x : ℤ} {n : ℕ} → Running S t → is_past limit step x ≡ false → Controls S L t x limit step → Comes S L t n u → Unchanged S L t u
      → Turns S L limit step u (x +ℤ step)
  back {u = u} {x = x} r p c d k = onward u x (steps-running S demanded r (comes-steps S L d)) (comes-visit S L d) (kept-controls c k) p

  -- a story to its end
  pub record Ending (e : State) (xs : List Value) : Type 0 where
    pub steps : ℕ
    pub after : State
    pub story : Story S L e xs steps after
    pub behind : Behind L after

  pub told :
      {x : ℤ} {xs : List Value} → Chunks limit step x xs → (e : State) → Running S e → Turns S L limit step e x → Returning S L e → Keeping S L e
      → Ending e xs
  told {x = x} (chunks.no_chunk p) e r (jumps_on t q b s c h) ret keep = clash (is_past limit step x) p q
  told (chunks.no_chunk p) e r (goes_behind t q b s g) ret keep = record { steps = 1; after = t; story = leaves_loop b s; behind = g }
  told {x = x} (chunks.next_chunk p c) e r (goes_behind t q b s g) ret keep = clash (is_past limit step x) q p
  told {x = x} (chunks.next_chunk {xs = xs} p c) e r (jumps_on t q b s h num) ret keep =
      let r' = step-running S demanded r s in
      let come = ret _ _ t (first_pass b s) in
      let d = come.2 in
      let u = come.1 in
      let k = keep _ _ t (first_pass b s) come.0 u d in
      let rest =
      told c u (steps-running S demanded r' (comes-steps S L d)) (back r' p h d k) (λ ys m v g. ret _ _ v (later_pass b s d g))
      (λ ys m v g. keep _ _ v (later_pass b s d g)) in
      record {
        steps = 1 + come.0 + rest.steps;
        after = rest.after;
        story = subst (λ (y : Value). Story S L e (y ∷ xs) (1 + come.0 + rest.steps) rest.after) num (makes_pass b s d rest.story);
        behind = rest.behind;
      }

  -- as far as it has come
  pub so_far :
      NotZero limit step → {e t : State} {xs : List Value} {n : ℕ} (r : Reached S L e xs n t) → KeptUntil S L r → (x : ℤ) → Running S e
      → Turns S L limit step e x → (ys : List Value) × Chunks limit step x (xs ++ ys)
  so_far z {e = e} (first_pass b s) k x r (goes_behind t q a f i) = clash (begins_pass S e) b a
  so_far z {e = e} (later_pass b s d g) k x r (goes_behind t q a f i) = clash (begins_pass S e) b a
  so_far z {e = e} (first_pass {t = t} b s) k x r (jumps_on w q a f h num) =
      let rest = listed limit step z (x +ℤ step) in
      let is : Integer x ≡ number_in S L t = sym num ∙ ap (number_in S L) (same_turn S e w t f s) in
      (rest.0, subst (λ (y : Value). Chunks limit step x (y ∷ rest.0)) is (chunks.next_chunk q rest.1))
  so_far z {e = e} (later_pass {t = t} {xs = xs} b s d g) k x r (jumps_on w q a f h num) =
      let same : w ≡ t = same_turn S e w t f s in
      let r' = step-running S demanded r s in
      let h' : Controls S L t x limit step = subst (λ (y : State). Controls S L y x limit step) same h in
      let rest = so_far z g k.1 (x +ℤ step) (steps-running S demanded r' (comes-steps S L d)) (back r' q h' d k.0) in
      let is : Integer x ≡ number_in S L t = sym num ∙ ap (number_in S L) same in
      (rest.0, subst (λ (y : Value). Chunks limit step x (y ∷ (xs ++ rest.0))) is (chunks.next_chunk q rest.1))

-- ---- the law of any edition

pub any_edition : AnyEdition
any_edition opening S L s start limit step h nonzero by passes =
    let d = (exact S).0 h.accepted in
    let all = passes by.before by.opener by.opened in
    let list = listed limit step nonzero start in
    let first : Running S s = record { fit = fit-facts S s h.fit; runs = h.running } in
    let whole =
    told S L d limit step (λ u v r. by.onward u v (facts-fit S u r.fit) r.runs) list.1 by.opener
    (steps-running S d first by.reached) by.turns all.returning all.keeping in
    record {
      before = by.before;
      opener = by.opener;
      opened = by.opened;
      numbers = list.0;
      steps = whole.steps;
      after = whole.after;
      story = whole.story;
      behind = whole.behind;
      exactly = list.1;
    }
