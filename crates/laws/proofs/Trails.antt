-- A loop at hand, computed: what is seen of its states one after another, and the story that follows from that. Assumes nothing.
use mathlib.Core.Path.{◌≡◌, refl, ap, ◌∙◌, subst}
use mathlib.Core.Bool.{Bool, true, false}
use mathlib.Core.List.{List, [], ◌∷◌}
use Prim.Native.Nat.{ℕ, suc, ◌+◌, ◌-◌}
use lib.IntN.{ℤ}
use Rattle.storage.specs.Layout.{Storage}
use Rattle.constant.specs.declared.Value.{Value}
use Rattle.constant.specs.declared.Value.TheVariants.{Nil, Integer}
use Rattle.checker.specs.Check.{check_of}
use Rattle.std.specs.Prelude.{Ok}
use Rattle.checker.specs.Check.{Checked}
use Rattle.checker.specs.declared.Instruction.{Instruction}
use Rattle.checker.specs.declared.Instruction.TheVariants as instruction
use Rattle.state.specs.Frames.{mark_in, depth_in, prototype_in, instruction_in}
use Rattle.fitness.specs.Fit.{fit_of, decoded_at}
use Rattle.state.specs.States.{State}
use Rattle.step.specs.Step.{on, step_of}
use Rattle.laws.specs.Passes as passes
use Rattle.laws.specs.Passes.{LoopAt, Unchanged, register_in, number_in, visits, lives, Comes, here, later, begins_pass, Reached, first_pass, later_pass, Story, Keeping}
use Rattle.laws.specs.Chunks.{Setting, AllBack}
use Rattle.laws.specs.Needed.{Shows}
use Rattle.laws.proofs.Stories.{same_turn, clash, comes-once}
use Rattle.laws.proofs.Walks.{goes, later-on, goes_on, never_back, Walk, over, pass, walk_story, walk-returning, walk-keeping, at_first}

-- ---- what is computed of a loop

-- all that a setting says
pub record Look : Type 0 where
  pub accepted : Checked
  pub fit : Bool
  pub mark : ℕ
  pub depth : ℕ
  pub prototype : ℕ
  pub prep : Instruction
  pub loop : Instruction
  pub index : Value
  pub limit : Value
  pub step : Value

abbrev pub look_at : Storage → LoopAt → State → Look
look_at S L s =
    record {
      accepted = check_of S;
      fit = fit_of S s;
      mark = mark_in s.frames;
      depth = depth_in s.frames;
      prototype = prototype_in s.frames (L.depth - 1);
      prep = decoded_at S.table S.code L.prototype (instruction_in s.frames (L.depth - 1));
      loop = decoded_at S.table S.code L.prototype L.place;
      index = register_in S L s L.base;
      limit = register_in S L s (L.base + 1);
      step = register_in S L s (L.base + 2);
    }

abbrev pub right : LoopAt → ℤ → ℤ → ℤ → Look
right L start limit step =
    record {
      accepted = Ok tt;
      fit = true;
      mark = 70;
      depth = L.depth;
      prototype = L.prototype;
      prep = instruction.NumericForPrep L.base L.place;
      loop = instruction.NumericForLoop L.base L.body;
      index = Integer start;
      limit = Integer limit;
      step = Integer step;
    }

pub set-up : (S : Storage) (L : LoopAt) (s : State) (start limit step : ℤ) → look_at S L s ≡ right L start limit step → Setting S L s start limit step
set-up S L s start limit step e =
    record {
      accepted = ap (λ (x : Look). x.accepted) e;
      fit = ap (λ (x : Look). x.fit) e;
      running = ap (λ (x : Look). x.mark) e;
      prepares = record {
        depth = ap (λ (x : Look). x.depth) e;
        prototype = ap (λ (x : Look). x.prototype) e;
        prep = ap (λ (x : Look). x.prep) e;
        loop = ap (λ (x : Look). x.loop) e;
      };
      controls = record {
        holds_index = ap (λ (x : Look). x.index) e;
        holds_limit = ap (λ (x : Look). x.limit) e;
        holds_step = ap (λ (x : Look). x.step) e;
      };
    }

-- what is seen of a state: whether it is a visit, whether the loop's activation lives, whether the next instruction begins a pass, whether it goes on; what
-- register base + 3 holds
pub record Seen : Type 0 where
  pub visit : Bool
  pub live : Bool
  pub begin : Bool
  pub go : Bool
  pub number : Value

abbrev pub seen : Bool → Bool → Bool → Bool → Value → Seen
seen v l b g x = record { visit = v; live = l; begin = b; go = g; number = x }

-- on the way to a visit; a visit that begins a pass; one that leaves the loop; a state whose next instruction stops the machine
abbrev pub away : Value → Seen
away = seen false true false true

abbrev pub enters : Value → Seen
enters = seen true true true true

abbrev pub exits : Value → Seen
exits = seen true true false true

abbrev pub stops : Value → Seen
stops = seen false true false false

abbrev pub seen_at : Storage → LoopAt → State → Seen
seen_at S L t = seen (visits L t) (lives L t) (begins_pass S t) (goes (step_of S t)) (number_in S L t)

pub record Sees (S : Storage) (L : LoopAt) (t : State) (x : Seen) : Type 0 where
  pub so : seen_at S L t ≡ x

-- the states from the one after n steps on are seen so
abbrev pub Trail : Storage → LoopAt → State → ℕ → List Seen → Type 0
Trail S L s n [] = Unit {0}
Trail S L s n (x ∷ xs) = Sees S L (later-on S s n) x × Trail S L s (suc n) xs

-- ---- from what is computed to the story

unchanged : (S : Storage) (L : LoopAt) (t : State) → Unchanged S L t t
unchanged S L t = record { index = refl; limit = refl; step = refl }

-- a state as it was seen
module _ (S : Storage) (L : LoopAt) {t : State} {x : Seen} (e : Sees S L t x) where
  visit-is : visits L t ≡ x.visit
  visit-is = ap (λ (y : Seen). y.visit) e.so

  live-is : lives L t ≡ x.live
  live-is = ap (λ (y : Seen). y.live) e.so

  begin-is : begins_pass S t ≡ x.begin
  begin-is = ap (λ (y : Seen). y.begin) e.so

  go-is : goes (step_of S t) ≡ x.go
  go-is = ap (λ (y : Seen). y.go) e.so

  number_is : number_in S L t ≡ x.number
  number_is = ap (λ (y : Seen). y.number) e.so

module _ (S : Storage) (L : LoopAt) (s : State) where
  abbrev pub at : ℕ → State
  at = later-on S s

  on-from : {x : Seen} (i : ℕ) → Sees S L (at i) x → x.go ≡ true → step_of S (at i) ≡ on (at (suc i))
  on-from i e g = goes_on S s i (go-is S L e ∙ g)

  -- Prep leads to a visit that begins a pass
  module _ (prep : Sees S L (at 0) (away Nil)) (visit : Sees S L (at 1) (enters Nil)) where
    pub first-visit : Comes S L s 1 (at 1)
    unfolding later-on
    first-visit = later (visit-is S L prep) (live-is S L prep) (on-from 0 prep refl) (here (visit-is S L visit))

    pub first-begins : begins_pass S (at 1) ≡ true
    first-begins = begin-is S L visit

    pub into : step_of S (at 1) ≡ on (at 2)
    into = on-from 1 visit refl

  -- three passes without steps
  module _ (a b c : Value) (h : Trail S L s 0 (away Nil ∷ enters Nil ∷ enters a ∷ enters b ∷ exits c ∷ [])) where
    thrice : Walk S L (Unchanged S L) (at 1) (a ∷ b ∷ c ∷ []) 4 (at 5)
    thrice =
        let two = h.1.1.0 in
        let three = h.1.1.1.0 in
        let four = h.1.1.1.1.0 in
        rw (← number_is S L two, ← number_is S L three, ← number_is S L four)
        (pass (first-begins h.0 h.1.0) (into h.0 h.1.0) (here (visit-is S L two)) (unchanged S L (at 2))
        (pass (begin-is S L two) (on-from 2 two refl) (here (visit-is S L three)) (unchanged S L (at 3))
        (pass (begin-is S L three) (on-from 3 three refl) (here (visit-is S L four)) (unchanged S L (at 4))
        (over (begin-is S L four) (on-from 4 four refl)))))

    pub shows_thrice :
        (Limits : ℤ → ℤ → Type 0) (start limit step : ℤ) → look_at S L s ≡ right L start limit step → Limits limit step
        → Shows Limits AllBack S L s start limit step (a ∷ b ∷ c ∷ [])
    shows_thrice Limits start limit step look limits =
        record {
          setting = set-up S L s start limit step look;
          limits = limits;
          passes = at_first S L (AllBack S L) (first-visit h.0 h.1.0)
              (record { returning = walk-returning S L (Unchanged S L) thrice; keeping = walk-keeping S L thrice });
          before = 1;
          opener = at 1;
          opened = first-visit h.0 h.1.0;
          steps = 4;
          after = at 5;
          story = walk_story S L (Unchanged S L) thrice;
        }

  -- a pass of one step, after which the loop is left
  module _ (a b : Value) (h : Trail S L s 0 (away Nil ∷ enters Nil ∷ away a ∷ exits b ∷ [])) where
    pub once : Walk S L (λ t u. Unit {0}) (at 1) (a ∷ []) 3 (at 4)
    once =
        let two = h.1.1.0 in
        let three = h.1.1.1.0 in
        rw (← number_is S L two)
        (pass (first-begins h.0 h.1.0) (into h.0 h.1.0) (later (visit-is S L two) (live-is S L two) (on-from 2 two refl) (here (visit-is S L three))) tt
        (over (begin-is S L three) (on-from 3 three refl)))

  -- a pass that stops before it comes back
  module _ (a : Value) (h : Trail S L s 0 (away Nil ∷ enters Nil ∷ stops a ∷ [])) where
    not_back : {t u : State} {n : ℕ} → step_of S (at 1) ≡ on t → Comes S L t n u → ⊥
    not_back {t = t} {u = u} {n = n} e c =
        let two = h.1.1.0 in
        never_back S L (visit-is S L two) (go-is S L two) (subst (λ (x : State). Comes S L x n u) (same_turn S (at 1) t (at 2) e (into h.0 h.1.0)) c)

    pub stopped-keeping : Keeping S L (at 1)
    stopped-keeping xs n t (first_pass b e) m u c = absurd (not_back e c)
    stopped-keeping xs n t (later_pass b e d r) m u c = absurd (not_back e d)

    pub no_story : {xs : List Value} {n : ℕ} {f : State} → Story S L (at 1) xs n f → ⊥
    no_story (passes.leaves_loop b e) = clash (begins_pass S (at 1)) (first-begins h.0 h.1.0) b
    no_story (passes.makes_pass b e c x) = not_back e c

  -- a pass without steps that begins itself again
  module _ (a : Value) (h : Trail S L s 0 (away Nil ∷ enters Nil ∷ enters a ∷ [])) (again : step_of S (at 2) ≡ on (at 2)) where
    -- the visit after a step to state 2
    same : (x : State) {t u : State} {n : ℕ} → step_of S x ≡ on (at 2) → step_of S x ≡ on t → Comes S L t n u → at 2 ≡ u
    same x {t = t} {u = u} {n = n} e f c =
        (comes-once S L (here (visit-is S L h.1.1.0)) (subst (λ (y : State). Comes S L y n u) (same_turn S x t (at 2) f e) c)).visit

    pub endless : {x f : State} {xs : List Value} {n : ℕ} → step_of S x ≡ on (at 2) → begins_pass S x ≡ true → Story S L x xs n f → ⊥
    endless {x = x} e b (passes.leaves_loop a s) = clash (begins_pass S x) b a
    endless {x = x} {f = f} e b (passes.makes_pass {u = u} {m = m} {xs = xs} a s c y) =
        let is : at 2 ≡ u = same x e s c in
        endless (subst (λ (z : State). step_of S z ≡ on (at 2)) is again)
        (subst (λ (z : State). begins_pass S z ≡ true) is (begin-is S L h.1.1.0)) y

    every : {x t : State} {xs : List Value} {n : ℕ} → step_of S x ≡ on (at 2) → Reached S L x xs n t → at 2 ≡ t
    every {x = x} e (first_pass {t = t} b s) = same_turn S x (at 2) t e s
    every {x = x} e (later_pass b s c r) = every (subst (λ (z : State). step_of S z ≡ on (at 2)) (same x e s c) again) r

    here-again : {t : State} → at 2 ≡ t → Comes S L t 0 t
    here-again is = here (subst (λ (z : State). visits L z ≡ true) is (visit-is S L h.1.1.0))

    pub endless-back : AllBack S L (at 1)
    endless-back =
        record {
          returning = (λ xs n t r. (0, t, here-again (every (into h.0 h.1.0) r)));
          keeping = (λ xs n t r m u c.
              subst (Unchanged S L t) (comes-once S L (here-again (every (into h.0 h.1.0) r)) c).visit (unchanged S L t));
        }
