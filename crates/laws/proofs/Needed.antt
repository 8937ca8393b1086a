-- That each premise of 4/12 is needed, and that W13 meets them all: by computation. Assumes nothing.
use mathlib.Core.Path.{◌≡◌, refl, sym, ap, subst}
use mathlib.Core.List.{List, [], ◌∷◌}
use Prim.Native.Nat.{ℕ, suc, ◌^◌}
use native.Mathlib.Omega.{arith}
use lib.IntN.{ℤ, pos, negsuc, neg_ℤ, nat_abs}
use lib.Signed.{le_z_yes, lt_z_yes}
use Rattle.worked.specs.Computing.{machine_computes}
use Rattle.worked.specs.Thirteen as thirteen
use Rattle.storage.specs.Layout.{Storage}
use Rattle.constant.specs.declared.Value.{Value}
use Rattle.constant.specs.declared.Value.TheVariants.{Nil, Integer}
use Rattle.state.specs.States.{State}
use Rattle.step.specs.Step.{on, step_of}
use Rattle.laws.specs.Passes.{LoopAt, visits, lives, Comes, begins_pass, Story, Returning, Keeping}
use Rattle.laws.specs.Chunks.{NotZero, SumFits, Bounded, AllBack, first_visit, TellsAll}
use Rattle.laws.specs.Needed.{thirteen_loop, ThirteenChunks, bare, bare_loop, controlled, largest, WrapsAround, SumNeeded, StepNeeded, moving, failing, around_loop, MovesIndex, KeepingNeeded, ReturningNeeded}
use Rattle.laws.proofs.Stories.{to, comes-once}
use Rattle.laws.proofs.Walks.{goes, later-on, walk_story, walk-returning, at_first, refuted}
use Rattle.laws.proofs.Trails.{look_at, right, set-up, away, enters, exits, stops, Trail, first-visit, first-begins, into, shows_thrice, once, stopped-keeping, no_story, endless, endless-back}

-- ---- numbers

other_than_zero : (n : ℕ) → pos (suc n) ≡ pos 0 → ⊥
other_than_zero n e = let z : suc n ≡ 0 = ap nat_abs e in omega arith

apart-three : pos 3 ≡ pos 1 → ⊥
apart-three e = let z : ◌≡◌ {A = ℕ} 3 1 = ap nat_abs e in omega arith

apart-one : pos 1 ≡ pos 3 → ⊥
apart-one e = apart-three (sym e)

one-fits : SumFits (pos 1) (pos 0)
one-fits = record { least = le_z_yes {a = neg_ℤ (pos (2 ^ 63))} {b = pos 1} tt; most = lt_z_yes {a = pos 1} {b = pos (2 ^ 63)} tt }

-- limit 3 and step 1
one-to-three : Bounded (pos 3) (pos 1)
one-to-three =
    record {
      nonzero = other_than_zero 0;
      fits = record { least = le_z_yes {a = neg_ℤ (pos (2 ^ 63))} {b = pos 4} tt; most = lt_z_yes {a = pos 4} {b = pos (2 ^ 63)} tt };
    }

-- ---- what is computed

-- the loops of specs/Needed: Prep, the first visit, and so on
record Computed : Type 0 where
  counts : look_at thirteen.thirteen_stored thirteen_loop (thirteen.ends_on 3).state ≡ right thirteen_loop (pos 1) (pos 3) (pos 1)
  counting :
      Trail thirteen.thirteen_stored thirteen_loop (thirteen.ends_on 3).state 0
      (away Nil ∷ enters Nil ∷ enters (Integer (pos 1)) ∷ enters (Integer (pos 2)) ∷ exits (Integer (pos 3)) ∷ [])
  wraps : look_at bare bare_loop (controlled 1 1 largest) ≡ right bare_loop (pos 1) (pos 1) (pos largest)
  wrapping :
      Trail bare bare_loop (controlled 1 1 largest) 0
      (away Nil ∷ enters Nil ∷ enters (Integer (pos 1)) ∷ enters (Integer (negsuc largest)) ∷ exits (Integer (negsuc 0)) ∷ [])
  stays : look_at bare bare_loop (controlled 1 1 0) ≡ right bare_loop (pos 1) (pos 1) (pos 0)
  staying : Trail bare bare_loop (controlled 1 1 0) 0 (away Nil ∷ enters Nil ∷ enters (Integer (pos 1)) ∷ [])
  again : step_of bare (later-on bare (controlled 1 1 0) 2) ≡ on (later-on bare (controlled 1 1 0) 2)
  moves : look_at moving around_loop (controlled 1 3 1) ≡ right around_loop (pos 1) (pos 3) (pos 1)
  moved :
      Trail moving around_loop (controlled 1 3 1) 0 (away Nil ∷ enters Nil ∷ away (Integer (pos 1)) ∷ exits (Integer (pos 1)) ∷ [])
  fails : look_at failing around_loop (controlled 1 3 1) ≡ right around_loop (pos 1) (pos 3) (pos 1)
  failed : Trail failing around_loop (controlled 1 3 1) 0 (away Nil ∷ enters Nil ∷ stops (Integer (pos 1)) ∷ [])

computed : Computed
unfolding machine_computes thirteen.thirteen_frames thirteen.thirteen_text thirteen.thirteen_stored thirteen.begins thirteen.ends_on visits lives begins_pass to goes later-on
computed =
    record {
      counts = refl;
      counting = (record { so = refl }, (record { so = refl }, (record { so = refl }, (record { so = refl }, (record { so = refl }, tt)))));
      wraps = refl;
      wrapping = (record { so = refl }, (record { so = refl }, (record { so = refl }, (record { so = refl }, (record { so = refl }, tt)))));
      stays = refl;
      staying = (record { so = refl }, (record { so = refl }, (record { so = refl }, tt)));
      again = refl;
      moves = refl;
      moved = (record { so = refl }, (record { so = refl }, (record { so = refl }, (record { so = refl }, tt))));
      fails = refl;
      failed = (record { so = refl }, (record { so = refl }, (record { so = refl }, tt)));
    }

-- ---- W13

pub thirteen_chunks : ThirteenChunks
thirteen_chunks =
    shows_thrice thirteen.thirteen_stored thirteen_loop (thirteen.ends_on 3).state _ _ _ computed.counting Bounded (pos 1) (pos 3) (pos 1)
    computed.counts one-to-three

-- ---- the premises

pub wraps-around : WrapsAround
wraps-around =
    shows_thrice bare bare_loop (controlled 1 1 largest) _ _ _ computed.wrapping NotZero (pos 1) (pos 1) (pos largest) computed.wraps
    (other_than_zero 9223372036854775806)

pub sum-needed : SumNeeded
sum-needed =
    refuted NotZero AllBack bare bare_loop (controlled 1 1 largest) (pos 1) (pos 1) (pos largest) _ wraps-around
    (other_than_zero 9223372036854775806) (λ e. apart-three e)

pub moves-index : MovesIndex
moves-index =
    let w = once moving around_loop (controlled 1 3 1) _ _ computed.moved in
    let v = first-visit moving around_loop (controlled 1 3 1) computed.moved.0 computed.moved.1.0 in
    record {
      setting = set-up moving around_loop (controlled 1 3 1) (pos 1) (pos 3) (pos 1) computed.moves;
      limits = one-to-three;
      passes = at_first moving around_loop (Returning moving around_loop) v (walk-returning moving around_loop (λ t u. Unit {0}) w);
      before = 1;
      opener = later-on moving (controlled 1 3 1) 1;
      opened = v;
      steps = 3;
      after = later-on moving (controlled 1 3 1) 4;
      story = walk_story moving around_loop (λ t u. Unit {0}) w;
    }

pub keeping-needed : KeepingNeeded
keeping-needed =
    refuted Bounded Returning moving around_loop (controlled 1 3 1) (pos 1) (pos 3) (pos 1) _ moves-index (other_than_zero 0) (λ e. apart-one e)

-- the law's first visit is the one that was computed, and so its story
module _ (S : Storage) (L : LoopAt) (s : State) (start limit step : ℤ) where
  from_first :
      {e : State} → Comes S L s 1 e → ((xs : List Value) (n : ℕ) (f : State) → Story S L e xs n f → ⊥)
      → TellsAll first_visit S L s start limit step → ⊥
  from_first c none t =
      none t.numbers t.steps t.after
      (subst (λ (x : State). Story S L x t.numbers t.steps t.after) (comes-once S L t.opened c).visit t.story)

pub step-needed : StepNeeded
step-needed law =
    let s = controlled 1 1 0 in
    let v = first-visit bare bare_loop s computed.staying.0 computed.staying.1.0 in
    from_first bare bare_loop s (pos 1) (pos 1) (pos 0) v
    (λ xs n f. endless bare bare_loop s _ computed.staying computed.again (into bare bare_loop s computed.staying.0 computed.staying.1.0)
    (first-begins bare bare_loop s computed.staying.0 computed.staying.1.0))
    (law bare bare_loop s (pos 1) (pos 1) (pos 0) (set-up bare bare_loop s (pos 1) (pos 1) (pos 0) computed.stays) one-fits
    (at_first bare bare_loop (AllBack bare bare_loop) v (endless-back bare bare_loop s _ computed.staying computed.again)))

pub returning-needed : ReturningNeeded
returning-needed law =
    let s = controlled 1 3 1 in
    let v = first-visit failing around_loop s computed.failed.0 computed.failed.1.0 in
    from_first failing around_loop s (pos 1) (pos 3) (pos 1) v (λ xs n f. no_story failing around_loop s _ computed.failed)
    (law failing around_loop s (pos 1) (pos 3) (pos 1) (set-up failing around_loop s (pos 1) (pos 3) (pos 1) computed.fails) one-to-three
    (at_first failing around_loop (Keeping failing around_loop) v (stopped-keeping failing around_loop s _ computed.failed)))
