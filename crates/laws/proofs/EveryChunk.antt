-- "Every chunk number, each once": the law of Lua 5.3's loops, of steps and of runs. Assumes nothing.
use mathlib.Core.Path.{◌≡◌, refl, sym, ap, ◌∙◌, subst}
use mathlib.Core.Bool.{Bool, true, false, ◌&&◌}
use Prim.Native.Nat.{ℕ, ◌-◌, ◌^◌}
use native.Mathlib.Omega.{arith}
use borrow.Author.Tests.{eqb-true, le-leb}
use lib.Dec.{eqb}
use lib.IntN.{ℤ, pos, negsuc, neg_ℤ, ◌+ℤ◌, ◌-ℤ◌, ◌*ℤ◌, -ℤ-+ℤ_cancel, +ℤ-neg_ℤ_cancel}
use Rattle.choices.proofs.Choices.{by_bool, and_left, and_right}
use Rattle.integer.specs.Wrap.{wrap}
use Rattle.integer.proofs.Order.{le-plus}
use Rattle.integer.proofs.WrapLaws.{InRange, wrap-same, wrap-only, wrap_congruent, times-neg}
use Rattle.storage.specs.Layout.{Storage}
use Rattle.checker.specs.Kept.{Demanded}
use Rattle.checker.specs.declared.Instruction.TheVariants as instruction
use Rattle.checker.proofs.Exact.{exact}
use Rattle.state.specs.Frames.{depth_in, prototype_in, instruction_in}
use Rattle.state.specs.States.{State}
use Rattle.fitness.specs.Fit.{decoded_at}
use Rattle.fitness.proofs.Facts.{fit-facts}
use Rattle.laws.specs.Passes.{LoopAt, Controls, visits, lives, Comes, here, later}
use Rattle.laws.specs.Chunks.{is_past, Setting, Fits64, first_visit, Turns, EveryChunk, ChunksSoFar}
use Rattle.laws.proofs.Whole.{least_of, swap, le-add, le_trans, le_lt_trans, lt_trans, less_by}
use Rattle.laws.proofs.Listing.{past_up}
use Rattle.laws.proofs.Fitting.{Running}
use Rattle.laws.proofs.Stories.{comes-once, comes-steps, step-running, so_far, any_edition}
use Rattle.laws.proofs.Visits.{held_small, StandsAt, opener, prep_step, prep_visit, prep_controls, visit-turns}

-- ---- what doesn't wrap

-- "limit + step fits": then so does the number after one that is not past the limit
next_fits : (limit step v : ℤ) → InRange v → is_past limit step v ≡ false → Fits64 (limit +ℤ step) → InRange (v +ℤ step)
next_fits limit (pos d) v r p f =
    let upto = le-add v limit (pos d) (least_of limit v (sym (past_up limit v d) ∙ p)) in (
      le_trans (neg_ℤ (pos (2 ^ 63))) v (v +ℤ pos d) r.0 (le-plus v d),
      le_lt_trans (v +ℤ pos d) (limit +ℤ pos d) (pos (2 ^ 63)) upto f.most,
    )
next_fits limit (negsuc d) v r p f =
    let down = le-add limit v (negsuc d) (least_of v limit p) in (
      le_trans (neg_ℤ (pos (2 ^ 63))) (limit +ℤ negsuc d) (v +ℤ negsuc d) f.least down,
      lt_trans (v +ℤ negsuc d) v (pos (2 ^ 63)) (less_by v d) r.1,
    )

-- "A start - step that wraps is allowed": the sum wraps back
wraps-back : (start step : ℤ) → InRange start → wrap (wrap (start -ℤ step) +ℤ step) ≡ start
wraps-back start step r =
    let M : ℤ = pos (2 ^ 64) in
    let w = wrap_congruent (start -ℤ step) in
    let k : ℤ = w.0 in
    let sum : wrap (start -ℤ step) +ℤ step ≡ start +ℤ M *ℤ k =
    ap (λ (x : ℤ). x +ℤ step) w.1 ∙ swap (start -ℤ step) (M *ℤ k) step ∙ ap (λ (x : ℤ). x +ℤ M *ℤ k) (-ℤ-+ℤ_cancel start step) in
    let away : start ≡ wrap (start -ℤ step) +ℤ step +ℤ M *ℤ neg_ℤ k =
    sym (ap (λ (x : ℤ). x +ℤ M *ℤ neg_ℤ k) sum ∙ ap (λ (x : ℤ). start +ℤ M *ℤ k +ℤ x) (times-neg (2 ^ 64) k) ∙ +ℤ-neg_ℤ_cancel start (M *ℤ k)) in
    sym (wrap-only (wrap (start -ℤ step) +ℤ step) start (neg_ℤ k) r away)

-- ---- the loop of a setting

module _ (S : Storage) (L : LoopAt) (s : State) (start limit step : ℤ) (h : Setting S L s start limit step) where
  demanded : Demanded S
  demanded = (exact S).0 h.accepted

  runs : Running S s
  runs = record { fit = fit-facts S s h.fit; runs = h.running }

  abbrev p : ℕ
  p = instruction_in s.frames (L.depth - 1)

  stands : StandsAt S L s p
  stands = record { running = runs; depth = h.prepares.depth; prototype = h.prepares.prototype; place = refl }

  abbrev e : State
  e = opener S L s p stands start limit step h.controls h.prepares.prep

  visit-stands : (u : State) → Running S u → visits L u ≡ true → StandsAt S L u L.place
  unfolding visits
  visit-stands u r v =
      let d : Bool = eqb (depth_in u.frames) L.depth in
      let q : Bool = eqb (prototype_in u.frames (L.depth - 1)) L.prototype in
      let i : Bool = eqb (instruction_in u.frames (L.depth - 1)) L.place in
      record {
        running = r;
        depth = eqb-true _ _ (and_left d q (and_left (d && q) i v));
        prototype = eqb-true _ _ (and_right d q (and_left (d && q) i v));
        place = eqb-true _ _ (and_right (d && q) i v);
      }

  -- Prep doesn't stand where the loop instruction does
  elsewhere : visits L s ≡ false
  elsewhere =
      by_bool (visits L s)
      (λ v. let at : p ≡ L.place = (visit-stands s runs v).place in
      let two : instruction.NumericForPrep L.base L.place ≡ instruction.NumericForLoop L.base L.body =
      sym h.prepares.prep ∙ ap (decoded_at S.table S.code L.prototype) at ∙ h.prepares.loop in
      let z : ◌≡◌ {A = ℕ} 0 1 = cc in
      absurd (omega arith))
      (λ v. v)

  live : lives L s ≡ true
  unfolding lives
  live = le-leb L.depth (depth_in s.frames) (omega (arith, h.prepares.depth))

  -- the first visit
  opens : Comes S L s 1 e
  opens =
      later elsewhere live (prep_step S L s p stands start limit step h.controls h.prepares.prep)
      (here (prep_visit S L s p stands start limit step h.controls h.prepares.prep))

  first-running : Running S e
  first-running = step-running S demanded runs (prep_step S L s p stands start limit step h.controls h.prepares.prep)

  -- what a visit does, "limit + step fits 64 bits": it goes on by one number
  onward :
      Fits64 (limit +ℤ step) → (u : State) (v : ℤ) → Running S u → visits L u ≡ true → Controls S L u v limit step → is_past limit step v ≡ false
      → Turns S L limit step u (v +ℤ step)
  onward fits u v r at c q =
      let small : InRange v = held_small _ _ v c.holds_index in
      subst (Turns S L limit step u) (wrap-same (v +ℤ step) (next_fits limit step v small q fits))
      (visit-turns S L u (visit-stands u r at) v limit step c h.prepares.loop)

  -- what opens the first pass, without that premise
  opening : Turns S L limit step e start
  opening =
      let small : InRange start = held_small _ _ start h.controls.holds_index in
      subst (Turns S L limit step e) (wraps-back start step small)
      (visit-turns S L e (visit-stands e first-running (prep_visit S L s p stands start limit step h.controls h.prepares.prep))
      (wrap (start -ℤ step)) limit step (prep_controls S L s p stands start limit step h.controls h.prepares.prep) h.prepares.loop)

pub every-chunk : EveryChunk
every-chunk S L s start limit step h bounded passes =
    any_edition first_visit S L s start limit step h bounded.nonzero
    (record {
      before = 1;
      opener = e S L s start limit step h;
      opened = opens S L s start limit step h;
      reached = comes-steps S L (opens S L s start limit step h);
      turns = opening S L s start limit step h;
      onward = (λ u v fit runs. onward S L s start limit step h bounded.fits u v (record { fit = fit-facts S u fit; runs = runs }));
    })
    passes

pub chunks_so_far : ChunksSoFar
chunks_so_far S L s start limit step h bounded k e come xs n t r kept =
    let same = comes-once S L (opens S L s start limit step h) come in
    so_far S L (demanded S L s start limit step h) limit step (onward S L s start limit step h bounded.fits) bounded.nonzero r kept start
    (subst (Running S) same.visit (first-running S L s start limit step h))
    (subst (λ (x : State). Turns S L limit step x start) same.visit (opening S L s start limit step h))
