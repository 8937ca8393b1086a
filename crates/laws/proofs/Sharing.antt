-- What closures share: of a state, and of the steps that get, set, capture and close. Assumes nothing.
use mathlib.Core.Path.{◌≡◌, refl, sym, ◌∙◌, subst}
use mathlib.Core.Logic.{inl, inr, ⊎_elim}
use mathlib.Core.Bool.{true, false, false≢true}
use mathlib.Core.List.{List}
use Prim.Native.Nat.{ℕ, ◌+◌, ◌-◌, ◌<◌, ◌≤◌}
use native.Mathlib.Omega.{arith}
use borrow.Author.Tests.{leb-true, leb-false, eqb-true, eq-eqb}
use lib.Dec.{leb}
use lib.ListN.{length, get_or}
use lib.Seq.{get_or-set_same, get_or-set_other}
use Rattle.choices.proofs.Choices.{by_bool}
use Rattle.storage.specs.Layout.{Storage}
use Rattle.storage.specs.Fields.{prototypes_of, registers_of, descriptors_of}
use Rattle.checker.specs.Check.{limits_of}
use Rattle.checker.specs.Decode.{class_of}
use Rattle.checker.specs.declared.Instruction.{Instruction}
use Rattle.checker.specs.declared.Instruction.TheVariants as instruction
use Rattle.checker.specs.declared.Class.{Class}
use Rattle.checker.specs.declared.Class.TheVariants.{Calls, Returns, Other}
use Rattle.effects.specs.Effects.{effect_of}
use Rattle.effects.specs.declared.Go.TheVariants.{Next, To}
use Rattle.state.specs.Frames.{depth_in, prototype_in, base_of, mark_with, depth_with}
use Rattle.state.specs.Record.{innermost}
use Rattle.state.specs.States.{State, state, cell_room}
use Rattle.state.specs.declared.Activation.{Activation}
use Rattle.state.proofs.Fields.{Behind, mark-behind, depth-behind, gone-behind}
use Rattle.state.proofs.Inmost.{depth_is, depth-some, depth-few, window-inside, caller-inside}
use Rattle.cells.specs.Cells.{cell_in, place_of}
use Rattle.cells.specs.Closing.{closed_from}
use Rattle.cells.proofs.Shapes.{place-open}
use Rattle.cells.proofs.Laws.{used, at_register, at_own}
use Rattle.cells.proofs.Entries.{held-behind, cell-behind, place-behind}
use Rattle.cells.proofs.Closed.{Sized, kept-below, none_open, apart}
use Rattle.cells.proofs.Sharing as sharing
use Rattle.fitness.specs.Fit.{is_call, before_in, waits_in}
use Rattle.fitness.specs.Facts.{Fit}
use Rattle.fitness.proofs.Facts.{fit-facts}
use Rattle.fitness.proofs.Keeping.{fit-sound, sized, upvalue-there}
use Rattle.fitness.proofs.Storing.{Beyond, beyond-window}
use Rattle.fitness.proofs.Descriptors.{descriptors-few}
use Rattle.reach.specs.Within.{Within, ClassWithin}
use Rattle.reach.proofs.Decoding.{decoded-within, before-within, class-within}
use Rattle.step.specs.Step.{on, gone_on, copied, caller_of, handed_down, back_of, leave_of, moved_on, close_of, carried_out, step_of}
use Rattle.laws.specs.Sharing as statements
use Rattle.laws.specs.Sharing.{inner, coming_up, content_at, cell_of, upvalue_of, IsUsed, IsOpenOn, IsClosed, StepsTo, Stored, Closes}
use Rattle.laws.proofs.Frames.{there-prototype}

-- ---- an open cell is the register, and a closed one nobody's

pub open-is-register : statements.OpenIsRegister
open-is-register s x u r e = rw (at_register s.frames (cell_of s x u) r e)

pub one-register-shared : statements.OneRegisterShared
one-register-shared S s fit x u y v r e g = (fit-facts S s fit).closures.cells.once (cell_of s x u) (cell_of s y v) (omega arith) (e ∙ sym g)

pub closed-keeps : statements.ClosedKeeps
closed-keeps s x u r kind word e l =
    let c = cell_of s x u in
    rw (sharing.own-kind s c e r kind word (omega arith), sharing.own-word s c e r kind word (omega arith))

pub one_entry : statements.OneEntry
one_entry words texts e d = (eqb-true e d, eq-eqb e d)

-- ---- of a fit state

module _ (S : Storage) (s : State) (h : Fit S s) where
  abbrev t : List ℕ
  t = S.table

  abbrev f : List ℕ
  f = s.frames

  abbrev a : Activation
  a = inner S s

  size : Sized s
  size =
      sized s (base_of t f (depth_in f)) h.closures.cells (omega (arith, h.stack.steady.ends)) h.stack.steady.long h.kinds_long
      h.words_long

  pub shallow : a.depth - 1 < 16
  shallow = omega (arith, depth-some t f a h.stack.steady refl, depth-few t f a h.stack.steady refl)

  pub own-known : a.prototype < prototypes_of t
  unfolding innermost
  own-known = there-prototype t f (depth_in f - 1) (h.stack.there (depth_in f - 1) (omega (arith, h.stack.steady.some)))

  -- a register of the window is there
  pub in_kinds : (r : ℕ) → r < registers_of t a.prototype → a.base + r < length s.kinds
  in_kinds r l = omega (arith, window-inside t f a h.stack.steady refl, h.kinds_long)

  pub in_words : (r : ℕ) → r < registers_of t a.prototype → a.base + r < length s.words
  in_words r l = omega (arith, window-inside t f a h.stack.steady refl, h.words_long)

  pub named : (i : Instruction) → coming_up S s ≡ i → Within (limits_of t a.prototype) a.instruction i
  named i e =
      subst (λ (x : Instruction). Within (limits_of t a.prototype) a.instruction x) e (decoded-within t S.code a.prototype a.instruction)

  -- an upvalue that an instruction names is in use
  up-used : (u : ℕ) → u < descriptors_of t a.prototype → IsUsed s a.closure u
  unfolding innermost
  up-used u l =
      let few = descriptors-few S h.reads (prototype_in f (depth_in f - 1)) own-known in
      (upvalue-there t S.kinds s (base_of t f (depth_in f)) (depth_in f) (depth_in f - 1) u (fit-sound S s h) (omega (arith, h.stack.steady.some)) l
      (omega arith)).1

  -- ---- two cells in use have two places

  places-apart :
      (c d : ℕ) → 0 < cell_in f c → 0 < cell_in f d → (c ≡ d → ⊥) → place_of f d ≡ place_of f c → ⊥
  places-apart c d uc ud n e =
      by_bool (leb 2 (cell_in f c))
      (λ o. let oc = leb-true 2 (cell_in f c) o in
      let pc = place-open f c (cell_in f c) refl oc in
      by_bool (leb 2 (cell_in f d))
      (λ g. let od = leb-true 2 (cell_in f d) g in
      let pd = place-open f d (cell_in f d) refl od in
      n (h.closures.cells.once c d oc (omega arith)))
      (λ g. let od = leb-false 2 (cell_in f d) g in
      apart s size d c (used f d ud) n (sym e ∙ at_own f d (omega arith))))
      (λ o. let oc = leb-false 2 (cell_in f c) o in
      apart s size c d (used f c uc) (λ z. n (sym z)) (e ∙ at_own f c (omega arith)))

  -- ---- GetUpValue

  gets : (dest u : ℕ) → coming_up S s ≡ instruction.GetUpValue dest u
      → StepsTo S s (λ t. content_at t (a.base + dest) ≡ upvalue_of s a.closure u)
  unfolding step_of effect_of carried_out moved_on
  gets dest u e =
      let w = named (instruction.GetUpValue dest u) e in
      let from = place_of f (cell_of s a.closure u) in
      let to = a.base + dest in
      record {
        to = state (gone_on f a Next) (copied from to s.kinds) (copied from to s.words);
        step = rw e;
        so = rw (
          get_or-set_same s.kinds to (get_or s.kinds from 0) 0 (in_kinds dest w.0),
          get_or-set_same s.words to (get_or s.words from 0) 0 (in_words dest w.0),
        );
      }

  -- ---- SetUpValue

  module _ (u source : ℕ) (e : coming_up S s ≡ instruction.SetUpValue u source) where
    abbrev place : ℕ
    place = place_of f (cell_of s a.closure u)

    abbrev gone : List ℕ
    gone = gone_on f a Next

    abbrev after : State
    after = state gone (copied (a.base + source) place s.kinds) (copied (a.base + source) place s.words)

    behind : Behind f gone
    behind = gone-behind f (a.depth - 1) _ shallow

    set-step : step_of S s ≡ on after
    unfolding step_of effect_of carried_out moved_on
    set-step = rw e

    -- where an upvalue stands after it, it stood before
    stands : (y v : ℕ) → place_of gone (cell_of after y v) ≡ place_of f (cell_of s y v)
    stands y v = rw (held-behind f gone behind y v) (place-behind f gone behind (cell_of s y v))

    is-used : IsUsed s a.closure u
    is-used = up-used u (named (instruction.SetUpValue u source) e).0

    sets : Stored s after a.closure u (content_at s (a.base + source))
    sets =
        let c = cell_of s a.closure u in
        let lent = sharing.sized-lent s size c (used f c is-used) in
        let kind = get_or s.kinds (a.base + source) 0 in
        let word = get_or s.words (a.base + source) 0 in
        record {
          shared = (λ y v g.
              rw (stands y v, ← g, get_or-set_same s.kinds place kind 0 lent.kinds, get_or-set_same s.words place word 0 lent.words));
          others = (λ y v o n.
              let d = cell_of s y v in
              let away = places-apart c d is-used o n in
              rw (stands y v, get_or-set_other s.kinds place (place_of f d) kind 0 away, get_or-set_other s.words place (place_of f d) word 0 away));
        }

    -- through a closed cell no register
    spares : IsClosed s a.closure u → (r : ℕ) → r < 2048 → content_at after r ≡ content_at s r
    spares z r l =
        let own = at_own f (cell_of s a.closure u) z in
        let away : r ≡ place → ⊥ = λ q. omega arith in
        rw (get_or-set_other s.kinds place r _ 0 away, get_or-set_other s.words place r _ 0 away)

  -- ---- closing

  module _ (r : ℕ) where
    abbrev shut : State
    shut = closed_from r s

    -- and a change of the mark or of an activation
    module _ (g : List ℕ) (b : Behind shut.frames g) where
      abbrev later : State
      later = state g shut.kinds shut.words

      same-cell : (x u : ℕ) → cell_of later x u ≡ cell_of s x u
      same-cell x u = rw (held-behind shut.frames g b x u, sharing.closed-held r s x u)

      cell-now : (x u : ℕ) → cell_in g (cell_of later x u) ≡ cell_in shut.frames (cell_of s x u)
      cell-now x u = rw (same-cell x u) (cell-behind shut.frames g b (cell_of s x u))

      closes : Closes r s later
      closes =
          let k = kept-below r s size 128 (omega arith) in
          record {
            cell = same-cell;
            keeps = (λ x u.
                let c = cell_of s x u in
                rw (same-cell x u, place-behind shut.frames g b c, sharing.closed-kind r s size c, sharing.closed-word r s size c));
            above = (λ x u j o l.
                let c = cell_of s x u in
                let low = none_open r s size c in
                cell-now x u ∙ ⊎_elim (λ q. absurd (omega arith)) (λ q. q.1) (k.cell c));
            below = (λ x u j o l.
                let c = cell_of s x u in
                cell-now x u ∙ ⊎_elim (λ q. q ∙ o) (λ q. let m = q.0 in absurd (omega arith)) (k.cell c));
          }

  jumps : (from target : ℕ) → coming_up S s ≡ instruction.Close from target → StepsTo S s (λ t. Closes (a.base + from) s t)
  unfolding step_of effect_of carried_out close_of
  jumps from target e =
      let g = (closed_from (a.base + from) s).frames in
      record {
        to = later (a.base + from) (gone_on g a (To target)) (gone-behind g (a.depth - 1) _ shallow);
        step = rw e;
        so = closes (a.base + from) (gone_on g a (To target)) (gone-behind g (a.depth - 1) _ shallow);
      }

  -- ---- Return

  module _ (start n : ℕ) (e : coming_up S s ≡ instruction.Return start n) where
    abbrev v : State
    v = closed_from a.base s

    -- what handing values down leaves of closed cells
    module _ (g k w : List ℕ) (b : Behind v.frames g) (bk : Beyond v.kinds k) (bw : Beyond v.words w) where
      handed : (x u j : ℕ) → IsOpenOn s x u j → a.base ≤ j → IsClosed (state g k w) x u × (upvalue_of (state g k w) x u ≡ upvalue_of s x u)
      handed x u j o l =
          let m = closes a.base g b in
          let z = m.above x u j o l in
          let own : place_of g (cell_of (state g k w) x u) ≡ cell_room (cell_of (state g k w) x u) = at_own g (cell_of (state g k w) x u) z in
          let far : cell_room 0 ≤ cell_room (cell_of (state g k w) x u) = omega arith in
          (z, rw (own, bk (cell_room (cell_of (state g k w) x u)) far, bw (cell_room (cell_of (state g k w) x u)) far) (rw own at (m.keeps x u)))

    outermost : leb a.depth 1 ≡ true → statements.Returns S s
    unfolding step_of effect_of carried_out leave_of
    outermost one =
        let g = mark_with 0 0 v.frames in
        let b = mark-behind v.frames 0 0 in
        record {
          to = later a.base g b;
          step = inr (rw (e, one));
          cell = same-cell a.base g b;
          closes = handed g v.kinds v.words b (λ j l. refl) (λ j l. refl);
        }

    -- the caller waits after its Call
    deeper : leb a.depth 1 ≡ false → (x : Class) → class_of (before_in t S.code f (a.depth - 2)) ≡ x → is_call x ≡ true → statements.Returns S s
    unfolding step_of effect_of carried_out leave_of back_of
    deeper more (Calls function asked) call _ =
        let i = a.depth - 2 in
        let l = limits_of t (prototype_in f i) in
        let within : function + asked ≤ registers_of t (prototype_in f i) =
        subst (ClassWithin l) call (class-within l _ (before_in t S.code f i) (before-within t S.code f i)) in
        let fits = caller-inside t f a h.stack.steady refl (leb-false a.depth 1 more) in
        let c = caller_of t f a in
        let g = depth_with c.depth v.frames in
        let b = depth-behind v.frames c.depth in
        let k = handed_down a c start n function asked in
        record {
          to = state g (k v.kinds) (k v.words);
          step = inl (rw (e, more, call));
          cell = same-cell a.base g b;
          closes = handed g (k v.kinds) (k v.words) b
              (beyond-window v.kinds (a.base + start) (c.base + function) n asked (omega arith))
              (beyond-window v.words (a.base + start) (c.base + function) n asked (omega arith));
        }
    deeper more (Returns r m) call z = absurd (false≢true z)
    deeper more Other call z = absurd (false≢true z)

    waits : leb a.depth 1 ≡ false → is_call (class_of (before_in t S.code f (a.depth - 2))) ≡ true
    unfolding waits_in
    waits more =
        let d = depth_is t f a h.stack.steady refl in
        let deep = leb-false a.depth 1 more in
        h.stack.waits (a.depth - 2) (omega arith)

    returns : statements.Returns S s
    returns = by_bool (leb a.depth 1) outermost (λ more. deeper more _ refl (waits more))

-- ---- the statements

pub gets-upvalue : statements.GetsUpvalue
gets-upvalue S s dest u fit e = gets S s (fit-facts S s fit) dest u e

pub sets-upvalue : statements.SetsUpvalue
sets-upvalue S s u source fit e =
    let h = fit-facts S s fit in
    record { to = after S s h u source e; step = set-step S s h u source e; so = sets S s h u source e }

pub closed_spares : statements.ClosedSpares
closed_spares S s u source fit e z =
    let h = fit-facts S s fit in
    record { to = after S s h u source e; step = set-step S s h u source e; so = spares S s h u source e z }

pub jump_closes : statements.JumpCloses
jump_closes S s from target fit e = jumps S s (fit-facts S s fit) from target e

pub return_closes : statements.ReturnCloses
return_closes S s start n fit e = returns S s (fit-facts S s fit) start n e
