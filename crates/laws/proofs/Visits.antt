-- What Prep and a visit do in Lua 5.3 with integer controls: base becomes start - step, then index + step, wrapped; and where nothing wraps the loop tells the whole
-- list. Assumes nothing.
use mathlib.Core.Path.{◌≡◌, refl, ap, ◌∙◌, subst}
use mathlib.Core.Bool.{Bool, true, false, cond}
use mathlib.Core.List.{List}
use Prim.Native.Nat.{ℕ, suc, ◌+◌, ◌-◌, ◌^◌, ◌<◌, ◌≤◌}
use native.Mathlib.Omega.{arith}
use borrow.Author.Tests.{eq-eqb, ltb-true, ltb-false}
use lib.Dec.{eqb, ltb}
use lib.ListN.{length, set, length-set}
use lib.Seq.{get_or-set_same, get_or-set_other}
use lib.IntN.{ℤ, pos, negsuc, ◌+ℤ◌, ◌-ℤ◌}
use mir.Syntax.{w64}
use mir.Val.{of_z, to_z, sel}
use Rattle.choices.proofs.Choices.{by_bool, cond_cases}
use Rattle.integer.specs.Wrap.{wrap}
use Rattle.integer.proofs.WrapLaws.{InRange, wrap_in_range, range-fits, fits-range}
use Rattle.storage.specs.Layout.{Storage}
use Rattle.storage.specs.Fields.{registers_of}
use Rattle.constant.specs.Values.{value_of}
use Rattle.constant.proofs.Registers.{back}
use Rattle.constant.specs.declared.Value.{Value}
use Rattle.constant.specs.declared.Value.TheVariants.{Nil, Boolean, Integer, Number, String, Function}
use Rattle.checker.specs.Check.{limits_of}
use Rattle.checker.specs.declared.Instruction.{Instruction}
use Rattle.checker.specs.declared.Instruction.TheVariants as instruction
use Rattle.effects.specs.Effects.{value_at, stored, prep_effect, loop_with, loop_effect, effect_of}
use Rattle.effects.specs.declared.Effect.TheVariants.{Set, Loop}
use Rattle.effects.specs.declared.Go.TheVariants.{Next, To}
use Rattle.state.specs.Frames.{depth_in, prototype_in, instruction_in, closure_in, base_of, instruction_with}
use Rattle.state.specs.Record.{innermost, following}
use Rattle.state.specs.States.{State, state}
use Rattle.state.specs.declared.Activation.{Activation}
use Rattle.state.proofs.Fields.{gone-depth, gone-prototype, gone-instruction}
use Rattle.state.proofs.Windows.{base-last, base_same}
use Rattle.fitness.specs.Fit.{decoded_at}
use Rattle.reach.specs.Within.{Within}
use Rattle.reach.proofs.Decoding.{decoded-within}
use Rattle.step.specs.Step.{on, placed, gone_on, carried_out, effect_at, step_of}
use Rattle.laws.specs.Passes.{LoopAt, Controls, register_in, number_in, visits, opens_pass, begins_pass, Behind}
use Rattle.laws.specs.Chunks.{is_past, Turns, jumps_on, goes_behind}
use Rattle.laws.proofs.Frames.{there-prototype, there-instruction}
use Rattle.laws.proofs.Bounds.{few-instructions}
use Rattle.laws.proofs.Moves.{following-small}
use Rattle.laws.proofs.Fitting.{Running}

-- ---- an integer in a register is an i64, and an i64 that is stored is held

abbrev Small : Value → Type 0
Small Nil = Unit {0}
Small (Boolean b) = Unit {0}
Small (Integer x) = InRange x
Small (Number x) = Unit {0}
Small (String n) = Unit {0}
Small (Function n) = Unit {0}

word_small : (w : ℕ) → InRange (to_z w64 w)
word_small w = go (ltb w (2 ^ 63)) refl
  where
    far : (w : ℕ) → 2 ^ 63 ≤ w → 2 ^ 64 - suc w < 2 ^ 63
    far w h = omega arith

    go : (b : Bool) → ltb w (2 ^ 63) ≡ b → InRange (sel b (pos w) (negsuc (2 ^ 64 - suc w)))
    go true e = fits-range (pos w) (record { sfits = ltb-true w (2 ^ 63) e })
    go false e = fits-range (negsuc (2 ^ 64 - suc w)) (record { sfits = far w (ltb-false w (2 ^ 63) e) })

value-small : (k w : ℕ) → Small (value_of k w)
unfolding value_of
value-small k w =
    cond_cases Small (eqb k 1) _ _ (λ _. tt)
    (λ _. cond_cases Small (eqb k 2) _ _ (λ _. word_small w)
    (λ _. cond_cases Small (eqb k 3) _ _ (λ _. tt)
    (λ _. cond_cases Small (eqb k 4) _ _ (λ _. tt) (λ _. cond_cases Small (eqb k 5) _ _ (λ _. tt) (λ _. tt)))))

pub held_small : (k w : ℕ) (x : ℤ) → value_of k w ≡ Integer x → InRange x
held_small k w x e = subst Small e (value-small k w)

held : (x : ℤ) → InRange x → value_of 2 (of_z w64 x) ≡ Integer x
held x h = back (Integer x) (range-fits x h)

-- ---- a store to the registers, and what they hold then

module _ (K W : List ℕ) (i k w : ℕ) where
  at_same : i < length K → i < length W → value_at (set K i k) (set W i w) i ≡ value_of k w
  at_same h g = rw (get_or-set_same K i k 0 h, get_or-set_same W i w 0 g)

  at_other : (j : ℕ) → (j ≡ i → ⊥) → value_at (set K i k) (set W i w) j ≡ value_at K W j
  at_other j h = rw (get_or-set_other K i j k 0 h, get_or-set_other W i j w 0 h)

-- ---- the activation of the loop as the innermost one, at place p

module _ (S : Storage) (L : LoopAt) where
  abbrev t : List ℕ
  t = S.table

  abbrev standing : State → ℕ → Activation
  standing u p =
      record {
        depth = L.depth;
        prototype = L.prototype;
        instruction = p;
        base = base_of t u.frames (L.depth - 1);
        closure = closure_in u.frames (L.depth - 1);
      }

  pub record StandsAt (u : State) (p : ℕ) : Type 0 where
    pub running : Running S u
    pub depth : depth_in u.frames ≡ L.depth
    pub prototype : prototype_in u.frames (L.depth - 1) ≡ L.prototype
    pub place : instruction_in u.frames (L.depth - 1) ≡ p

  module _ (u : State) (p : ℕ) (h : StandsAt u p) where
    abbrev f : List ℕ
    f = u.frames

    abbrev b : ℕ
    b = base_of t f (L.depth - 1)

    inner : innermost t f ≡ standing u p
    unfolding innermost
    inner = rw (h.depth, h.prototype, h.place)

    steps_as : step_of S u ≡ carried_out t S.code (standing u p) u (effect_at S (standing u p) u)
    unfolding step_of
    steps_as = rw inner

    begins_as : begins_pass S u ≡ opens_pass (effect_at S (standing u p) u)
    unfolding begins_pass
    begins_as = rw inner

    -- registers of its window are there
    room : (n : ℕ) → n < registers_of t L.prototype → (b + n < length u.kinds) × (b + n < length u.words)
    room n l =
        let fit = h.running.fit in
        let steady = fit.stack.steady in
        let some : 1 ≤ L.depth = subst (λ (x : ℕ). 1 ≤ x) h.depth steady.some in
        let few : base_of t f L.depth ≤ 2048 = subst (λ (x : ℕ). base_of t f x ≤ 2048) h.depth steady.ends in
        let end : base_of t f L.depth ≡ b + registers_of t L.prototype =
        base-last t f L.depth some ∙ ap (λ (x : ℕ). b + registers_of t x) h.prototype in
        (omega (arith, fit.kinds_long), omega (arith, fit.words_long))

    -- ---- after a jump to q, with other registers

    module _ (q : ℕ) (K W : List ℕ) where
      abbrev gone : State
      gone = state (instruction_with (L.depth - 1) q f) K W

      same_base : base_of t gone.frames (L.depth - 1) ≡ b
      same_base = base_same t f gone.frames (L.depth - 1) (λ i _. gone-prototype f (L.depth - 1) q i)

      held_at : (r : ℕ) → register_in S L gone r ≡ value_at K W (b + r)
      held_at r = ap (λ (x : ℕ). value_at K W (x + r)) same_base

      visits-there : q ≡ L.place → visits L gone ≡ true
      unfolding visits
      visits-there e =
          let steady = h.running.fit.stack.steady in
          let few : L.depth - 1 < 16 = omega (arith, h.depth, steady.few, steady.some) in
          rw (
            eq-eqb (depth_in gone.frames) L.depth (gone-depth f (L.depth - 1) q ∙ h.depth),
            eq-eqb (prototype_in gone.frames (L.depth - 1)) L.prototype (gone-prototype f (L.depth - 1) q (L.depth - 1) ∙ h.prototype),
            eq-eqb (instruction_in gone.frames (L.depth - 1)) L.place (gone-instruction f (L.depth - 1) q few steady.long ∙ e),
          )

  -- ---- Prep

  module _
      (s : State) (p : ℕ) (h : StandsAt s p) (start limit step : ℤ) (c : Controls S L s start limit step)
      (prep : decoded_at t S.code L.prototype p ≡ instruction.NumericForPrep L.base L.place) where
    abbrev less : ℤ
    less = wrap (start -ℤ step)

    prep-effect : effect_at S (standing s p) s ≡ Set L.base 2 (of_z w64 less) (To L.place)
    unfolding effect_of prep_effect stored
    prep-effect = rw (prep, c.holds_index, c.holds_step)

    abbrev at : ℕ
    at = base_of t s.frames (L.depth - 1) + L.base

    -- where the first visit is
    abbrev pub opener : State
    opener = gone s p h L.place (set s.kinds at 2) (set s.words at (of_z w64 less))

    pub prep_step : step_of S s ≡ on opener
    unfolding carried_out placed
    prep_step = rw (steps_as s p h, prep-effect)

    pub prep_visit : visits L opener ≡ true
    prep_visit = visits-there s p h L.place (set s.kinds at 2) (set s.words at (of_z w64 less)) refl

    pub prep_controls : Controls S L opener less limit step
    prep_controls =
        let in_window = subst (λ (i : Instruction). Within (limits_of t L.prototype) p i) prep (decoded-within t S.code L.prototype p) in
        let K = set s.kinds at 2 in
        let W = set s.words at (of_z w64 less) in
        let there = room s p h L.base (omega (arith, in_window.0)) in
        let other = at_other s.kinds s.words at 2 (of_z w64 less) in
        record {
          holds_index = held_at s p h L.place K W L.base ∙ at_same s.kinds s.words at 2 (of_z w64 less) there.0 there.1
              ∙ held less (wrap_in_range (start -ℤ step));
          holds_limit = held_at s p h L.place K W (L.base + 1) ∙ other _ (λ e. omega arith) ∙ c.holds_limit;
          holds_step = held_at s p h L.place K W (L.base + 2) ∙ other _ (λ e. omega arith) ∙ c.holds_step;
        }

  -- ---- a visit

  module _
      (u : State) (h : StandsAt u L.place) (v limit step : ℤ) (c : Controls S L u v limit step)
      (loop : decoded_at t S.code L.prototype L.place ≡ instruction.NumericForLoop L.base L.body) where
    abbrev sum : ℤ
    sum = wrap (v +ℤ step)

    loop-effect :
        effect_at S (standing u L.place) u
        ≡ cond (is_past limit step sum) (Set L.base 2 (of_z w64 sum) Next) (Loop L.base 2 (of_z w64 sum) L.body)
    unfolding effect_of loop_effect loop_with
    loop-effect = rw (loop, c.holds_index, c.holds_limit, c.holds_step)

    abbrev low : ℕ
    low = base_of t u.frames (L.depth - 1) + L.base

    abbrev high : ℕ
    high = base_of t u.frames (L.depth - 1) + (L.base + 3)

    abbrev word : ℕ
    word = of_z w64 sum

    -- registers base and base + 3
    abbrev K : List ℕ
    K = set (set u.kinds low 2) high 2

    abbrev W : List ℕ
    W = set (set u.words low word) high word

    abbrev begun : State
    begun = gone u L.place h L.body K W

    loop-begins : is_past limit step sum ≡ false → (begins_pass S u ≡ true) × (step_of S u ≡ on begun)
    unfolding carried_out placed
    loop-begins p = (rw (begins_as u L.place h, loop-effect, p), rw (steps_as u L.place h, loop-effect, p))

    abbrev left : State
    left = state (gone_on u.frames (standing u L.place) Next) (set u.kinds low 2) (set u.words low word)

    loop-over : is_past limit step sum ≡ true → (begins_pass S u ≡ false) × (step_of S u ≡ on left)
    unfolding carried_out
    loop-over p = (rw (begins_as u L.place h, loop-effect, p), rw (steps_as u L.place h, loop-effect, p))

    left_behind : Behind L left
    unfolding placed
    left_behind =
        let st = h.running.fit.stack in
        let some : 1 ≤ L.depth = subst (λ (x : ℕ). 1 ≤ x) h.depth st.steady.some in
        let few : L.depth - 1 < 16 = omega (arith, h.depth, st.steady.few) in
        let there = st.there (L.depth - 1) (omega (arith, h.depth)) in
        let q = there-prototype t u.frames (L.depth - 1) there in
        let i = there-instruction t u.frames (L.depth - 1) there in
        let n = few-instructions S h.running.fit.reads (prototype_in u.frames (L.depth - 1)) q in
        record {
          depth = gone-depth u.frames (L.depth - 1) (following L.place) ∙ h.depth;
          prototype = gone-prototype u.frames (L.depth - 1) (following L.place) (L.depth - 1) ∙ h.prototype;
          place = gone-instruction u.frames (L.depth - 1) (following L.place) few st.steady.long
              ∙ following-small L.place (omega (arith, h.place));
        }

    abbrev fits : InRange sum
    fits = wrap_in_range (v +ℤ step)

    in_window : L.base + 3 < registers_of t L.prototype
    in_window =
        (subst (λ (i : Instruction). Within (limits_of t L.prototype) L.place i) loop (decoded-within t S.code L.prototype L.place)).0

    begun-number : number_in S L begun ≡ Integer sum
    begun-number =
        let there = room u L.place h (L.base + 3) in_window in
        held_at u L.place h L.body K W (L.base + 3)
        ∙ at_same (set u.kinds low 2) (set u.words low word) high 2 word (rw length-set there.0) (rw length-set there.1)
        ∙ held sum fits

    begun-controls : Controls S L begun sum limit step
    begun-controls =
        let there = room u L.place h L.base (omega (arith, in_window)) in
        let first = at_other u.kinds u.words low 2 word in
        let second = at_other (set u.kinds low 2) (set u.words low word) high 2 word in
        let is = held_at u L.place h L.body K W in
        record {
          holds_index = is L.base ∙ second low (λ e. omega arith) ∙ at_same u.kinds u.words low 2 word there.0 there.1 ∙ held sum fits;
          holds_limit = is (L.base + 1) ∙ second _ (λ e. omega arith) ∙ first _ (λ e. omega arith) ∙ c.holds_limit;
          holds_step = is (L.base + 2) ∙ second _ (λ e. omega arith) ∙ first _ (λ e. omega arith) ∙ c.holds_step;
        }

    pub visit-turns : Turns S L limit step u sum
    visit-turns =
        by_bool (is_past limit step sum) (λ p. let o = loop-over p in goes_behind left p o.0 o.1 left_behind)
        (λ p. let o = loop-begins p in jumps_on begun p o.0 o.1 begun-controls begun-number)
