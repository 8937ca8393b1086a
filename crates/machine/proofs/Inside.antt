-- What a host is told lies inside what was lent: a string's place within the texts, where it has at most 64 bytes, and returned values within the registers of
-- their window. Assumes nothing.
use Prim.Native.Nat.{ℕ, ◌+◌, ◌*◌, ◌/◌, ◌%◌, ◌≤◌, ◌<◌}
use native.Mathlib.Omega.{arith}
use mathlib.Core.Path.{◌≡◌}
use mathlib.Core.Bool.{true}
use mathlib.Core.List.{List, [], ◌∷◌}
use lib.ListN.{length, get_or}
use lib.Dec.{eqb, ltb}
use borrow.Author.Tests.{eq-eqb, eqb-true, eqb-false, ltb-true}
use Rattle.image.specs.Frames.{F, const, str, code, desc, shape}
use Rattle.image.specs.declared.Counts.{Counts}
use Rattle.image.specs.declared.Step.TheVariants.{On, Done}
use Rattle.choices.proofs.Choices.{by_bool, cond_cases, and_right, and_left}
use Rattle.image.proofs.Said.{Said, AllSaid, more}
use Rattle.image.proofs.Trip.{accepted_said}
use Rattle.storage.specs.Layout.{Storage, long_enough, texts_of, texts_all}
use Rattle.storage.specs.Fields.{prototypes_of, registers_of, first_constant}
use Rattle.storage.specs.Stored.{image_in, reads_back}
use Rattle.storage.specs.Cursor.{past}
use Rattle.storage.specs.declared.Tops.{Tops}
use Rattle.storage.proofs.Places.{at_first, at-within}
use Rattle.storage.proofs.Runs.{Runs, last, next, Told, opened, word, text, instruction, ended, described, told_as}
use Rattle.storage.proofs.Lies.{lies-rest, tops, Lie, lies-opened}
use Rattle.storage.proofs.Seen.{Constant, end_seen, word-seen, text-seen}
use Rattle.storage.proofs.Reading.{reads_frames}
use Rattle.storage.proofs.Six.{readable}
use Rattle.checker.specs.Check.{limits_of}
use Rattle.checker.specs.declared.Limits.{Limits}
use Rattle.checker.specs.Decode.{class_of}
use Rattle.checker.specs.declared.Class.{Class}
use Rattle.checker.specs.declared.Class.TheVariants.{Calls, Returns, Other}
use Rattle.state.specs.Frames.{depth_in}
use Rattle.state.proofs.Windows.{base-last}
use Rattle.fitness.specs.Fit.{fit_of, decoded_at}
use Rattle.state.specs.States.{State}
use Rattle.reach.specs.Within.{ClassWithin}
use Rattle.reach.proofs.Decoding.{decoded-within, class-within}
use Rattle.step.specs.Run.{answer_of, standing_of}
use Rattle.step.specs.declared.Outcome.{Outcome}
use Rattle.step.proofs.Runs.{fit_steady}
use Rattle.std.specs.Prelude.{Result, Ok, Err}
use Rattle.std.proofs.Common.{subst}
use Rattle.machine.specs.Results.{named, returned_of, is_string, span, span_of}
use Rattle.machine.specs.declared.Span.{Span}
use Rattle.machine.specs.declared.TextRefusal.{TextRefusal}
use Rattle.machine.specs.declared.TextRefusal.TheVariants.{TooShort, NoImage, NoString}

-- ---- constant i of an image of q prototypes is a string

module _ (S : Storage) (q i : ℕ) (string : get_or S.kinds i 0 ≡ 4) (there : i < first_constant S.table q) where
  abbrev Inside : Type 0
  Inside = (get_or S.words i 0 / 65536 + get_or S.words i 0 % 65536 ≤ length S.texts) × (get_or S.words i 0 % 65536 ≤ 64)

  text_here : (p c k x d : ℕ) (b : List ℕ) (fs : List F) → Lie S p c k x d (str b ∷ fs) → x ≤ length S.texts → x + length b ≤ length S.texts
  unfolding texts_all texts_of
  text_here p c k x d b fs l h = at-within S.texts x b (at_first S.texts x b _ l.texts) h

  here : (t : Tops) (b : List ℕ) → Constant t S 4 (t.texts * 65536 + length b) → length b ≤ 64 → t.texts + length b ≤ length S.texts → t.consts ≡ i → Inside
  here t b e h a g =
      let w : get_or S.words i 0 ≡ t.texts * 65536 + length b = rw g at e.word in
      let m : (t.texts * 65536 + length b) % 65536 ≡ length b = omega arith in
      let d : (t.texts * 65536 + length b) / 65536 ≡ t.texts = omega arith in
      rw (w, m, d) (a, h)

  no_string : (t : Tops) (k w : ℕ) → Constant t S k w → k < 4 → t.consts ≡ i → Inside
  no_string t k w e h g =
      let z : get_or S.kinds i 0 ≡ k = rw g at e.kind in
      absurd (omega arith)

  -- at the next constant, or later
  at-or-on : (c : ℕ) → c ≤ i → (c ≡ i → Inside) → (c + 1 ≤ i → Inside) → Inside
  at-or-on c h f g = by_bool (eqb c i) (λ e. f (eqb-true c i e)) (λ e. let n : c ≡ i → ⊥ = eqb-false c i e in g (omega arith))

  inside-next :
      {st u : Counts} {f : F} {fs : List F} → Told st f (On u) → Runs u q fs → Said f
      → ((c k x d : ℕ) → c ≤ i → x ≤ length S.texts → Lie S u.protos c k x d fs → Inside) → (c k x d : ℕ) → c ≤ i → x ≤ length S.texts
      → Lie S st.protos c k x d (f ∷ fs)
      → Inside
  unfolding past shape
  inside-next {st} (opened {r} {p} a) h y ih c k x d ci xt l =
      ih c k x 0 ci xt (lies-opened S st.protos c k x d r p _ l)
  inside-next {st} (word {k = tag} {w} a b) h y ih c k x d ci xt l =
      let t = tops st.protos c k x d in
      at-or-on c ci (no_string t tag w (word-seen t S h tag w l) y.0)
      (λ n. ih (c + 1) k x d n xt (lies-rest t (const tag w) _ S l))
  inside-next {st} (text {l = b} a e) h y ih c k x d ci xt l =
      let t = tops st.protos c k x d in
      let room = text_here st.protos c k x d b _ l xt in
      at-or-on c ci (here t b (text-seen t S h b l) y.0 room)
      (λ n. ih (c + 1) k (x + length b) d n room (lies-rest t (str b) _ S l))
  inside-next {st} (instruction {w} a) h y ih c k x d ci xt l =
      ih c (k + 1) x d ci xt (lies-rest (tops st.protos c k x d) (code w) _ S l)
  inside-next {st} (described {k = kind} {n} a b e g) h y ih c k x d ci xt l =
      ih c k x (d + 1) ci xt (lies-rest (tops st.protos c k x d) (desc kind n) _ S l)

  inside-last :
      {st : Counts} {f : F} → Told st f Done → st.protos ≡ q → (c k x d : ℕ) → c ≤ i → Lie S st.protos c k x d (f ∷ []) → Inside
  inside-last {st} (ended {m} e) g c k x d ci l =
      let s = rw g at (end_seen (tops st.protos c k x d) S m [] l).consts in
      absurd (omega arith)

  inside-from :
      {st : Counts} {fs : List F} → Runs st q fs → AllSaid fs → (c k x d : ℕ) → c ≤ i → x ≤ length S.texts → Lie S st.protos c k x d fs
      → Inside
  inside-from (last r e) ys c k x d ci xt l = inside-last (told_as r) e c k x d ci l
  inside-from (next r h) (more y ys) c k x d ci xt l =
      inside-next (told_as r) h y (λ c k x d ci xt l. inside-from h ys c k x d ci xt l) c k x d ci xt l

-- ---- what is answered

module _ (S : Storage) (word : ℕ) where
  string_inside :
      reads_back S ≡ true → is_string S word ≡ true
      → (get_or S.words word 0 / 65536 + get_or S.words word 0 % 65536 ≤ length S.texts) × (get_or S.words word 0 % 65536 ≤ 64)
  unfolding is_string
  string_inside e s =
      let r = readable S e in
      let f = reads_frames r in
      let below = ltb word (first_constant S.table (prototypes_of S.table)) in
      let kind = eqb (get_or S.kinds word 0) 4 in
      inside-from S (prototypes_of S.table) word (eqb-true _ _ (and_right below kind s)) (ltb-true _ _ (and_left below kind s)) f.runs
      (accepted_said (image_in S) r.count r.accepted) 0 0 0 0 (omega arith) (omega arith) f.lies

  pub string_short : reads_back S ≡ true → is_string S word ≡ true → get_or S.words word 0 % 65536 ≤ 64
  string_short e s = (string_inside e s).1

  abbrev Fine : Result Span TextRefusal → Type 0
  Fine r = (s : Span) → r ≡ Ok s → s.start + s.count ≤ length S.texts

  refused : (k : TextRefusal) → Fine (Err k)
  refused k s e = cc

  pub span-inside : Fine (span_of S word)
  unfolding span_of
  span-inside =
      cond_cases Fine (long_enough S) _ _
      (λ a. cond_cases Fine (reads_back S) _ _
      (λ b. cond_cases Fine (is_string S word) _ _
      (λ c s e. let h = (string_inside b c).0 in
      let x : span (get_or S.words word 0 / 65536) (get_or S.words word 0 % 65536) ≡ s = cc in
      subst (λ (s : Span). s.start + s.count ≤ length S.texts) x h)
      (λ c. refused NoString))
      (λ b. refused NoImage))
      (λ a. refused TooShort)

-- ---- returned values

named-inside :
    (l : Limits) (o : Outcome) (c : Class) → ClassWithin l c → (named o c).first + (named o c).count ≤ l.registers
unfolding named
named-inside l o (Calls f r) h = omega arith
named-inside l o (Returns s n) h = h
named-inside l o Other h = omega arith

module _ (S : Storage) (s : State) where
  standing-window : (standing_of S s).number ≡ 0 → registers_of S.table (standing_of S s).prototype ≤ 2048
  unfolding standing_of answer_of
  standing-window =
      by_bool (fit_of S s)
      (λ f. rw f (λ n. let y = fit_steady S s f in
      omega (arith, y.ends, base-last S.table s.frames (depth_in s.frames) y.some)))
      (λ f. rw f (λ n. absurd (omega arith)))

  pub values-window :
      (standing_of S s).number ≡ 0 → (returned_of S s).first + (returned_of S s).count ≤ registers_of S.table (standing_of S s).prototype
  unfolding returned_of
  values-window n =
      let o = standing_of S s in
      let i = decoded_at S.table S.code o.prototype o.instruction in
      let l = limits_of S.table o.prototype in
      let w = class-within l o.instruction i (decoded-within S.table S.code o.prototype o.instruction) in
      rw (eq-eqb _ _ n) (named-inside l o (class_of i) w)

  pub values-inside : (returned_of S s).first + (returned_of S s).count ≤ 2048
  unfolding returned_of
  values-inside =
      by_bool (eqb (standing_of S s).number 0)
      (λ n. omega (arith, values-window (eqb-true _ _ n), standing-window (eqb-true _ _ n)))
      (λ n. rw n (omega arith))
