-- What a storage that an image reads to has in it: registers and parameters within their limits, starts that only grow, constants that are values.
-- Assumes nothing.
use Prim.Native.Nat.{ℕ, zero, suc, ◌+◌, ◌≤◌, ◌<◌}
use native.Mathlib.Omega.{arith}
use native.Mathlib.Nat.{add-zero}
use mathlib.Core.Path.{◌≡◌, refl, sym, ap, ◌∙◌}
use mathlib.Core.Bool.{true, cond}
use mathlib.Core.List.{List, [], ◌∷◌}
use lib.ListN.{length, get_or}
use lib.Dec.{eqb}
use borrow.Author.Tests.{eq-eqb, eqb-true, eqb-false, lt-ltb}
use Rattle.image.specs.Frames.{F, const, str, code, desc, shape, most_of}
use Rattle.image.specs.declared.Counts.{Counts}
use Rattle.image.specs.declared.Step.TheVariants.{On, Done}
use Rattle.choices.proofs.Choices.{cond_cases, by_order}
use Rattle.image.proofs.Said.{Said, AllSaid, more}
use Rattle.image.proofs.Trip.{accepted_said}
use Rattle.storage.specs.Layout.{Storage}
use Rattle.storage.specs.Fields.{prototypes_of, entry_place, registers_of, parameters_of, first_constant, first_instruction, constants_of, constant_kind, constant_word}
use Rattle.storage.specs.Stored.{image_in, reads_back}
use Rattle.storage.specs.Cursor.{past}
use Rattle.storage.proofs.Runs.{Runs, last, next, Told, opened, word, text, instruction, ended, described, told_as}
use Rattle.storage.proofs.Lies.{lies-rest, tops, Lie, lies-opened}
use Rattle.storage.proofs.Seen.{Entry, open-seen, end_seen, word-seen, text-seen}
use Rattle.storage.proofs.Reading.{reads_frames}
use Rattle.storage.proofs.Six.{readable}
use Rattle.constant.specs.Values.{is_value}
use Rattle.fitness.specs.Fit.{value_fits}
use Rattle.fitness.proofs.Parts.{value-other}

-- ---- what is there

-- a prototype's registers and parameters, as a line can say them
pub record Proto (table : List ℕ) (q : ℕ) : Type 0 where
  pub some : 1 ≤ registers_of table q
  pub few : registers_of table q ≤ 255
  pub parameters : parameters_of table q ≤ registers_of table q

-- a constant's kind and word, as a line can say them: a string's word tells where its bytes are
pub record Proper (k w : ℕ) : Type 0 where
  pub kind : k ≤ 4
  pub most : k < 4 → w ≤ most_of k

-- starts that only grow, from c on, at the entries from p to q
pub record Grows (first : ℕ → ℕ) (q p c : ℕ) : Type 0 where
  pub least : (i : ℕ) → p ≤ i → i ≤ q → c ≤ first i
  pub grow : (i j : ℕ) → p ≤ i → i ≤ j → j ≤ q → first i ≤ first j

-- from the place on where p prototypes, c constants and k instructions are passed, of q prototypes
pub record From (S : Storage) (q p c k : ℕ) : Type 0 where
  pub protos : (i : ℕ) → p ≤ i → i < q → Proto S.table i
  pub consts : Grows (first_constant S.table) q p c
  pub codes : Grows (first_instruction S.table) q p k
  pub constants : (i : ℕ) → c ≤ i → i < first_constant S.table q → Proper (get_or S.kinds i 0) (get_or S.words i 0)

-- at a, and behind it: from there on
from_on : (P : ℕ → Type 0) (a : ℕ) → P a → ((i : ℕ) → a + 1 ≤ i → P i) → (i : ℕ) → a ≤ i → P i
from_on P a here rest i h =
    by_order (a + 1) i (λ g. rest i g) (λ g. let e : a ≡ i = omega arith in rw e at here)

-- one start more, and one passed
module _ (first : ℕ → ℕ) (q p c : ℕ) where
  grows-entry : first p ≡ c → Grows first q (p + 1) c → Grows first q p c
  grows-entry e g =
      record {
        least = from_on (λ i. i ≤ q → c ≤ first i) p (λ h. omega arith) g.least;
        grow = λ i j.
            from_on (λ i. i ≤ j → j ≤ q → first i ≤ first j) p
            (λ a b. from_on (λ j. j ≤ q → first p ≤ first j) p (λ h. omega arith) (λ j a b. omega (arith, g.least j a b)) j a b)
            (λ i. g.grow i j) i;
      }

  grows-last : p ≡ q → first q ≡ c → Grows first q p c
  grows-last z e =
      record {
        least = λ i a b. let j : i ≡ q = omega arith in rw j (omega arith);
        grow = λ i j a b d. let u : i ≡ q = omega arith in let v : j ≡ q = omega arith in rw (u, v) (omega arith);
      }

  grows-passed : Grows first q p (c + 1) → Grows first q p c
  grows-passed g = record { least = λ i a b. omega (arith, g.least i a b); grow = g.grow }

module _ (S : Storage) (q : ℕ) where
  registers-at : (p c k x d r u : ℕ) → Entry (tops p c k x d) S r u → registers_of S.table p ≡ r
  registers-at p c k x d r u e = ap (λ (n : ℕ). get_or S.table n 0) (add-zero (entry_place p)) ∙ e.registers

  from_next : {st u : Counts} {f : F} {fs : List F} → Told st f (On u) → Runs u q fs → Said f
      → ((c k x d : ℕ) → Lie S u.protos c k x d fs → From S q u.protos c k)
      → (c k x d : ℕ) → Lie S st.protos c k x d (f ∷ fs) → From S q st.protos c k
  unfolding past shape
  from_next {st} (opened {r} {p} a) h y ih c k x d l =
      let t = tops st.protos c k x d in
      let g = ih c k x 0 (lies-opened S st.protos c k x d r p _ l) in
      let e = open-seen t S r p _ l in
      let z = registers-at st.protos c k x d r p e in
      record {
        protos = from_on (λ i. i < q → Proto S.table i) st.protos
            (λ m. record { some = omega (arith, y); few = omega (arith, y); parameters = omega (arith, y, e.parameters) })
            g.protos;
        consts = grows-entry (first_constant S.table) q st.protos c e.consts g.consts;
        codes = grows-entry (first_instruction S.table) q st.protos k e.codes g.codes;
        constants = g.constants;
      }
  from_next {st} (word {k = tag} {w} a b) h y ih c k x d l =
      let t = tops st.protos c k x d in
      let e = word-seen t S h tag w l in
      let g = ih (c + 1) k x d (lies-rest t (const tag w) _ S l) in
      record {
        protos = g.protos;
        consts = grows-passed (first_constant S.table) q st.protos c g.consts;
        codes = g.codes;
        constants = from_on
            (λ i. i < first_constant S.table q → Proper (get_or S.kinds i 0) (get_or S.words i 0))
            c
            (λ m. rw (e.kind, e.word) (record { kind = omega (arith, y); most = λ n. y.1 }))
            g.constants;
      }
  from_next {st} (text {l = b} a e) h y ih c k x d l =
      let t = tops st.protos c k x d in
      let e = text-seen t S h b l in
      let g = ih (c + 1) k (x + length b) d (lies-rest t (str b) _ S l) in
      record {
        protos = g.protos;
        consts = grows-passed (first_constant S.table) q st.protos c g.consts;
        codes = g.codes;
        constants = from_on
            (λ i. i < first_constant S.table q → Proper (get_or S.kinds i 0) (get_or S.words i 0))
            c
            (λ m. rw e.kind (record { kind = omega arith; most = λ n. absurd (omega arith) }))
            g.constants;
      }
  from_next {st} (instruction {w} a) h y ih c k x d l =
      let t = tops st.protos c k x d in
      let g = ih c (k + 1) x d (lies-rest t (code w) _ S l) in
      record {
        protos = g.protos;
        consts = g.consts;
        codes = grows-passed (first_instruction S.table) q st.protos k g.codes;
        constants = g.constants;
      }
  from_next {st} (described {k = tag} {n} a b e f) h y ih c k x d l = ih c k x (d + 1) (lies-rest (tops st.protos c k x d) (desc tag n) _ S l)

  from_last : {st : Counts} {f : F} → Told st f Done → st.protos ≡ q → (c k x d : ℕ) → Lie S st.protos c k x d (f ∷ [])
      → From S q st.protos c k
  from_last {st} (ended {m} e) z c k x d l =
      let s = rw z at (end_seen (tops st.protos c k x d) S m [] l) in
      record {
        protos = λ i a b. absurd (omega arith);
        consts = grows-last (first_constant S.table) q st.protos c z s.consts;
        codes = grows-last (first_instruction S.table) q st.protos k z s.codes;
        constants = λ i a b. absurd (omega (arith, s.consts));
      }

  from-runs : {st : Counts} {fs : List F} → Runs st q fs → AllSaid fs → (c k x d : ℕ) → Lie S st.protos c k x d fs → From S q st.protos c k
  from-runs (last r e) ys c k x d l = from_last (told_as r) e c k x d l
  from-runs (next r h) (more y ys) c k x d l = from_next (told_as r) h y (λ c k x d l. from-runs h ys c k x d l) c k x d l

-- ---- the whole storage

module _ (S : Storage) (read : reads_back S ≡ true) where
  pub from_front : From S (prototypes_of S.table) 0 0 0
  from_front =
      let r = readable S read in
      let f = reads_frames r in
      from-runs S (prototypes_of S.table) f.runs (accepted_said (image_in S) r.count r.accepted) 0 0 0 0 f.lies

  -- registers 1 to 255, parameters at most the registers
  pub proto_fits : (q : ℕ) → q < prototypes_of S.table → Proto S.table q
  proto_fits q h = from_front.protos q (omega arith) h

  pub registers-fit : (q : ℕ) → q < prototypes_of S.table → (1 ≤ registers_of S.table q) × (registers_of S.table q ≤ 255)
  registers-fit q h = let p = proto_fits q h in (p.some, p.few)

  -- an entry's starts are at most those of an entry after it; the closing entry's are the last
  pub constants-grow : (i j : ℕ) → i ≤ j → j ≤ prototypes_of S.table → first_constant S.table i ≤ first_constant S.table j
  constants-grow i j h g = from_front.consts.grow i j (omega arith) h g

  pub instructions-grow : (i j : ℕ) → i ≤ j → j ≤ prototypes_of S.table → first_instruction S.table i ≤ first_instruction S.table j
  instructions-grow i j h g = from_front.codes.grow i j (omega arith) h g

  -- every constant is one that a line can say
  pub constant_proper : (i : ℕ) → i < first_constant S.table (prototypes_of S.table) → Proper (get_or S.kinds i 0) (get_or S.words i 0)
  constant_proper i h = from_front.constants i (omega arith) h

-- ---- a constant as a register holds it

proper_value : (k w : ℕ) → k < 4 → w ≤ most_of k → is_value k w ≡ true
unfolding is_value most_of
proper_value zero w h m = eq-eqb w 0 (omega arith)
proper_value (suc zero) w h m = lt-ltb w 2 (omega arith)
proper_value (suc (suc zero)) w h m = refl
proper_value (suc (suc (suc zero))) w h m = refl
proper_value (suc (suc (suc (suc k)))) w h m = absurd (omega arith)

module _ (table kinds words frames : List ℕ) (i : ℕ) where
  string_fits : get_or kinds i 0 ≡ 4 → i < first_constant table (prototypes_of table) → value_fits table kinds frames (get_or kinds i 0) i ≡ true
  unfolding value_fits is_value
  string_fits e h = rw (e, lt-ltb i (first_constant table (prototypes_of table)) h)

  proper_fits : i < first_constant table (prototypes_of table) → Proper (get_or kinds i 0) (get_or words i 0)
      → value_fits table kinds frames (get_or kinds i 0) (cond (eqb (get_or kinds i 0) 4) i (get_or words i 0)) ≡ true
  proper_fits h p =
      cond_cases (λ w. value_fits table kinds frames (get_or kinds i 0) w ≡ true) (eqb (get_or kinds i 0) 4) _ _
      (λ e. string_fits (eqb-true _ _ e) h)
      (λ e. let n = eqb-false (get_or kinds i 0) 4 e in
      let f : get_or kinds i 0 < 4 = omega (arith, p.kind) in
      sym (value-other table kinds frames _ _ (proper_value _ _ f (p.most f)) (λ z. omega arith) (λ z. omega arith)))

pub constant-fits : (S : Storage) (frames : List ℕ) → reads_back S ≡ true → (q c : ℕ) → q < prototypes_of S.table → c < constants_of S.table q
    → value_fits S.table S.kinds frames (constant_kind S.table S.kinds q c) (constant_word S.table S.kinds S.words q c) ≡ true
constant-fits S frames read q c h g =
    let i : first_constant S.table q + c < first_constant S.table (prototypes_of S.table) =
    omega (arith, constants-grow S read (q + 1) (prototypes_of S.table) (omega arith) (omega arith)) in
    proper_fits S.table S.kinds S.words frames (first_constant S.table q + c) i (constant_proper S read _ i)
