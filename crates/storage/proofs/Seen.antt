-- What the next frame of an accepted run that lies in a storage shows there. The next entry of the table tells its kind: a constant
-- while fewer constants are passed than its first, else an instruction while fewer instructions are, else that entry itself.
-- Assumes nothing.
use Prim.Native.Nat.{ℕ, ◌+◌, ◌*◌, ◌≤◌, ◌<◌}
use native.Mathlib.Omega.{arith}
use native.Mathlib.Nat.{add-zero}
use mathlib.Core.Path.{◌≡◌, refl, ◌∙◌}
use mathlib.Core.List.{List, [], ◌∷◌}
use lib.ListN.{length, get_or}
use Rattle.image.specs.Frames.{F, opens, const, str, code, ends, desc}
use Rattle.image.specs.declared.Counts.{Counts}
use Rattle.image.specs.declared.Step.TheVariants.{On, Done}
use Rattle.storage.specs.Layout.{Storage, entry_of, codes_of, kinds_of, words_of, entries_all, codes_all, kinds_all, words_all}
use Rattle.storage.specs.declared.Tops.{Tops}
use Rattle.storage.proofs.Places.{At, at-fits, at-cell, at_head}
use Rattle.storage.proofs.Runs.{Runs, last, next, Told, opened, word, text, instruction, ended, described, told_as}
use Rattle.storage.proofs.Lies.{Stands, all}

-- ---- the next entry of an accepted run

pub record Entries (st : Counts) (c k : ℕ) (fs : List F) : Type 0 where
  pub four : 4 ≤ length (entries_all c k fs)
  pub consts : c ≤ get_or (entries_all c k fs) 2 0
  pub codes : k ≤ get_or (entries_all c k fs) 3 0
  pub order : 1 ≤ st.codes → get_or (entries_all c k fs) 2 0 ≡ c
  pub fresh : st.protos ≡ 0 → (get_or (entries_all c k fs) 2 0 ≡ c) × (get_or (entries_all c k fs) 3 0 ≡ k)

entry-last : {st : Counts} {f : F} → Told st f Done → (c k : ℕ) → Entries st c k (f ∷ [])
unfolding entries_all entry_of
entry-last (ended e) c k =
    record { four = omega arith; consts = omega arith; codes = omega arith; order = λ h. refl; fresh = λ h. (refl, refl) }

entry_next : {st u : Counts} {f : F} {fs : List F} → Told st f (On u) → ((c k : ℕ) → Entries u c k fs) → (c k : ℕ) → Entries st c k (f ∷ fs)
unfolding entries_all entry_of kinds_of codes_of
entry_next (opened a) ih c k =
    record { four = omega arith; consts = omega arith; codes = omega arith; order = λ h. refl; fresh = λ h. (refl, refl) }
entry_next (word a b) ih c k =
    let h = ih (c + 1) (k + 0) in
    record {
      four = h.four;
      consts = omega (arith, h.consts);
      codes = omega (arith, h.codes);
      order = λ o. absurd (omega arith);
      fresh = λ o. absurd (omega arith);
    }
entry_next (text a b) ih c k =
    let h = ih (c + 1) (k + 0) in
    record {
      four = h.four;
      consts = omega (arith, h.consts);
      codes = omega (arith, h.codes);
      order = λ o. absurd (omega arith);
      fresh = λ o. absurd (omega arith);
    }
entry_next (instruction a) ih c k =
    let h = ih (c + 0) (k + 1) in
    let o = h.order (omega arith) ∙ add-zero c in
    record { four = h.four; consts = omega (arith, h.consts); codes = omega (arith, h.codes); order = λ x. o; fresh = λ x. absurd (omega arith) }
entry_next (described a b e d) ih c k =
    let h = ih (c + 0) (k + 0) in
    record {
      four = h.four;
      consts = omega (arith, h.consts);
      codes = omega (arith, h.codes);
      order = λ o. absurd (omega arith);
      fresh = λ o. absurd (omega arith);
    }

pub entry-of : {st : Counts} {q : ℕ} {fs : List F} → Runs st q fs → (c k : ℕ) → Entries st c k fs
entry-of (last r e) = entry-last (told_as r)
entry-of (next r h) = entry_next (told_as r) (entry-of h)

-- ---- what stands at t

module _ (t : Tops) (S : Storage) where
  -- an entry, with what is passed as its starts
  pub record Entry (r p : ℕ) : Type 0 where
    pub room : t.entries + 4 ≤ length S.table
    pub registers : get_or S.table t.entries 0 ≡ r
    pub parameters : get_or S.table (t.entries + 1) 0 ≡ p
    pub consts : get_or S.table (t.entries + 2) 0 ≡ t.consts
    pub codes : get_or S.table (t.entries + 3) 0 ≡ t.codes

  -- a constant before the next entry's first
  pub record Constant (k w : ℕ) : Type 0 where
    pub room : t.entries + 4 ≤ length S.table
    pub consts : t.consts < get_or S.table (t.entries + 2) 0
    pub in_kinds : t.consts < length S.kinds
    pub in_words : t.consts < length S.words
    pub kind : get_or S.kinds t.consts 0 ≡ k
    pub word : get_or S.words t.consts 0 ≡ w

  -- an instruction before the next entry's first, where no constant is left
  pub record Instruction (w : ℕ) : Type 0 where
    pub room : t.entries + 4 ≤ length S.table
    pub consts : get_or S.table (t.entries + 2) 0 ≡ t.consts
    pub codes : t.codes < get_or S.table (t.entries + 3) 0
    pub in_code : t.codes < length S.code
    pub word : get_or S.code t.codes 0 ≡ w

  entry_at : (r p : ℕ) (xs : List ℕ) → At S.table t.entries (r ∷ p ∷ t.consts ∷ t.codes ∷ xs) → Entry r p
  entry_at r p xs a =
      record {
        room = omega (arith, at-fits S.table t.entries _ a (omega arith));
        registers = (at_head S.table t.entries r _ a).1;
        parameters = at-cell S.table t.entries _ 1 a (omega arith);
        consts = at-cell S.table t.entries _ 2 a (omega arith);
        codes = at-cell S.table t.entries _ 3 a (omega arith);
      }

  pub open-seen : (r p : ℕ) (fs : List F) → Stands t (all t (opens r p ∷ fs)) S → Entry r p
  unfolding entries_all entry_of
  open-seen r p fs l = entry_at r p _ l.table

  pub end_seen : (m : ℕ) (fs : List F) → Stands t (all t (ends m ∷ fs)) S → Entry 0 0
  unfolding entries_all entry_of
  end_seen m fs l = entry_at 0 0 _ l.table

  constant-at : (k w : ℕ) (xs ks ws : List ℕ) → 4 ≤ length xs → t.consts + 1 ≤ get_or xs 2 0 → At S.table t.entries xs
      → At S.kinds t.consts (k ∷ ks) → At S.words t.consts (w ∷ ws) → Constant k w
  constant-at k w xs ks ws four more e a b =
      let x = at_head S.kinds t.consts k ks a in
      let y = at_head S.words t.consts w ws b in
      record {
        room = omega (arith, at-fits S.table t.entries xs e (omega arith));
        consts = omega (arith, at-cell S.table t.entries xs 2 e (omega arith));
        in_kinds = x.0;
        in_words = y.0;
        kind = x.1;
        word = y.1;
      }

  module _ {u : Counts} {q : ℕ} {fs : List F} (r : Runs u q fs) where
    pub word-seen : (k w : ℕ) → Stands t (all t (const k w ∷ fs)) S → Constant k w
    unfolding entries_all entry_of kinds_of codes_of words_of kinds_all words_all
    word-seen k w l =
        let h = entry-of r (t.consts + 1) (t.codes + 0) in
        constant-at k w _ _ _ h.four h.consts l.table l.kinds l.words

    -- a descriptor stands before an entry too
    pub desc-room : (k n : ℕ) → Stands t (all t (desc k n ∷ fs)) S → t.entries + 4 ≤ length S.table
    unfolding entries_all entry_of kinds_of codes_of
    desc-room k n l =
        let h = entry-of r (t.consts + 0) (t.codes + 0) in
        omega (arith, at-fits S.table t.entries _ l.table (omega (arith, h.four)), h.four)

    pub text-seen : (b : List ℕ) → Stands t (all t (str b ∷ fs)) S → Constant 4 (t.texts * 65536 + length b)
    unfolding entries_all entry_of kinds_of codes_of words_of kinds_all words_all
    text-seen b l =
        let h = entry-of r (t.consts + 1) (t.codes + 0) in
        constant-at 4 (t.texts * 65536 + length b) _ _ _ h.four h.consts l.table l.kinds l.words

    pub instruction-seen : (w : ℕ) → 1 ≤ u.codes → Stands t (all t (code w ∷ fs)) S → Instruction w
    unfolding entries_all entry_of kinds_of codes_of codes_all
    instruction-seen w o l =
        let h = entry-of r (t.consts + 0) (t.codes + 1) in
        let x = at_head S.code t.codes w _ l.code in
        record {
          room = omega (arith, at-fits S.table t.entries _ l.table (omega (arith, h.four)), h.four);
          consts = at-cell S.table t.entries _ 2 l.table (omega (arith, h.four)) ∙ h.order o ∙ add-zero t.consts;
          codes = omega (arith, at-cell S.table t.entries _ 3 l.table (omega (arith, h.four)), h.codes);
          in_code = x.0;
          word = x.1;
        }
