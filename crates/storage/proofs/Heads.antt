-- The first frame of an accepted run that lies in a storage is the one that the storage says at that place. Assumes nothing.
use Prim.Native.Nat.{ℕ, ◌+◌, ◌-◌, ◌*◌, ◌/◌, ◌%◌, ◌^◌, ◌≤◌, ◌<◌}
use native.Mathlib.Omega.{arith}
use mathlib.Core.Path.{◌≡◌, refl, sym, ap}
use mathlib.Core.List.{List, [], ◌∷◌}
use lib.ListN.{length, get_or}
use borrow.Author.Tests.{le-leb, lt-ltb, le-ltb, eq-eqb, ne_eqb}
use Rattle.image.specs.Frames.{F, opens, const, str, desc, shape}
use Rattle.image.specs.declared.Counts.{Counts}
use Rattle.image.specs.declared.Frame.{Frame}
use Rattle.image.specs.declared.Frame.TheVariants.{Open, Const, Str, Code, End, Desc}
use Rattle.image.specs.declared.Step.TheVariants.{On, Done}
use Rattle.image.proofs.Said.{Said}
use Rattle.storage.specs.Layout.{Storage, texts_of, texts_all, descriptors_ahead}
use Rattle.storage.specs.Fields.{entry_place, descriptor_of}
use Rattle.storage.specs.Cursor.{next_text, next_const, next_code, next_entry, next_desc, next_frame, current, descriptors_here}
use Rattle.storage.specs.declared.Tops.{Tops}
use Rattle.storage.proofs.Places.{at_first, at-within}
use Rattle.storage.proofs.Runs.{Runs, last, next, Told, opened, word, text, instruction, ended, described, told_as}
use Rattle.storage.proofs.Lies.{Stands, all}
use Rattle.storage.proofs.Described.{here-held, Descs, settled, unsettled}
use Rattle.storage.proofs.Seen.{Entry, Constant, Instruction, open-seen, end_seen, word-seen, text-seen, instruction-seen, desc-room}

-- the frame that a storage says at a place
abbrev pub next_in : Tops → Storage → Frame
next_in t S = next_frame t S.table S.code S.kinds S.words S.texts

module _ (t : Tops) (S : Storage) where
  abbrev cs : ℕ
  cs = get_or S.table (t.entries + 2) 0

  abbrev ks : ℕ
  ks = get_or S.table (t.entries + 3) 0

  -- the last prototype's descriptors are passed
  abbrev Passed : Type 0
  Passed = descriptors_here t S.table ≤ t.descs

  entry-says : Passed → (r p : ℕ) → Entry t S r p → next_in t S ≡ next_entry t r p
  unfolding next_frame
  entry-says o r p e =
      simp (
        le-leb _ _ e.room,
        le-ltb _ _ o,
        le-ltb t.consts cs (omega (arith, e.consts)),
        eq-eqb t.consts cs (sym e.consts),
        le-ltb t.codes ks (omega (arith, e.codes)),
        eq-eqb t.codes ks (sym e.codes),
        e.registers,
        e.parameters,
      )

  open-says : Passed → (r p : ℕ) → Entry t S r p → Said (opens r p) → next_in t S ≡ Open r p
  unfolding next_entry
  open-says o r p e y = rw (entry-says o r p e) (simp (ne_eqb r 0 (omega (arith, y.0)), le-leb _ _ y.1.0, le-leb _ _ y.1.1))

  end-says : Passed → (m : ℕ) → t.entries / 4 ≡ m → Entry t S 0 0 → next_in t S ≡ End m
  unfolding next_entry
  end-says o m e h = rw (entry-says o 0 0 h) (ap End e)

  const-says : Passed → (k w : ℕ) → Constant t S k w → next_in t S ≡ next_const t S.kinds S.words S.texts
  unfolding next_frame
  const-says o k w e = simp (le-leb _ _ e.room, le-ltb _ _ o, lt-ltb _ _ e.consts)

  word-says : Passed → (k w : ℕ) → Constant t S k w → Said (const k w) → next_in t S ≡ Const k w
  unfolding next_const
  word-says o k w e y =
      rw (const-says o k w e)
      (simp (lt-ltb _ _ e.in_kinds, lt-ltb _ _ e.in_words, e.kind, e.word, lt-ltb _ _ y.0, le-leb _ _ y.1))

  text_says : Passed → (b : List ℕ) → Constant t S 4 (t.texts * 65536 + length b) → length b ≤ 64 → t.texts + length b ≤ length S.texts
      → next_in t S ≡ Str (length b)
  unfolding next_const next_text
  text_says o b e y f =
      let z : t.texts * 65536 + length b - t.texts * 65536 ≡ length b = omega arith in
      rw (const-says o _ _ e)
      (simp (
        lt-ltb _ _ e.in_kinds,
        lt-ltb _ _ e.in_words,
        e.kind,
        e.word,
        z,
        le-leb _ _ y,
        le-leb _ _ f,
        le-leb (t.texts * 65536) (t.texts * 65536 + length b) (omega arith),
      ))

  code-says : Passed → (w : ℕ) → Instruction t S w → w < 2 ^ 40 → next_in t S ≡ Code w
  unfolding next_frame next_code
  code-says o w e y =
      simp (
        le-leb _ _ e.room,
        le-ltb _ _ o,
        le-ltb t.consts cs (omega (arith, e.consts)),
        eq-eqb t.consts cs (sym e.consts),
        lt-ltb _ _ e.codes,
        lt-ltb _ _ e.in_code,
        e.word,
        lt-ltb _ _ y,
      )

  desc-says : (k n : ℕ) → t.entries + 4 ≤ length S.table → t.descs < descriptors_here t S.table
      → descriptor_of S.table (current t) t.descs ≡ k * 256 + n → Said (desc k n) → next_in t S ≡ Desc k n
  unfolding next_frame next_desc
  desc-says k n room o e y =
      let a : (k * 256 + n) / 256 ≡ k = omega (arith, y.1) in
      let b : (k * 256 + n) % 256 ≡ n = omega (arith, y.1) in
      simp (le-leb _ _ room, lt-ltb _ _ o, e, lt-ltb (k * 256 + n) 512 (omega (arith, y.0, y.1)), a, b)

  module _ (inside : t.texts ≤ length S.texts) where
    text-room : (b : List ℕ) (fs : List F) → Stands t (all t (str b ∷ fs)) S → t.texts + length b ≤ length S.texts
    unfolding texts_all texts_of
    text-room b fs l = at-within S.texts t.texts b (at_first S.texts t.texts b _ l.texts) inside

    module _ (p : ℕ) (four : t.entries ≡ entry_place p) where
      passed : (fs : List F) → Descs S.table p t.descs fs → descriptors_ahead fs ≡ [] → Passed
      passed fs D n = omega (arith, here-held t S.table p four, settled S.table p t.descs fs n D)

      desc-head : (k n : ℕ) (fs : List F) → 1 ≤ p → t.entries + 4 ≤ length S.table → Said (desc k n) → Descs S.table p t.descs (desc k n ∷ fs)
          → next_in t S ≡ Desc k n
      desc-head k n fs o room y D =
          let u = unsettled S.table p t.descs k n fs o D in
          let e : current t ≡ p - 1 = omega arith in
          desc-says k n room (omega (arith, here-held t S.table p four, u.0)) (rw e u.1) y

    head-next : {st u : Counts} {q : ℕ} {f : F} {fs : List F} → t.entries ≡ entry_place st.protos → Told st f (On u) → Runs u q fs → Said f
        → Stands t (all t (f ∷ fs)) S → Descs S.table st.protos t.descs (f ∷ fs) → next_in t S ≡ shape f
    unfolding shape descriptors_ahead
    head-next four (opened a) r y l D = open-says (passed _ four _ D refl) _ _ (open-seen t S _ _ _ l) y
    head-next four (word a b) r y l D = word-says (passed _ four _ D refl) _ _ (word-seen t S r _ _ l) y
    head-next four (text {l = b} a d) r y l D = text_says (passed _ four _ D refl) b (text-seen t S r b l) y.0 (text-room b _ l)
    head-next four (instruction a) r y l D = code-says (passed _ four _ D refl) _ (instruction-seen t S r _ (omega arith) l) y
    head-next four (described a b c d) r y l D = desc-head _ four _ _ _ a (desc-room t S r _ _ l) y D

    head-last : {st : Counts} {f : F} → t.entries ≡ entry_place st.protos → Told st f Done → Stands t (all t (f ∷ [])) S
        → Descs S.table st.protos t.descs (f ∷ []) → next_in t S ≡ shape f
    unfolding shape descriptors_ahead
    head-last four (ended e) l D = end-says (passed _ four _ D refl) _ (omega arith) (end_seen t S _ _ l)

    pub heads : {st : Counts} {q : ℕ} {f : F} {fs : List F} → t.entries ≡ entry_place st.protos → Runs st q (f ∷ fs) → Said f
        → Stands t (all t (f ∷ fs)) S → Descs S.table st.protos t.descs (f ∷ fs) → next_in t S ≡ shape f
    heads four (last r e) y l D = head-last four (told_as r) l D
    heads four (next r h) y l D = head-next four (told_as r) h y l D
