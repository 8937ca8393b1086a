-- The published sizes suffice for every accepted image: its bytes bound the instructions and the texts, its counts the constants and the table. Assumes nothing.
use Rattle.std.proofs.Common.{◌≡◌, ℕ, ◌+◌, ◌*◌, ◌<◌, ◌≤◌, min, eqb, ltb, leb, List, [], ◌∷◌, length, Ok, refl, ap, subst, arith, length-append, ltb-true, leb-true}
use Rattle.image.specs.Frames.{F, opens, const, str, code, ends, bad, desc, shape, frames_of}
use Rattle.image.specs.Judge.{frame_step, const_step, code_step, desc_step, start, judge_of}
use Rattle.image.specs.Write.{written}
use Rattle.image.specs.declared.Counts.{Counts}
use Rattle.image.specs.declared.Step.{Step}
use Rattle.image.specs.declared.Step.TheVariants.{On, Done, No}
use Rattle.choices.proofs.Choices.{cond_cases}
use Rattle.image.proofs.Sizes.{line_size, size-line}
use Rattle.image.proofs.Trip.{round_trip}
use Rattle.storage.specs.Layout.{entry_of, codes_of, kinds_of, words_of, texts_of, entries_all, codes_all, kinds_all, words_all, texts_all}
use Rattle.storage.proofs.Runs.{Runs, last, next, accepted_runs}
use Rattle.storage.proofs.Reading.{accepted_short}
use Rattle.reader.specs.Steps.{Suffice}
use Rattle.reader.proofs.Parts.{word-kind}

-- ---- by the bytes

-- what a line appends, against its bytes
record Light (f : F) : Type 0 where
  codes : 13 * length (codes_of f) ≤ line_size f
  texts : 2 * length (texts_of f) ≤ line_size f
  some : 1 ≤ line_size f

light : (f : F) → Light f
unfolding codes_of texts_of line_size
light (opens r p) = record { codes = omega arith; texts = omega arith; some = omega arith }
light (const k w) = record { codes = omega arith; texts = omega arith; some = omega arith }
light (str l) = record { codes = omega arith; texts = omega arith; some = omega arith }
light (code w) = record { codes = omega arith; texts = omega arith; some = omega arith }
light (ends n) = record { codes = omega arith; texts = omega arith; some = omega arith }
light (bad k) = record { codes = omega arith; texts = omega arith; some = omega arith }
light (desc k n) = record { codes = omega arith; texts = omega arith; some = omega arith }

record LightAll (fs : List F) : Type 0 where
  codes : 13 * length (codes_all fs) ≤ length (written fs)
  texts : 2 * length (texts_all fs) ≤ length (written fs)
  frames : length fs ≤ length (written fs)

all_light : (fs : List F) → LightAll fs
unfolding codes_all texts_all
all_light [] = record { codes = omega arith; texts = omega arith; frames = omega arith }
all_light (f ∷ fs) =
    let h = light f in
    let r = all_light fs in
    let s = size-line f fs in
    record {
      codes = omega (arith, length-append (codes_of f) (codes_all fs));
      texts = omega (arith, length-append (texts_of f) (texts_all fs));
      frames = omega (arith, h.some, r.frames);
    }

-- ---- by the counts

abbrev Counted : Counts → Type 0
Counted st = (st.protos ≤ 32) × (st.consts ≤ 256 * min 1 st.protos)

-- what a frame adds is covered by what is counted
record Covers (st t : Counts) (f : F) : Type 0 where
  ok : Counted t
  kinds : length (kinds_of f) + st.consts + 256 * st.protos + 256 * min 1 t.protos ≤ t.consts + 256 * t.protos + 256 * min 1 st.protos
  entries : (c k : ℕ) → length (entry_of c k f) + 4 * st.protos ≤ 4 * t.protos

abbrev Cover : Counts → F → Step → Type 0
Cover st f (On t) = Covers st t f
Cover st f Done = (length (kinds_of f) ≡ 0) × ((c k : ℕ) → length (entry_of c k f) ≡ 4)
Cover st f (No k) = Unit {0}

module _ (st : Counts) (o : Counted st) where
  const-cover : (f : F) → length (kinds_of f) ≡ 1 → ((c k : ℕ) → length (entry_of c k f) ≡ 0) → Cover st f (const_step st)
  unfolding const_step
  const-cover f one none =
      cond_cases (Cover st f) (leb 1 st.protos) _ _
      (λ a. cond_cases (Cover st f) (eqb st.codes 0) _ _
      (λ b. cond_cases (Cover st f) (ltb st.consts 256) _ _
      (λ d.
      let p : 1 ≤ st.protos = leb-true _ _ a in
      let q : st.consts < 256 = ltb-true _ _ d in
      record { ok = (omega arith, omega arith); kinds = omega arith; entries = λ c k. omega (arith, none c k) })
      (λ d. tt))
      (λ b. tt))
      (λ a. tt)

  code-cover : (f : F) → length (kinds_of f) ≡ 0 → ((c k : ℕ) → length (entry_of c k f) ≡ 0) → Cover st f (code_step st)
  unfolding code_step
  code-cover f zero' none =
      cond_cases (Cover st f) (leb 1 st.protos) _ _
      (λ a. cond_cases (Cover st f) (ltb st.codes 4096) _ _
      (λ d. record { ok = (omega arith, omega arith); kinds = omega arith; entries = λ c k. omega (arith, none c k) }) (λ d. tt))
      (λ a. tt)

  desc-cover : (f : F) → length (kinds_of f) ≡ 0 → ((c k : ℕ) → length (entry_of c k f) ≡ 0) → Cover st f (desc_step st)
  unfolding desc_step
  desc-cover f zero' none =
      cond_cases (Cover st f) (leb 1 st.protos) _ _
      (λ a. cond_cases (Cover st f) (eqb st.consts 0) _ _
      (λ b. cond_cases (Cover st f) (eqb st.codes 0) _ _
      (λ d. cond_cases (Cover st f) (ltb st.descs 8) _ _
      (λ e. record { ok = (omega arith, omega arith); kinds = omega arith; entries = λ c k. omega (arith, none c k) }) (λ e. tt))
      (λ d. tt))
      (λ b. tt))
      (λ a. tt)

  covers : (f : F) → Cover st f (frame_step st (shape f))
  unfolding frame_step shape kinds_of entry_of
  covers (opens r p) =
      cond_cases (Cover st (opens r p)) (ltb st.protos 32) _ _
      (λ d.
      let q : st.protos < 32 = ltb-true _ _ d in
      record { ok = (omega arith, omega arith); kinds = omega arith; entries = λ c k. omega arith })
      (λ d. tt)
  covers (const k w) = const-cover (const k w) refl (λ c k. refl)
  covers (str l) = const-cover (str l) refl (λ c k. refl)
  covers (code w) = code-cover (code w) refl (λ c k. refl)
  covers (ends n) = cond_cases (Cover st (ends n)) (eqb n st.protos) _ _ (λ d. (refl, λ c k. refl)) (λ d. tt)
  covers (bad k) = tt
  covers (desc k n) = desc-cover (desc k n) refl (λ c k. refl)

-- what an accepted run from these counts still adds
record Rest (st : Counts) (fs : List F) : Type 0 where
  kinds : length (kinds_all fs) + st.consts + 256 * st.protos ≤ 8192 + 256 * min 1 st.protos
  entries : (c k : ℕ) → length (entries_all c k fs) + 4 * st.protos ≤ 132

rest_of : {st : Counts} {q : ℕ} {fs : List F} → Runs st q fs → Counted st → Rest st fs
unfolding kinds_all entries_all
rest_of (last {st} {f = f} r e) o =
    let v = subst (λ (u : Step). Cover st f u) r (covers st o f) in
    record {
      kinds = omega (arith, v.0, length-append (kinds_of f) []);
      entries = λ c k. omega (arith, v.1 c k, length-append (entry_of c k f) []);
    }
rest_of (next {st} {u} {f = f} {fs} r h) o =
    let v = subst (λ (u : Step). Cover st f u) r (covers st o f) in
    let i = rest_of h v.ok in
    record {
      kinds = omega (arith, v.kinds, i.kinds, length-append (kinds_of f) (kinds_all fs));
      entries = λ c k. omega (
        arith,
        v.entries c k,
        i.entries (c + length (kinds_of f)) (k + length (codes_of f)),
        length-append (entry_of c k f) (entries_all (c + length (kinds_of f)) (k + length (codes_of f)) fs),
      );
    }

words-kinds : (fs : List F) (top : ℕ) → length (words_all top fs) ≡ length (kinds_all fs)
unfolding words_all kinds_all
words-kinds [] top = refl
words-kinds (f ∷ fs) top =
    omega (
      arith,
      word-kind top f,
      words-kinds fs (top + length (texts_of f)),
      length-append (words_of top f) (words_all (top + length (texts_of f)) fs),
      length-append (kinds_of f) (kinds_all fs),
    )

-- ---- the published sizes

pub sizes_suffice : (s : List ℕ) (q : ℕ) → judge_of s ≡ Ok q → Suffice q (frames_of s)
sizes_suffice s q e =
    let fs = frames_of s in
    let a = accepted_short s q e in
    let n = ap length (round_trip s q e) in
    let b = all_light fs in
    let r = rest_of (accepted_runs fs start 0 q a.1) (omega arith, omega arith) in
    record {
      table = omega (arith, r.entries 0 0);
      code = omega (arith, b.codes, a.0, n);
      kinds = omega (arith, r.kinds);
      words = omega (arith, r.kinds, words-kinds fs 0);
      texts = omega (arith, b.texts, a.0, n);
      frames = omega (arith, b.frames, a.0, n);
    }
