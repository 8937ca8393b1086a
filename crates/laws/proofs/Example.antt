-- The session of 01 is read, written back, accepted and started. Assumes nothing.
use mathlib.Core.Path.{◌≡◌, refl, sym, ap, ◌∙◌, subst}
use mathlib.Core.Bool.{true}
use mathlib.Core.List.{List, [], ◌∷◌}
use Prim.Native.Nat.{ℕ, ◌<◌}
use native.Mathlib.Omega.{arith}
use borrow.Author.Tests.{eqb-true, eqb-false, eq-eqb, leb-true}
use lib.Dec.{eqb}
use lib.ListN.{length, get_or, set, drop, length-drop}
use lib.Seq.{get_or-set_same}
use Rattle.choices.proofs.Choices.{by_bool, cond-true}
use Rattle.image.specs.Hex.{digit_of, paired, bytes_of, word_from}
use Rattle.image.specs.Lines.{onto, lines}
use Rattle.image.specs.Frames.{F, opens, const, code, ends, shape, open_bytes, payload, most_of, word_bytes_of, const_bytes, code_bytes, end_bytes, kind_bytes, frame_of, line_frame, frames_of}
use Rattle.std.specs.Prelude.{Ok}
use Rattle.image.specs.Judge.{const_step, code_step, frame_step, at_end, judge_after, judge_frames, judge_of}
use Rattle.storage.specs.Layout.{Storage, entry_of, codes_of, kinds_of, entries_all, codes_all, descriptors_ahead, described, laid_in, table_size, long_enough}
use Rattle.storage.specs.Stored.{ReadsTo}
use Rattle.reader.specs.Reading.{read_of, left_of}
use Rattle.reader.proofs.Contents.{reads-to}
use Rattle.writer.specs.Writing.{Wrote, write_of, out_of, Written}
use Rattle.writer.proofs.RoundTrip.{left-long, read-written}
use Rattle.checker.specs.Operations.{shape_of, next_of}
use Rattle.checker.specs.Rules.{carried, tidy, registers_in, constants_in, inside, all_inside, targets_in, prototype_in_image, upvalues_in}
use Rattle.checker.specs.Captures.{bare_at}
use Rattle.checker.specs.Check.{check_of}
use Rattle.std.specs.Prelude.{Ok}
use Rattle.checker.specs.Kept.{KeptAt, Sound, Demanded}
use Rattle.checker.proofs.Exact.{exact}
use Rattle.choices.specs.Below.{all_below}
use Rattle.starter.specs.Start.{permitted, checked_start, start_of}
use Rattle.laws.specs.Session.{session_image, session_in, SessionStarts, SessionReads, SessionWritten}

abbrev frames : List F
frames = opens 1 0 ∷ const 2 7 ∷ code 0x400_0000 ∷ code 0x3000_0100 ∷ ends 1 ∷ []

frames_are : frames_of session_image ≡ frames
unfolding session_image frames_of line_frame frame_of kind_bytes end_bytes code_bytes const_bytes word_bytes_of most_of payload open_bytes lines onto word_from bytes_of paired digit_of
frames_are = refl

image_accepted : judge_of session_image ≡ Ok 1
unfolding judge_of judge_frames judge_after at_end frame_step code_step const_step shape session_image frames_of line_frame frame_of kind_bytes end_bytes code_bytes const_bytes word_bytes_of most_of payload open_bytes lines onto word_from bytes_of paired digit_of
image_accepted = refl

-- ---- read

pub session_reads : SessionReads
unfolding read_of left_of session_in
session_reads lent l = record { answer = rw (l, image_accepted); left = refl }

-- ---- accepted

-- prototype 0 has no descriptors: their number stands 124 words behind the closing entry
module _ (x y : List ℕ) (bare : get_or x 124 0 ≡ 0) where
  abbrev table : List ℕ
  table = 1 ∷ 1 ∷ 0 ∷ 0 ∷ 0 ∷ 0 ∷ 0 ∷ 1 ∷ 2 ∷ x

  abbrev codes : List ℕ
  codes = 0x400_0000 ∷ 0x3000_0100 ∷ y

  first : KeptAt table codes 0 0
  unfolding shape_of carried tidy registers_in constants_in targets_in all_inside inside next_of prototype_in_image upvalues_in bare_at
  first = record { carried = refl; tidy = refl; registers = refl; constants = refl; targets = refl; prototype = refl; upvalues = eq-eqb _ 0 bare }

  second : KeptAt table codes 0 1
  unfolding shape_of carried tidy registers_in constants_in targets_in all_inside inside next_of prototype_in_image upvalues_in bare_at
  second = record { carried = refl; tidy = refl; registers = refl; constants = refl; targets = refl; prototype = refl; upvalues = refl }

  each : (i : ℕ) → i < 2 → KeptAt table codes 0 i
  each i h =
      by_bool (eqb i 0) (λ e. let z : i ≡ 0 = eqb-true i 0 e in rw z first)
      (λ e. let n = eqb-false i 0 e in
      let z : i ≡ 1 = omega (arith, n) in
      rw z second)

  sound : (q : ℕ) → q < 1 → Sound table codes q
  sound q h =
      let z : q ≡ 0 = omega arith in
      rw z (record { some = λ e. omega arith; each = each })

-- the storage with the frames written out
abbrev plain : Storage → Storage
plain lent = laid_in 1 frames lent

plain-is : (lent : Storage) → session_in lent ≡ plain lent
unfolding session_in
plain-is lent = ap (λ (fs : List F). laid_in 1 fs lent) frames_are

demanded : (lent : Storage) → long_enough lent ≡ true → Demanded (plain lent)
unfolding described descriptors_ahead entries_all entry_of codes_all codes_of kinds_of long_enough
demanded lent l =
    let h = leb-true table_size (length lent.table) (cond-true _ _ l).0 in
    let g : 124 < length (drop 9 lent.table) = rw length-drop (omega arith) in
    record {
      long = left-long 1 frames lent l;
      image = session_image;
      reads = subst (ReadsTo session_image) (plain-is lent) (reads-to session_image 1 lent (session_in lent) (session_reads lent l));
      some = (λ e. omega arith);
      each = sound (set (drop 9 lent.table) 124 0) (drop 2 lent.code) (get_or-set_same (drop 9 lent.table) 124 0 0 g);
    }

accepted : (lent : Storage) → long_enough lent ≡ true → check_of (session_in lent) ≡ Ok tt
accepted lent l = ap check_of (plain-is lent) ∙ (exact (plain lent)).1 (demanded lent l)

-- ---- started

pub session_starts : SessionStarts
unfolding start_of checked_start permitted all_below
session_starts lent s l h = rw (h, accepted lent l)

-- ---- written back

pub session_written : SessionWritten
session_written lent out l h =
    let S = session_in lent in
    let w : Written S (write_of S out) out (out_of (write_of S out) S out) = record { answer = refl; left = refl } in
    let back = read-written (session_reads lent l) h w in
    record { answer = sym back.0; left = sym back.1 ∙ ap (λ (r : Wrote). out_of r S out) back.0 }
