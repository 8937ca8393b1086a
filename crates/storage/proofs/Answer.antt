-- The walk's end and the answer: an image that lies in the storage is one that reads to it. Assumes nothing.
use Prim.Native.Nat.{ℕ}
use native.Mathlib.Omega.{arith}
use mathlib.Core.Path.{◌≡◌, sym, ap, ◌∙◌}
use mathlib.Core.List.{List}
use lib.ListN.{length}
use Rattle.image.specs.Frames.{frames_of}
use Rattle.image.specs.Write.{written}
use Rattle.image.proofs.Back.{frames_said}
use Rattle.image.proofs.Trip.{round_trip, accepted_said}
use Rattle.storage.specs.Layout.{Storage}
use Rattle.storage.specs.Fields.{prototypes_of}
use Rattle.storage.specs.Stored.{ReadsTo, valid_of}
use Rattle.std.specs.Prelude.{Some, None}
use Rattle.storage.proofs.Runs.{runs_accepted}
use Rattle.storage.proofs.Described.{descs_start}
use Rattle.storage.proofs.Reading.{short_accepted, reads_frames, frames_reads}
use Rattle.storage.proofs.Six.{fits, bytes-answer, six-answer}
use Rattle.storage.proofs.Walk.{Whole}

reads_whole : {s : List ℕ} {S : Storage} → ReadsTo s S → Whole (length s) S
reads_whole {s} r =
    let f = reads_frames r in
    record {
      frames = frames_of s;
      runs = f.runs;
      lies = f.lies;
      descs = descs_start _ (frames_of s) f.descriptors;
      said = accepted_said s r.count r.accepted;
      size = omega (arith, ap length (round_trip s r.count r.accepted));
      short = fits r;
    }

whole-reads : {n : ℕ} {S : Storage} (w : Whole n S) → ReadsTo (written w.frames) S
whole-reads {n} {S} w =
    let e = frames_said w.frames w.said in
    frames_reads
    (short_accepted (written w.frames) (prototypes_of S.table) (omega (arith, w.size, w.short)) (rw e (runs_accepted w.runs 0)))
    (record { runs = rw e w.runs; lies = rw e w.lies; descriptors = rw e w.descs.later })

pub bytes : {n : ℕ} {S : Storage} → Whole n S → Some n ≡ valid_of S
bytes {n} w = let e : length (written w.frames) ≡ n = omega (arith, w.size) in sym (bytes-answer (whole-reads w) ∙ ap Some e)

pub none : (S : Storage) → ((n : ℕ) → Whole n S → ⊥) → None ≡ valid_of S
none S h = sym (six-answer S (λ s r. h (length s) (reads_whole r)))
