-- A storage that an image reads to says only what lines can say: its counts of registers, parameters and prototypes are bytes, and so are
-- the two parts of a descriptor. Assumes nothing.
use Prim.Native.Nat.{ℕ, zero, suc, ◌+◌, ◌/◌, ◌≤◌, ◌<◌}
use native.Mathlib.Omega.{arith}
use mathlib.Core.Path.{◌≡◌}
use mathlib.Core.List.{List, [], ◌∷◌, ◌++◌}
use Rattle.image.specs.Frames.{F, opens, ends, frames_of}
use Rattle.image.proofs.Said.{Said, AllSaid, none, more}
use Rattle.image.proofs.Trip.{accepted_said}
use Rattle.storage.specs.Layout.{Storage}
use Rattle.storage.specs.Fields.{prototypes_of, registers_of, parameters_of, descriptors_of, descriptor_of}
use Rattle.storage.specs.Stored.{ReadsTo, frames_in, desc_frame, desc_frames, proto_frames, protos_frames}
use Rattle.storage.proofs.Order.{frames-in}
use Rattle.storage.proofs.Reading.{reads_frames}
use Rattle.writer.specs.Putting.{Narrow}

said_in : {s : List ℕ} {S : Storage} → ReadsTo s S → AllSaid (frames_in S)
said_in {s} {S} r =
    let f = reads_frames r in
    let y = accepted_said s r.count r.accepted in
    rw (frames-in S (frames_of s) f.runs y f.lies f.descriptors) at y

said-parts : (a b : List F) → AllSaid (a ++ b) → AllSaid a × AllSaid b
said-parts [] b h = (none, h)
said-parts (f ∷ a) b (more g h) = let r = said-parts a b h in (more g r.0, r.1)

said-first : {f : F} {fs : List F} → AllSaid (f ∷ fs) → Said f
said-first (more g h) = g

said-rest : {f : F} {fs : List F} → AllSaid (f ∷ fs) → AllSaid fs
said-rest (more g h) = h

word_slim : (w : ℕ) → Said (desc_frame w) → w < 65536
unfolding desc_frame
word_slim w h = let a : w / 256 ≤ 1 = h.0 in omega arith

slim_from : (S : Storage) (q n i j : ℕ) → AllSaid (desc_frames S q n i) → j < n → descriptor_of S.table q (i + j) < 65536
unfolding desc_frames
slim_from S q zero i j h l = absurd (omega arith)
slim_from S q (suc n) i zero h l =
    let e : i + 0 ≡ i = omega arith in
    rw e (word_slim (descriptor_of S.table q i) (said-first h))
slim_from S q (suc n) i (suc j) h l =
    let e : i + suc j ≡ i + 1 + j = omega arith in
    rw e (slim_from S q n (i + 1) j (said-rest h) (omega arith))

narrow_proto : (S : Storage) (q : ℕ) → AllSaid (proto_frames S q) → Narrow S.table q
unfolding proto_frames
narrow_proto S q h =
    let n = descriptors_of S.table q in
    let D = desc_frames S q n 0 in
    let p = (said-parts (opens (registers_of S.table q) (parameters_of S.table q) ∷ D) _ (said-parts _ _ h).0).0 in
    let g = said-first p in
    (omega arith, (omega arith, λ i l. let e : i ≡ 0 + i = omega arith in rw e (slim_from S q n 0 i (said-rest p) l)))

narrow_protos : (S : Storage) (n q j : ℕ) → AllSaid (protos_frames S n q) → j < n → Narrow S.table (q + j)
unfolding protos_frames
narrow_protos S zero q j h l = absurd (omega arith)
narrow_protos S (suc n) q zero h l =
    let e : q + 0 ≡ q = omega arith in
    rw e (narrow_proto S q (said-parts (proto_frames S q) (protos_frames S n (q + 1)) h).0)
narrow_protos S (suc n) q (suc j) h l =
    let e : q + suc j ≡ q + 1 + j = omega arith in
    rw e (narrow_protos S n (q + 1) j (said-parts (proto_frames S q) (protos_frames S n (q + 1)) h).1 (omega arith))

pub narrow :
    {s : List ℕ} {S : Storage} → ReadsTo s S
    → (prototypes_of S.table < 256) × ((q : ℕ) → q < prototypes_of S.table → Narrow S.table q)
unfolding frames_in
narrow {s} {S} r =
    let n = prototypes_of S.table in
    let p = said-parts (protos_frames S n 0) (ends n ∷ []) (said_in r) in (
      said-first p.1,
      λ q l. let e : q ≡ 0 + q = omega arith in rw e (narrow_protos S n 0 q p.0 l),
    )
