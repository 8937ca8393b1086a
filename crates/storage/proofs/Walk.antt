-- The walk over a storage, frame by frame: what is left of an image from a place on, and the whole of it, go together. Assumes nothing.
use Prim.Native.Nat.{ℕ, ◌+◌, ◌-◌, ◌*◌, ◌≤◌, ◌<◌}
use native.Mathlib.Omega.{arith}
use mathlib.Core.Path.{◌≡◌, refl, sym, ap, subst, ◌∙◌}
use mathlib.Core.List.{List, [], ◌∷◌}
use lib.ListN.{length}
use Rattle.image.specs.Frames.{F, shape}
use Rattle.image.specs.Judge.{frame_step, start}
use Rattle.image.specs.Write.{written}
use Rattle.image.specs.declared.ReadError.{ReadError}
use Rattle.image.specs.declared.Counts.{Counts}
use Rattle.image.specs.declared.Frame.{Frame}
use Rattle.image.specs.declared.Frame.TheVariants.{Open, Const, Str, Code, End, Bad, Desc}
use Rattle.image.specs.declared.Step.TheVariants.{On, Done, No}
use Rattle.image.proofs.HexLaws.{AllBytes}
use Rattle.image.proofs.Said.{AllSaid, none, more}
use Rattle.image.proofs.Sizes.{size-nil}
use Rattle.storage.specs.Layout.{Storage}
use Rattle.storage.specs.Fields.{prototypes_of, entry_place}
use Rattle.storage.specs.Cursor.{size_of, past, current}
use Rattle.storage.specs.declared.Tops.{Tops}
use Rattle.storage.proofs.Sizes.{size-first, size-said}
use Rattle.storage.proofs.Runs.{Runs, last, next, Told, opened, word, text, instruction, described, told_as}
use Rattle.storage.proofs.Lies.{Stands, all, past_texts, lies-none, lies-rest, lies-join}
use Rattle.storage.proofs.Described.{held_by, here-held, Descs, descs_rest, Agrees, descs_join, descs_last}
use Rattle.storage.proofs.Heads.{next_in, heads}
use Rattle.storage.proofs.Order.{front}
use Rattle.storage.proofs.Sound.{real, Left, Tells, sound}

-- the rest of an image of n bytes, b of them before it, lies in the storage from t and st on
pub record Rest (t : Tops) (st : Counts) (b n : ℕ) (S : Storage) : Type 0 where
  pub frames : List F
  pub runs : Runs st (prototypes_of S.table) frames
  pub lies : Stands t (all t frames) S
  pub descs : Descs S.table st.protos t.descs frames
  pub said : AllSaid frames
  pub size : b + length (written frames) ≡ n
  pub short : n ≤ 65536

-- an image of so many bytes lies in the storage
abbrev pub Whole : ℕ → Storage → Type 0
Whole n S = Rest front start 0 n S

pub record Walk (t : Tops) (st : Counts) (b : ℕ) (S : Storage) : Type 0 where
  pub back : (n : ℕ) → Rest t st b n S → Whole n S
  pub forth : (n : ℕ) → Whole n S → Rest t st b n S
  pub entries : t.entries ≡ entry_place st.protos
  pub few : st.protos ≤ 32
  pub inside : t.texts ≤ length S.texts
  pub texts : 2 * t.texts ≤ b
  pub codes : t.codes ≤ b
  pub consts : t.consts ≤ b
  pub descs : t.descs ≤ b
  pub held : t.descs ≤ held_by S.table st.protos

pub walk_start : (S : Storage) → Walk front start 0 S
walk_start S =
    record {
      back = λ n r. r;
      forth = λ n r. r;
      entries = refl;
      few = omega arith;
      inside = omega arith;
      texts = omega arith;
      codes = omega arith;
      consts = omega arith;
      descs = omega arith;
      held = omega arith;
    }

-- no room for another line
pub walk-over : {t : Tops} {st : Counts} {b : ℕ} {S : Storage} → Walk t st b S → 65536 < b → (n : ℕ) → Whole n S → ⊥
walk-over w h n r = let g = w.forth n r in omega (arith, g.size, g.short)

-- ---- what a step keeps

kept : {st u : Counts} {f : F} (t : Tops) → Told st f (On u) → t.entries ≡ entry_place st.protos → st.protos ≤ 32
    → ((past t (shape f)).entries ≡ entry_place u.protos) × (u.protos ≤ 32)
unfolding past shape
kept t (opened a) e h = (omega arith, omega arith)
kept t (word a b) e h = (e, h)
kept t (text a b) e h = (e, h)
kept t (instruction a) e h = (e, h)
kept t (described a b c d) e h = (e, h)

grown : (t : Tops) (fr : Frame) (b : ℕ) → 2 * t.texts ≤ b → t.codes ≤ b → t.consts ≤ b
    → (2 * (past t fr).texts ≤ b + size_of fr) × (((past t fr).codes ≤ b + size_of fr) × ((past t fr).consts ≤ b + size_of fr))
unfolding past size_of
grown t (Open r p) b x y z = (omega arith, (omega arith, omega arith))
grown t (Const k w) b x y z = (omega arith, (omega arith, omega arith))
grown t (Str n) b x y z = (omega arith, (omega arith, omega arith))
grown t (Code w) b x y z = (omega arith, (omega arith, omega arith))
grown t (End n) b x y z = (omega arith, (omega arith, omega arith))
grown t (Bad k) b x y z = (omega arith, (omega arith, omega arith))
grown t (Desc k n) b x y z = (omega arith, (omega arith, omega arith))

descs_grown : (t : Tops) (fr : Frame) (b : ℕ) → t.descs ≤ b → (past t fr).descs ≤ b + size_of fr
unfolding past size_of
descs_grown t (Open r p) b x = omega arith
descs_grown t (Const k w) b x = omega arith
descs_grown t (Str n) b x = omega arith
descs_grown t (Code w) b x = omega arith
descs_grown t (End n) b x = omega arith
descs_grown t (Bad k) b x = omega arith
descs_grown t (Desc k n) b x = omega arith

-- what the table says of descriptors, by how many prototypes are opened
module _ (t : Tops) (S : Storage) where
  agrees : (fr : Frame) (p : ℕ) → t.entries ≡ entry_place p → t.descs ≤ held_by S.table p → Left t S fr
      → Agrees S.table p t.descs (real t S fr)
  unfolding real
  agrees (Open r q) p e h l = omega (arith, here-held t S.table p e)
  agrees (Const k w) p e h l = tt
  agrees (Str n) p e h l = tt
  agrees (Code w) p e h l = tt
  agrees (End n) p e h l = omega (arith, here-held t S.table p e)
  agrees (Bad k) p e h l = tt
  agrees (Desc k n) p e h l = let c : current t ≡ p - 1 = omega arith in rw c at l.1

  held_on : {st u : Counts} {f : F} → Told st f (On u) → t.entries ≡ entry_place st.protos → t.descs ≤ held_by S.table st.protos
      → Left t S (shape f) → (past t (shape f)).descs ≤ held_by S.table u.protos
  unfolding past shape
  held_on (opened a) e h l = omega arith
  held_on (word a b) e h l = h
  held_on (text a b) e h l = h
  held_on (instruction a) e h l = h
  held_on {st} (described a b c d) e h l = omega (arith, l.0, here-held t S.table st.protos e)

-- a frame that is counted, or ends, is one
on-frame : (st u : Counts) (fr : Frame) → frame_step st fr ≡ On u → (k : ReadError) → fr ≡ Bad k → ⊥
unfolding frame_step
on-frame st u fr r k e = let g = rw e at r in let z : ◌≡◌ {A = ℕ} 0 1 = cc in omega arith

done-frame : (st : Counts) (fr : Frame) → frame_step st fr ≡ Done → (k : ReadError) → fr ≡ Bad k → ⊥
unfolding frame_step
done-frame st fr r k e = let g = rw e at r in let z : ◌≡◌ {A = ℕ} 0 1 = cc in omega arith

-- ---- one turn

-- fr is what the storage says next
pub record Turn (t : Tops) (st : Counts) (b : ℕ) (S : Storage) (fr : Frame) : Type 0 where
  pub walk : Walk t st b S
  pub bytes : AllBytes S.texts
  pub says : fr ≡ next_in t S

module _ {t : Tops} {st : Counts} {b : ℕ} {S : Storage} {fr : Frame} (T : Turn t st b S fr) where
  -- the frame that stands there
  f : F
  f = real t S fr

  there : ((k : ReadError) → fr ≡ Bad k → ⊥) → Tells t S f fr
  unfolding f
  there =
      subst (λ (x : Frame). ((k : ReadError) → x ≡ Bad k → ⊥) → Tells t S (real t S x) x) (sym T.says)
      (sound t S T.bytes (omega (arith, T.walk.entries, T.walk.few)))

  small : ((k : ReadError) → fr ≡ Bad k → ⊥) → size_of fr ≤ 1000
  small h = let a = there h in rw (← a.told) (size-said f a.said)

  pub on_small : (u : Counts) → frame_step st fr ≡ On u → size_of fr ≤ 1000
  on_small u r = small (on-frame st u fr r)

  pub done_small : frame_step st fr ≡ Done → size_of fr ≤ 1000
  done_small r = small (done-frame st fr r)

  -- the rest of any image starts with a frame of this shape
  head : {q : ℕ} {g : F} {gs : List F} → Runs st q (g ∷ gs) → AllSaid (g ∷ gs) → Stands t (all t (g ∷ gs)) S
      → Descs S.table st.protos t.descs (g ∷ gs) → shape g ≡ fr
  head r (more y ys) l D = sym (T.says ∙ heads t S T.walk.inside T.walk.entries r y l D)

  -- it agrees with what the table says of descriptors
  agreed : ((k : ReadError) → fr ≡ Bad k → ⊥) → Agrees S.table st.protos t.descs f
  unfolding f
  agreed h = agrees t S fr st.protos T.walk.entries T.walk.held (there h).left

  -- ---- it is counted: the rest after it is the rest

  module _ (u : Counts) (r : frame_step st fr ≡ On u) where
    join : (n : ℕ) → Rest (past t fr) u (b + size_of fr) n S → Rest t st b n S
    join n R =
        let a = there (on-frame st u fr r) in
        let l = subst (λ (x : Frame). Stands (past t x) (all (past t x) R.frames) S) (sym a.told) R.lies in
        let z : size_of (shape f) ≡ size_of fr = ap size_of a.told in
        let D = subst (λ (x : Frame). Descs S.table u.protos (past t x).descs R.frames) (sym a.told) R.descs in
        record {
          frames = f ∷ R.frames;
          runs = next (ap (frame_step st) a.told ∙ r) R.runs;
          lies = lies-join t f R.frames S a.here l;
          descs = descs_join S.table t (told_as (ap (frame_step st) a.told ∙ r)) R.runs (agreed (on-frame st u fr r)) D;
          said = more a.said R.said;
          size = omega (arith, R.size, size-first f R.frames);
          short = R.short;
        }

    cut : (n : ℕ) {fs : List F} → Runs st (prototypes_of S.table) fs → Stands t (all t fs) S → AllSaid fs
        → Descs S.table st.protos t.descs fs → b + length (written fs) ≡ n → n ≤ 65536 → Rest (past t fr) u (b + size_of fr) n S
    cut n (last g h) l ys D s o =
        let c = ap (frame_step st) (head (last g h) ys l D) in
        let z : ◌≡◌ {A = ℕ} 0 1 = cc in
        absurd (omega arith)
    cut n (next {u = v} {f = g} {fs} p h) l (more y ys) D s o =
        let x = head (next p h) (more y ys) l D in
        let z : size_of (shape g) ≡ size_of fr = ap size_of x in
        let c : frame_step st (shape g) ≡ frame_step st fr = ap (frame_step st) x in
        let d : v ≡ u = cc in
        record {
          frames = fs;
          runs = subst (λ (w : Counts). Runs w (prototypes_of S.table) fs) d h;
          lies = subst (λ (w : Frame). Stands (past t w) (all (past t w) fs) S) x (lies-rest t g fs S l);
          descs = subst (λ (w : Counts). Descs S.table w.protos (past t fr).descs fs) d
              (subst (λ (w : Frame). Descs S.table v.protos (past t w).descs fs) x (descs_rest S.table t (told_as p) h D));
          said = ys;
          size = omega (arith, size-first g fs);
          short = o;
        }

    pub walk_on : Walk (past t fr) u (b + size_of fr) S
    walk_on =
        let a = there (on-frame st u fr r) in
        let k = kept t (told_as {f = f} (ap (frame_step st) a.told ∙ r)) T.walk.entries T.walk.few in
        let g = grown t fr b T.walk.texts T.walk.codes T.walk.consts in
        record {
          back = λ n R. T.walk.back n (join n R);
          forth = λ n R. let Q = T.walk.forth n R in cut n Q.runs Q.lies Q.said Q.descs Q.size Q.short;
          entries = rw a.told at k.0;
          few = k.1;
          inside = rw a.told at (past_texts t f S T.walk.inside a.here);
          texts = g.0;
          codes = g.1.0;
          consts = g.1.1;
          descs = descs_grown t fr b T.walk.descs;
          held =
              rw a.told at
              (held_on t S (told_as {f = f} (ap (frame_step st) a.told ∙ r)) T.walk.entries T.walk.held (rw a.told a.left));
        }

  -- ---- it is refused: no image is left

  refuse : (k : ReadError) → frame_step st fr ≡ No k → {q : ℕ} {fs : List F} → Runs st q fs → Stands t (all t fs) S → AllSaid fs
      → Descs S.table st.protos t.descs fs → ⊥
  refuse k r (last g h) l ys D = let c = ap (frame_step st) (head (last g h) ys l D) in let z : ◌≡◌ {A = ℕ} 0 1 = cc in omega arith
  refuse k r (next g h) l ys D = let c = ap (frame_step st) (head (next g h) ys l D) in let z : ◌≡◌ {A = ℕ} 0 1 = cc in omega arith

  pub walk_no : (k : ReadError) → frame_step st fr ≡ No k → (n : ℕ) → Whole n S → ⊥
  walk_no k r n R = let Q = T.walk.forth n R in refuse k r Q.runs Q.lies Q.said Q.descs

  -- ---- it is the last: the image ends here

  module _ (r : frame_step st fr ≡ Done) where
    pub walk_end : b + size_of fr ≤ 65536 → prototypes_of S.table ≡ st.protos → Whole (b + size_of fr) S
    walk_end h p =
        let a = there (done-frame st fr r) in
        let z : size_of (shape f) ≡ size_of fr = ap size_of a.told in
        T.walk.back (b + size_of fr)
        (record {
          frames = f ∷ [];
          runs = last (ap (frame_step st) a.told ∙ r) (sym p);
          lies = lies-join t f [] S a.here (lies-none (past t (shape f)) S);
          descs = descs_last S.table t.descs (told_as (ap (frame_step st) a.told ∙ r)) (agreed (done-frame st fr r));
          said = more a.said none;
          size = omega (arith, size-first f [], size-nil);
          short = h;
        })

    ends-here : {n : ℕ} {fs : List F} → Runs st (prototypes_of S.table) fs → Stands t (all t fs) S → AllSaid fs
        → Descs S.table st.protos t.descs fs → b + length (written fs) ≡ n → (n ≡ b + size_of fr) × (prototypes_of S.table ≡ st.protos)
    ends-here (last {f = g} p h) l ys D s =
        let x = head (last p h) ys l D in
        let z : size_of (shape g) ≡ size_of fr = ap size_of x in
        (omega (arith, size-first g [], size-nil), sym h)
    ends-here (next p h) l ys D s =
        let c = ap (frame_step st) (head (next p h) ys l D) in
        let z : ◌≡◌ {A = ℕ} 0 1 = cc in
        absurd (omega arith)

    pub walk_only : (n : ℕ) → Whole n S → (b + size_of fr ≤ 65536) × (prototypes_of S.table ≡ st.protos)
    walk_only n R =
        let Q = T.walk.forth n R in
        let h = ends-here Q.runs Q.lies Q.said Q.descs Q.size in
        (omega (arith, h.0, Q.short), h.1)
