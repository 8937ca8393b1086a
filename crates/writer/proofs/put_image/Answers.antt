-- `writer::put_image` meets its contract. The loop's invariant: the prototypes that are left and the last line, put from here, give the whole. The measure is how
-- many prototypes are left. Assumes nothing.
use Prim.Native.Nat.{◌≤◌, ◌<◌}
use native.Mathlib.Omega.{arith}
use mathlib.Core.Path.{◌∙◌}
use Rattle.storage.specs.Layout.{Storage, storage}
use Rattle.storage.specs.Fields.{prototypes_of}
use Rattle.writer.proofs.Puts.{left-start, left-room, left-more, left-done}
use Rattle.writer.proofs.FramePuts.{protos_start, protos_turn, protos_last, written_none}
use Rattle.writer.proofs.put_image.Goals as goal
use Rattle.writer.proofs.put_image.Goals.{Start}

-- the lent storage
abbrev lent : Start → Storage
lent s =
    storage s.args.table.now s.args.code.now s.args.const_kinds.now s.args.const_words.now s.args.texts.now

pub loop-q-init : goal.loop-q-init
loop-q-init c =
    let s = (goal.at.loop-q-init c).Start in
    left-start c.args.out.now 0 _ _ (protos_start (lent s))

pub put_prototype-to-requires : goal.put_prototype-to-requires
put_prototype-to-requires c =
    let s = (goal.at.put_prototype-to-requires c).Start in
    let o = c.loop-q in
    let h : o.q < prototypes_of c.args.table.now = omega (arith, c.loop-q-test.true, c.prototypes-n.ensures) in
    (c.requires.1.0 o.q h, left-room o.invariant c.requires.1.1 (protos_turn (lent s) o.q h))

pub overflow_add-q : goal.overflow_add-q
overflow_add-q c = omega arith

pub loop-q-smaller : goal.loop-q-smaller
loop-q-smaller c = omega arith

pub loop-q-preserved : goal.loop-q-preserved
loop-q-preserved c =
    let s = (goal.at.loop-q-preserved c).Start in
    let o = c.loop-q in
    let h : o.q < prototypes_of c.args.table.now = omega (arith, c.loop-q-test.true, c.prototypes-n.ensures) in
    left-more o.invariant (protos_turn (lent s) o.q h) c.put_prototype-to.ensures

pub overflow_cast-n : goal.overflow_cast-n
overflow_cast-n c = omega (arith, c.requires.0, c.prototypes-n.ensures)

pub put_end-requires : goal.put_end-requires
put_end-requires c =
    let s = (goal.at.put_end-requires c).Start in
    let o = c.loop-q in
    let h : prototypes_of c.args.table.now ≤ o.q = omega (arith, c.loop-q-test.false, c.prototypes-n.ensures) in
    rw c.prototypes-n.ensures (left-room o.invariant c.requires.1.1 (protos_last (lent s) o.q h))

pub shape_of-out : goal.shape_of-out
shape_of-out c = c.put_end.auto.out ∙ c.loop-q.invariant.same

pub returns : goal.returns
returns c =
    let s = (goal.at.returns c).Start in
    let o = c.loop-q in
    let h : prototypes_of c.args.table.now ≤ o.q = omega (arith, c.loop-q-test.false, c.prototypes-n.ensures) in
    left-done
    (left-more o.invariant (protos_last (lent s) o.q h) (rw c.prototypes-n.ensures at c.put_end.ensures))
    written_none
