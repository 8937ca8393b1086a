-- `writer::put_descriptors` meets its contract. The loop's invariant: the descriptors that are left, put from here, give the whole. The measure is how many
-- are left. Assumes nothing.
use native.Mathlib.Omega.{arith}
use mathlib.Core.List.{[]}
use Rattle.storage.specs.Layout.{Storage, storage}
use Rattle.writer.proofs.Puts.{left-start, left-room, left-more, left-done}
use Rattle.writer.proofs.FramePuts.{descs_each, desc-turn, each_start, each-done}
use Rattle.writer.proofs.put_descriptors.Goals as goal
use Rattle.writer.proofs.put_descriptors.Goals.{Start}

-- the lent table
abbrev lent : Start → Storage
lent s = storage s.args.table.now [] [] [] []

pub loop-i-init : goal.loop-i-init
loop-i-init c =
    let s = (goal.at.loop-i-init c).Start in
    left-start c.args.out.now c.args.at _ _ (each_start (descs_each (lent s) c.args.q) c.args.n 0)

pub overflow_cast-w : goal.overflow_cast-w
overflow_cast-w c =
    omega (arith, c.descriptor-w.ensures, c.requires.0 c.loop-i.i c.loop-i-test.true)

pub put_desc-to-requires : goal.put_desc-to-requires
put_desc-to-requires c =
    let a = c.args in
    left-room c.loop-i.invariant c.requires.1 (desc-turn a.table.now a.q a.n c.loop-i.i _ c.loop-i-test.true c.descriptor-w.ensures)

pub overflow_add-i : goal.overflow_add-i
overflow_add-i c = omega arith

pub loop-i-smaller : goal.loop-i-smaller
loop-i-smaller c = omega arith

pub loop-i-preserved : goal.loop-i-preserved
loop-i-preserved c =
    let a = c.args in
    left-more c.loop-i.invariant (desc-turn a.table.now a.q a.n c.loop-i.i _ c.loop-i-test.true c.descriptor-w.ensures) c.put_desc-to.ensures

pub shape_of-out : goal.shape_of-out
shape_of-out c = c.loop-i.invariant.same

pub returns : goal.returns
returns c =
    let s = (goal.at.returns c).Start in
    let o = c.loop-i in
    left-done o.invariant (each-done (descs_each (lent s) c.args.q) c.args.n 0 o.i c.loop-i-test.false)
