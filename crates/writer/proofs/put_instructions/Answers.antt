-- `writer::put_instructions` meets its contract. The loop's invariant: the instructions that are left, put from here, give the whole. The measure is how many
-- are left. Assumes nothing.
use native.Mathlib.Omega.{arith}
use mathlib.Core.List.{[]}
use Rattle.storage.specs.Layout.{Storage, storage}
use Rattle.writer.proofs.Puts.{left-start, left-room, left-more, left-done}
use Rattle.writer.proofs.FramePuts.{codes-each, each_start, each_turn, each-done}
use Rattle.writer.proofs.put_instructions.Goals as goal
use Rattle.writer.proofs.put_instructions.Goals.{Start}

-- the lent instructions
abbrev lent : Start → Storage
lent s = storage [] s.args.code.now [] [] []

pub loop-i-init : goal.loop-i-init
loop-i-init c =
    let s = (goal.at.loop-i-init c).Start in
    left-start c.args.out.now c.args.at _ _ (each_start (codes-each (lent s)) c.args.n c.args.first)

pub put_code-to-requires : goal.put_code-to-requires
put_code-to-requires c =
    let s = (goal.at.put_code-to-requires c).Start in
    let o = c.loop-i in
    rw c.get.ensures
    (left-room o.invariant c.requires
    (each_turn (codes-each (lent s)) c.args.n c.args.first o.i c.loop-i-test.true))

pub overflow_add-i : goal.overflow_add-i
overflow_add-i c = omega arith

pub loop-i-smaller : goal.loop-i-smaller
loop-i-smaller c = omega arith

pub loop-i-preserved : goal.loop-i-preserved
loop-i-preserved c =
    let s = (goal.at.loop-i-preserved c).Start in
    let o = c.loop-i in
    left-more o.invariant (each_turn (codes-each (lent s)) c.args.n c.args.first o.i c.loop-i-test.true)
    (rw c.get.ensures at c.put_code-to.ensures)

pub shape_of-out : goal.shape_of-out
shape_of-out c = c.loop-i.invariant.same

pub returns : goal.returns
returns c =
    let s = (goal.at.returns c).Start in
    let o = c.loop-i in
    left-done o.invariant (each-done (codes-each (lent s)) c.args.n c.args.first o.i c.loop-i-test.false)
