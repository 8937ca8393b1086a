-- `checker::search` meets its contract: what is left of the search, done from here, is the whole of it. A turn's laws are in proofs/Turns,
-- those of instructions past the code's end in proofs/Past. Assumes nothing.
use Rattle.std.proofs.Common.{sym, ◌∙◌, ◌<◌, ◌≤◌, arith}
use Rattle.checker.proofs.Turns.{turn-good, turn-bad, code-end, search-none, search-start, proto_empty, proto_open, search-end}
use Rattle.checker.proofs.search.Goals as goal

pub returns-then-prototypes-eq0 : goal.returns-then-prototypes-eq0
returns-then-prototypes-eq0 c = rw c.at.ensures (search-none _ _ _ c.prototypes-prototypes.ensures c.if-prototypes-eq0.true)

pub loop-q-init : goal.loop-q-init
loop-q-init c = search-start _ _ _ c.prototypes-prototypes.ensures c.if-prototypes-eq0.false

pub returns-then-instructions-eq0 : goal.returns-then-instructions-eq0
returns-then-instructions-eq0 c =
    rw c.at-then-instructions-eq0.ensures
    (sym (c.loop-q.invariant ∙ proto_empty _ _ _ _ _ c.instructions-instructions.ensures c.loop-q-test.true c.if-instructions-eq0.true))

pub loop-i-init : goal.loop-i-init
loop-i-init c = c.loop-q.invariant ∙ proto_open _ _ _ _ _ c.instructions-instructions.ensures c.loop-q-test.true c.if-instructions-eq0.false

pub returns-in-Err : goal.returns-in-Err
returns-in-Err c =
    let h : c.loop-i.i < c.instructions-instructions.result = omega (arith, c.room-inside.ensures.most, c.loop-i-test.true) in
    sym (c.loop-i.invariant ∙ turn-bad _ _ _ _ _ _ _ c.check_at.ensures h _ c.in-Err.is)

pub loop-i-preserved : goal.loop-i-preserved
loop-i-preserved c =
    let h : c.loop-i.i < c.instructions-instructions.result = omega (arith, c.room-inside.ensures.most, c.loop-i-test.true) in
    c.loop-i.invariant ∙ turn-good _ _ _ _ _ _ _ c.check_at.ensures h c.in_default.not-Err

pub loop-q-preserved : goal.loop-q-preserved
loop-q-preserved c =
    let h : c.instructions-instructions.result ≤ c.loop-i.i = omega (arith, c.loop-i-test.false, c.if-inside-instructions.false) in
    c.loop-i.invariant ∙ code-end _ _ _ _ _ _ h

pub returns-after-loop-q : goal.returns-after-loop-q
returns-after-loop-q c = sym (c.loop-q.invariant ∙ search-end _ _ _ _ c.loop-q-test.false)
