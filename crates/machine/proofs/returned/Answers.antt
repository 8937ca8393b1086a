-- `machine::returned` meets its contract: what a finished machine's Return names, and what any other stands at. Assumes nothing.
use Rattle.machine.proofs.Returns.{not-finished, finished}
use Rattle.machine.proofs.returned.Goals as goal

pub returns-then-o-ne0 : goal.returns-then-o-ne0
returns-then-o-ne0 c = not-finished _ _ _ c.standing-o.ensures c.if-o-ne0.true

pub returns : goal.returns
returns c =
    finished _ _ _ c.standing-o.ensures c.if-o-ne0.false _ c.decoded-i.ensures _
    c.class_of.ensures _ c.named.ensures
