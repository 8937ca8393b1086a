-- `deletion::lines::value_line` meets its contract: case by case of the kind. Assumes nothing.
use Rattle.deletion.proofs.Said.{lined_as, string_said, function-said, nil-said, boolean_said, other-said}
use Rattle.deletion.proofs.lines.value_line.Goals as goal

pub returns-then-kind-eq4 : goal.returns-then-kind-eq4
returns-then-kind-eq4 c = let a = c.args in lined_as (string_said a.kind a.word a.text.now a.prototype c.if-kind-eq4.true) c.write_line.ensures

pub returns-then-kind-eq5 : goal.returns-then-kind-eq5
returns-then-kind-eq5 c = let a = c.args in lined_as (function-said a.kind a.word a.text.now a.prototype c.if-kind-eq5.true) c.byte_line.ensures

pub returns-then-kind-eq0 : goal.returns-then-kind-eq0
returns-then-kind-eq0 c = let a = c.args in lined_as (nil-said a.kind a.word a.text.now a.prototype c.if-kind-eq0.true) c.line.ensures

pub returns-then-kind-eq1 : goal.returns-then-kind-eq1
returns-then-kind-eq1 c = let a = c.args in lined_as (boolean_said a.kind a.word a.text.now a.prototype c.if-kind-eq1.true) c.byte_line-then-kind-eq1.ensures

pub returns : goal.returns
returns c = let a = c.args in lined_as (other-said a.kind a.word a.text.now a.prototype c.if-kind-eq4.false c.if-kind-eq5.false c.if-kind-eq0.false c.if-kind-eq1.false) c.word_line.ensures
