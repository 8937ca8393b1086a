-- `writer::put_constant` meets its contract: a string's line or a word's, as `const_frame` has it. Assumes nothing.
use Prim.Native.Nat.{◌+◌}
use Rattle.writer.proofs.FramePuts.{string_frame, word-frame}
use Rattle.writer.proofs.put_constant.Goals as goal

pub put_string-requires : goal.put_string-requires
put_string-requires c =
    let a = c.args in
    rw
    (string_frame a.const_kinds.now a.const_words.now a.texts.now (a.first + a.i) _ _ c.get-kind.ensures c.get-w.ensures _
    c.text_at.ensures c.if-kind-eq4.true)
    at c.requires

pub returns-then-kind-eq4 : goal.returns-then-kind-eq4
returns-then-kind-eq4 c =
    let a = c.args in
    rw
    (string_frame a.const_kinds.now a.const_words.now a.texts.now (a.first + a.i) _ _ c.get-kind.ensures c.get-w.ensures _
    c.text_at.ensures c.if-kind-eq4.true)
    c.put_string.ensures

pub put_const-requires : goal.put_const-requires
put_const-requires c =
    let a = c.args in
    rw
    (word-frame a.const_kinds.now a.const_words.now a.texts.now (a.first + a.i) _ _ c.get-kind.ensures c.get-w.ensures
    c.if-kind-eq4.false)
    at c.requires

pub returns : goal.returns
returns c =
    let a = c.args in
    rw
    (word-frame a.const_kinds.now a.const_words.now a.texts.now (a.first + a.i) _ _ c.get-kind.ensures c.get-w.ensures
    c.if-kind-eq4.false)
    c.put_const.ensures
