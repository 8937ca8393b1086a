-- `reader::fill::put_frame` meets its contract: the enum's case tells the frame, and the stores are what it appends. Assumes nothing.
use Rattle.std.proofs.Common.{sym, ◌∙◌, arith}
use Rattle.image.specs.Frames.{frame_of}
use Rattle.reader.proofs.PutLaws.{from-shape, str-line, put-open, put-end, put_const, put-str, put-code, put-bad, put-desc}
use Rattle.reader.proofs.fill.put_frame.Goals as goal

pub overflow_add-top : goal.overflow_add-top
overflow_add-top c =
    let h = str-line _ _ (sym c.requires.f_value ∙ c.in-Str.is) in
    omega (arith, h.long, c.well_formed, c.requires.small.texts)

pub put_text-requires : goal.put_text-requires
put_text-requires c =
    let h = str-line _ _ (sym c.requires.f_value ∙ c.in-Str.is) in
    (h.pairs, h.long)

pub overflow_add-t-in-Str-2 : goal.overflow_add-t-in-Str-2
overflow_add-t-in-Str-2 c =
    let h = str-line _ _ (sym c.requires.f_value ∙ c.in-Str.is) in
    omega (arith, h.long, c.well_formed, c.requires.small.texts)

pub put_descriptor-requires : goal.put_descriptor-requires
put_descriptor-requires c =
    (omega (arith, c.opened_last.ensures, c.requires.small.entries), c.requires.small.descs)

pub returns-in-Open : goal.returns-in-Open
returns-in-Open c =
    let a = c.args in
    rw (c.put_none.ensures, c.put_entry.ensures, from-shape (frame_of a.line.now) _ (sym c.requires.f_value ∙ c.in-Open.is))
    (put-open a.t a.table.now a.code.now a.const_kinds.now a.const_words.now a.texts.now _ _)

pub returns-in-Const : goal.returns-in-Const
returns-in-Const c =
    let a = c.args in
    rw (c.put.ensures, c.put-in-Const.ensures, from-shape (frame_of a.line.now) _ (sym c.requires.f_value ∙ c.in-Const.is))
    (put_const a.t a.table.now a.code.now a.const_kinds.now a.const_words.now a.texts.now _ _)

pub returns-in-Str : goal.returns-in-Str
returns-in-Str c =
    let a = c.args in
    let h = str-line _ _ (sym c.requires.f_value ∙ c.in-Str.is) in
    rw (h.frame, c.put-in-Str.ensures, c.put-in-Str-2.ensures, c.put_text.ensures, h.bytes)
    (put-str a.t a.table.now a.code.now a.const_kinds.now a.const_words.now a.texts.now h.text _ h.count)

pub returns-in-Code : goal.returns-in-Code
returns-in-Code c =
    let a = c.args in
    rw (c.put-in-Code.ensures, from-shape (frame_of a.line.now) _ (sym c.requires.f_value ∙ c.in-Code.is))
    (put-code a.t a.table.now a.code.now a.const_kinds.now a.const_words.now a.texts.now _)

pub returns-in-End : goal.returns-in-End
returns-in-End c =
    let a = c.args in
    rw (c.put_entry-in-End.ensures, from-shape (frame_of a.line.now) _ (sym c.requires.f_value ∙ c.in-End.is))
    (put-end a.t a.table.now a.code.now a.const_kinds.now a.const_words.now a.texts.now _)

pub returns-in-Bad : goal.returns-in-Bad
returns-in-Bad c =
    let a = c.args in
    rw (from-shape (frame_of a.line.now) _ (sym c.requires.f_value ∙ c.in-Bad.is))
    (put-bad a.t a.table.now a.code.now a.const_kinds.now a.const_words.now a.texts.now _)

pub returns-in-Desc : goal.returns-in-Desc
returns-in-Desc c =
    let a = c.args in
    rw (c.put_descriptor.ensures, c.opened_last.ensures, from-shape (frame_of a.line.now) _ (sym c.requires.f_value ∙ c.in-Desc.is))
    (put-desc a.t a.table.now a.code.now a.const_kinds.now a.const_words.now a.texts.now _ _)
