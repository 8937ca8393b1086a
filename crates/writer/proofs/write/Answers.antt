-- `writer::write` meets its contract: each return is one of the four answers, by what was tested before it. Assumes nothing.
use mathlib.Core.Path.{◌≡◌, sym, ◌∙◌}
use mathlib.Core.Bool.{true}
use native.Mathlib.Omega.{arith}
use Rattle.storage.specs.Layout.{Storage, storage, long_enough}
use Rattle.storage.proofs.Six.{readable}
use Rattle.writer.proofs.Narrow.{narrow}
use Rattle.writer.proofs.Answers.{valid-bytes, short, six, small, bytes}
use Rattle.std.proofs.lemmas.Bool.{not_from_false}
use Rattle.writer.proofs.write.Goals as goal
use Rattle.writer.proofs.write.Goals.{After-valid, Start}

-- the lent storage
abbrev lent : Start → Storage
lent s =
    storage s.args.table.now s.args.code.now s.args.const_kinds.now s.args.const_words.now s.args.texts.now

pub returns-then-not-is_long_enough : goal.returns-then-not-is_long_enough
returns-then-not-is_long_enough c =
    let s = (goal.at.returns-then-not-is_long_enough c).Start in
    short (lent s) c.args.out.now _ c.is_long_enough.ensures (not_from_false _ c.if-not-is_long_enough.true)

long :
    (c : After-valid)
    → long_enough (storage c.args.table.now c.args.code.now c.args.const_kinds.now c.args.const_words.now c.args.texts.now) ≡ true
long c = sym c.is_long_enough.ensures ∙ c.if-not-is_long_enough.false

pub returns-then-out-n : goal.returns-then-out-n
returns-then-out-n c =
    let s = (goal.at.returns-then-out-n c).Start in
    small (lent s) s.args.out.now (long (goal.at.returns-then-out-n c).After-valid) _ c.valid.ensures _ c.in-Some.is c.if-out-n.true

pub put_image-requires : goal.put_image-requires
put_image-requires c =
    let s = (goal.at.put_image-requires c).Start in
    let b = valid-bytes (lent s) _ c.valid.ensures _ c.in-Some.is in
    let n = narrow (readable (lent s) b.0) in
    (n.0, (n.1, omega (arith, b.1, c.if-out-n.false)))

pub returns-in_default : goal.returns-in_default
returns-in_default c =
    let s = (goal.at.returns-in_default c).Start in
    six (lent s) s.args.out.now (long (goal.at.returns-in_default c).After-valid) _ c.valid.ensures c.in_default.is

pub returns : goal.returns
returns c =
    let s = (goal.at.returns c).Start in
    bytes (lent s) s.args.out.now (long (goal.at.returns c).After-valid) _ c.valid.ensures _ _ _ c.in-Some.is
    c.if-out-n.false c.put_image.ensures
