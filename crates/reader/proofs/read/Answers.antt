-- `reader::read` meets its contract: what the tests, the judge and the filling say is what each return asks. Assumes nothing.
use Rattle.std.proofs.Common.{sym, ◌∙◌}
use Rattle.reader.proofs.Bounds.{sizes_suffice}
use Rattle.reader.proofs.Contents.{too_short, refused_read, accepted}
use Rattle.reader.proofs.read.Goals as goal

pub returns-then-not-is_long_enough : goal.returns-then-not-is_long_enough
returns-then-not-is_long_enough c = too_short _ _ (sym c.is_long_enough.ensures ∙ c.if-not-is_long_enough.true)

pub returns-in_err-n : goal.returns-in_err-n
returns-in_err-n c =
    refused_read _ _ _ _ c.from_residual.ensures.1 (sym c.is_long_enough.ensures ∙ c.if-not-is_long_enough.false) (sym c.in_err-n.ensures)

pub fill_all-requires : goal.fill_all-requires
fill_all-requires c = sizes_suffice _ _ (sym c.in_ok-n.ensures)

pub returns : goal.returns
returns c =
    accepted _ _ _ _ _ _ _ (sym c.is_long_enough.ensures ∙ c.if-not-is_long_enough.false) (sym c.in_ok-n.ensures) _ _ _ _ _ c.fill_all.ensures
