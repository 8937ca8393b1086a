-- `figures::decimal_text` meets its contract: where no point follows the digits. Assumes nothing.
use Rattle.std.proofs.Common.{◌≡◌, false, get_or, ◌∙◌, arith}
use Rattle.std.proofs.lemmas.Grind.{common_steps}
use Rattle.figures.specs.Texts.{is_e}
use Rattle.figures.proofs.FigureLaws.{decimal-none, decimal-whole}
use Rattle.figures.proofs.decimal_text.Goals as goal

pub returns-then-t-eq0 : goal.returns-then-t-eq0
returns-then-t-eq0 c =
    decimal-none _ _ _ _ c.scan.ensures.tally c.scan.ensures.after (λ e. grind (arith, common_steps)) c.if-t-eq0.true

pub returns : goal.returns
returns c =
    let e : is_e (get_or c.scan.result.1.now 0 0) ≡ false = grind (arith, common_steps) in
    c.whole.ensures ∙ decimal-whole _ _ _ _ c.scan.ensures.tally c.scan.ensures.after (λ e. grind (arith, common_steps)) c.if-t-eq0.false e
