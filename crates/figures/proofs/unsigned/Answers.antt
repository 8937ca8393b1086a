-- `figures::unsigned` meets its contract: where no 0x begins the text, it is decimal. Assumes nothing.
use Rattle.std.proofs.Common.{◌≡◌, ◌&&◌, eqb, false, get_or, ◌∙◌, arith}
use Rattle.std.proofs.lemmas.Grind.{common_steps}
use Rattle.figures.specs.Texts.{is_x}
use Rattle.figures.specs.Figures.{unsigned}
use Rattle.figures.proofs.TextLaws.{first-is, second-is}
use Rattle.figures.proofs.unsigned.Goals as goal

pub returns : goal.returns
unfolding unsigned
returns c =
    let x : eqb (get_or c.args.s.now 0 0) 48 && is_x (get_or c.args.s.now 1 0) ≡ false = grind (arith, common_steps) in
    c.decimal_text.ensures ∙ rw (← first-is c.args.s.now, ← second-is c.args.s.now, x)
