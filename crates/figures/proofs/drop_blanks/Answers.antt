-- `figures::drop_blanks` meets its contract: as many bytes are dropped as are blank. Assumes nothing.
use Rattle.std.proofs.Common.{◌∙◌, rules, tests}
use Rattle.std.proofs.lemmas.Iterator.{YieldsList-from_slice}
use Rattle.std.proofs.lemmas.Iterator.Consumers.{count_from_yields_List}
use Rattle.std.proofs.lemmas.Iterator.Search.{YieldsList-from_take_while}
use Rattle.std.proofs.lemmas.List.{take_rest}
use Rattle.std.proofs.lemmas.List.Folds.{length-prefix_len}
use Rattle.figures.specs.Texts.{blank}
use Rattle.figures.proofs.TextLaws.{blanks-counted}
use Rattle.figures.proofs.drop_blanks.Goals as goal

pub returns : goal.returns
returns c =
    let n =
    count_from_yields_List c.take_while.result _ c.count-n.ensures.ran
    (YieldsList-from_take_while _ blank (YieldsList-from_slice c.args.s.now cc) c.take_while.ensures.closure c.take_while.ensures.done (λ x b q k. search (rules, tests)))
    ∙ length-prefix_len blank c.args.s.now in
    rw (take_rest, n, blanks-counted)
