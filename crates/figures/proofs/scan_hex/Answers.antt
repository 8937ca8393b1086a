-- `figures::scan_hex` meets its contract: one digit more, modulo 2 ^ 64. Assumes nothing.
use Rattle.std.proofs.Common.{sym, ◌∙◌, arith}
use Rattle.figures.proofs.TextLaws.{digits-next, hex-value-next}
use Rattle.figures.proofs.scan_hex.Goals as goal

pub loop-rest-preserved : goal.loop-rest-preserved
loop-rest-preserved c =
    let next = digits-next 16 _ _ c.in-len1-up.len_at_least (sym c.digit.ensures ∙ c.in-Some.is) in record {
      value = hex-value-next c.loop-rest.value _ _ _ _ next.0 (omega arith) ∙ c.loop-rest.invariant.value;
      after = sym next.1 ∙ c.loop-rest.invariant.after;
    }
