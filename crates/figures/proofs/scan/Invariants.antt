use Rattle.std.proofs.Common.{◌≡◌, ◌+◌, ◌≤◌, length}
use Rattle.figures.specs.Texts.{digits, after_digits}
use Rattle.figures.specs.Steps.{tally}
use Rattle.figures.proofs.scan.Given as goal

abbrev pub invariant-loop-rest : goal.invariant-loop-rest
invariant-loop-rest l = record {
  zeros : l.t.zeros + length l.rest ≤ l.fn.before.zeros + length l.fn.s;
  count : l.t.count + length l.rest ≤ l.fn.before.count + length l.fn.s;
  tally : tally l.t (digits 10 l.rest) ≡ tally l.fn.before (digits 10 l.fn.s);
  after : after_digits 10 l.rest ≡ after_digits 10 l.fn.s;
}

abbrev pub decreases-loop-rest : goal.decreases-loop-rest
decreases-loop-rest l = length l.rest
