use Rattle.std.proofs.Common.{◌≡◌, ◌%◌, ◌^◌, length}
use Rattle.figures.specs.Texts.{digits, after_digits, value_from}
use Rattle.figures.proofs.scan_hex.Given as goal

abbrev pub invariant-loop-rest : goal.invariant-loop-rest
invariant-loop-rest l = record {
  value : value_from 16 l.value (digits 16 l.rest) % 2 ^ 64 ≡ value_from 16 0 (digits 16 l.fn.s) % 2 ^ 64;
  after : after_digits 16 l.rest ≡ after_digits 16 l.fn.s;
}

abbrev pub decreases-loop-rest : goal.decreases-loop-rest
decreases-loop-rest l = length l.rest
