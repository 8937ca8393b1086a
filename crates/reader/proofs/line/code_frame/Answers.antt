-- `reader::line::code_frame` meets its contract: twelve digits are six bytes, and the five after the kind are packed. Assumes nothing.
use Rattle.std.proofs.Common.{ap, eq-eqb, ne_eqb}
use Rattle.image.specs.declared.Frame.TheVariants.{Code}
use Rattle.image.specs.Frames.{shape, code_bytes}
use Rattle.reader.proofs.HexLaws.{half, half-not}
use Rattle.reader.proofs.line.code_frame.Goals as goal

pub returns-then-s-eq12 : goal.returns-then-s-eq12
unfolding shape code_bytes
returns-then-s-eq12 c =
    rw (← c.byte_at-operation.ensures, ← c.byte_at-flags.ensures, ← c.byte_at-a.ensures, ← c.byte_at-b.ensures, ← c.byte_at-c.ensures)
    (simp (eq-eqb _ _ (half _ 6 c.requires c.if-s-eq12.true)) (ap Code c.pack.ensures))

pub returns : goal.returns
unfolding shape code_bytes
returns c = simp (ne_eqb _ _ (half-not _ 6 c.requires c.if-s-eq12.false))
