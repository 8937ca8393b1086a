-- `writer::hex::digit_of` meets its contract: its test is that of `hex_digit`. Assumes nothing.
use borrow.Author.Tests.{lt-ltb, le-ltb}
use Rattle.image.specs.Write.{hex_digit}
use Rattle.writer.proofs.hex.digit_of.Goals as goal

pub returns-then-n-lt10 : goal.returns-then-n-lt10
unfolding hex_digit
returns-then-n-lt10 c = simp (lt-ltb _ _ c.if-n-lt10.true)

pub returns : goal.returns
unfolding hex_digit
returns c = simp (le-ltb _ _ c.if-n-lt10.false)
