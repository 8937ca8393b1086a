-- `reader::hex::digit` meets its contract: a small difference from 0 or from a says which digit, and no other byte has one. Assumes nothing.
use Rattle.std.proofs.Common.{sym, arith, le-leb}
use borrow.Author.Tests.{lt-leb}
use Rattle.image.specs.Hex.{digit_of}
use Rattle.reader.proofs.HexLaws.{digit-none}
use Rattle.reader.proofs.hex.digit.Goals as goal

pub returns-then-d-lt10 : goal.returns-then-d-lt10
unfolding digit_of
returns-then-d-lt10 c = let b = c.args.b in simp (le-leb 48 b (omega arith), le-leb b 57 (omega arith)) (omega arith)

pub returns-then-l-lt6 : goal.returns-then-l-lt6
unfolding digit_of
returns-then-l-lt6 c =
    let b = c.args.b in
    simp (le-leb 48 b (omega arith), lt-leb b 57 (omega arith), le-leb 97 b (omega arith), le-leb b 102 (omega arith)) (omega arith)

pub returns : goal.returns
returns c = sym (digit-none c.args.b (λ h. omega (arith, c.wrapping_sub_u8-d.type_inv)) (λ h. omega (arith, c.wrapping_sub_u8-l.type_inv)))
