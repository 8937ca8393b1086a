-- For the code's own steps: an instruction's bytes, a place to go next and whether it lies inside, and the answer at a shape that is known already.
-- Assumes nothing.
use Rattle.std.specs.Prelude.{ℕ, ◌≡◌, cond, eqb, ltb, ℤ, pos, negsuc, Option, Some, None}
use Rattle.image.specs.Instruction.{flags_of, a_of, b_of, c_of}
use Rattle.checker.specs.Operations.{Shape}
use Rattle.checker.specs.Rules.{broken_as}
use Rattle.checker.specs.declared.Site.{Site}
use Rattle.checker.specs.declared.operands.Bytes.{Bytes}
use Rattle.checker.specs.declared.Instruction.{Instruction}
use Rattle.checker.specs.declared.Instruction.TheVariants as instruction

-- x holds the bytes of w
pub record BytesOf (w : ℕ) (x : Bytes) : Type 0 where
  pub flags : x.flags ≡ flags_of w
  pub a : x.a ≡ a_of w
  pub b : x.b ≡ b_of w
  pub c : x.c ≡ c_of w

-- a place z, if it lies in 0 to n - 1
unfoldable pub place_in : ℕ → ℤ → Option ℕ
place_in n (pos k) = cond (ltb k n) (Some k) None
place_in n (negsuc k) = None

-- an instruction, or its refusal where it breaks rule n
unfoldable pub judged : ℕ → Instruction → Instruction
judged n i = cond (eqb n 0) i (instruction.Bad n)

-- `decode_of` at a shape whose operands are i
abbrev pub decode_as : Shape → Site → Instruction → Instruction
decode_as x s i = judged (broken_as x s) i
