-- An instruction's five bytes, "operation, flags, a, b, c", as one number: from the lowest bits c, b, a, a byte each, then operation * 4 + flags % 4, then
-- flags / 4. So one look at the number above a, b, c tells the operation and the two flags that are in use. Assumes nothing.
use Rattle.std.specs.Prelude.{ℕ, ◌+◌, ◌*◌, ◌/◌, ◌%◌, ◌^◌, ◌<◌, ◌≡◌}

abbrev pub packed : ℕ → ℕ → ℕ → ℕ → ℕ → ℕ
packed operation flags a b c = c + b * 0x100 + a * 0x1_0000 + (operation * 4 + flags % 4) * 0x100_0000 + flags / 4 * 0x4_0000_0000

abbrev pub operation_of : ℕ → ℕ
operation_of w = w / 0x400_0000 % 256

abbrev pub flags_of : ℕ → ℕ
flags_of w = w / 0x100_0000 % 4 + w / 0x4_0000_0000 % 64 * 4

abbrev pub a_of : ℕ → ℕ
a_of w = w / 0x1_0000 % 256

abbrev pub b_of : ℕ → ℕ
b_of w = w / 0x100 % 256

abbrev pub c_of : ℕ → ℕ
c_of w = w % 256

-- ---- nothing is lost: each is the other's inverse (proofs/Packing)

-- w is the instruction of these five bytes
pub record Packs (operation flags a b c w : ℕ) : Type 0 where
  pub operation_back : operation_of w ≡ operation
  pub flags_back : flags_of w ≡ flags
  pub a_back : a_of w ≡ a
  pub b_back : b_of w ≡ b
  pub c_back : c_of w ≡ c
  pub fits : w < 2 ^ 40

-- the five bytes come back from the number that they are packed to
abbrev pub BytesBack : Type 0
BytesBack =
    (operation flags a b c : ℕ) → operation < 256 → flags < 256 → a < 256 → b < 256 → c < 256
    → Packs operation flags a b c (packed operation flags a b c)

-- and every number of 40 bits from its five bytes
abbrev pub NumberBack : Type 0
NumberBack = (w : ℕ) → w < 2 ^ 40 → packed (operation_of w) (flags_of w) (a_of w) (b_of w) (c_of w) ≡ w
