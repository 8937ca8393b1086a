-- An instruction's number and its five bytes: each byte comes back, and so does every number below 2^40. Assumes nothing.
use Prim.Native.Nat.{ℕ, ◌+◌, ◌*◌, ◌/◌, ◌%◌, ◌<◌}
use native.Mathlib.Omega.{arith}
use mathlib.Core.Path.{◌≡◌, refl, sym}
use Rattle.image.specs.Instruction.{packed, BytesBack, NumberBack}

-- the highest part of a sum of three, above 34 bits
top : (l m n : ℕ) → l < 0x100_0000 → m < 0x400 → (l + m * 0x100_0000 + n * 0x4_0000_0000) / 0x4_0000_0000 ≡ n
top l m n g h = omega arith

pub packed-back : BytesBack
packed-back o f a b c o< f< a< b< c< =
    record {
      operation_back = omega arith;
      flags_back =
          let low : packed o f a b c / 0x100_0000 % 4 ≡ f % 4 = omega arith in
          let high : packed o f a b c / 0x4_0000_0000 ≡ f / 4 =
          top (c + b * 0x100 + a * 0x1_0000) (o * 4 + f % 4) (f / 4) (omega arith) (omega arith) in
          rw (low, high) (omega arith);
      a_back = omega arith;
      b_back = omega arith;
      c_back = omega arith;
      fits = omega arith;
    }

-- the number is cut off byte by byte, but for the two low flags, which stand below the operation
cut : (w x y z u v : ℕ) → x ≡ w / 256 → y ≡ x / 256 → z ≡ y / 256 → u ≡ z / 4 → v ≡ u / 256
    → w ≡ w % 256 + x % 256 * 0x100 + y % 256 * 0x1_0000 + (u % 256 * 4 + z % 4) * 0x100_0000 + v * 0x4_0000_0000
cut w x y z u v e f g h i = omega arith

low : (x y : ℕ) → (x % 4 + y % 64 * 4) % 4 ≡ x % 4
low x y = omega arith

high : (x y : ℕ) → y < 64 → (x % 4 + y % 64 * 4) / 4 ≡ y
high x y h = omega arith

pub packed-fields : NumberBack
packed-fields w h =
    rw (low (w / 0x100_0000) (w / 0x4_0000_0000), high (w / 0x100_0000) (w / 0x4_0000_0000) (omega arith))
    (sym
    (cut w (w / 0x100) (w / 0x1_0000) (w / 0x100_0000) (w / 0x400_0000) (w / 0x4_0000_0000) refl (omega arith) (omega arith) (omega arith)
    (omega arith)))
