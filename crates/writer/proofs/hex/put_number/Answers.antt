-- `writer::hex::put_number` meets its contract. The loop's invariant: the bytes that are left, put before those that stand, are the whole number. The measure
-- is how many are left. Assumes nothing.
use Prim.Native.Nat.{ℕ, suc, ◌+◌, ◌-◌, ◌%◌}
use native.Mathlib.Omega.{arith}
use mathlib.Core.Path.{◌≡◌, refl, sym, ap, ◌∙◌}
use Rattle.writer.proofs.Puts.{put-length}
use Rattle.writer.proofs.HexPuts.{number_size, number-turn, number-done, one_size}
use Rattle.writer.proofs.hex.put_number.Goals as goal

pub loop-k-init : goal.loop-k-init
loop-k-init c = (omega arith, (refl, refl))

pub overflow_sub-k : goal.overflow_sub-k
overflow_sub-k c = omega arith

pub overflow_mul-k : goal.overflow_mul-k
overflow_mul-k c = let a = c.args in omega (arith, number_size a.n a.w)

pub overflow_add-at : goal.overflow_add-at
overflow_add-at c = let a = c.args in omega (arith, number_size a.n a.w)

pub overflow_cast-x : goal.overflow_cast-x
overflow_cast-x c = omega arith

pub put_hex-requires : goal.put_hex-requires
put_hex-requires c = let a = c.args in omega (arith, number_size a.n a.w, one_size (c.loop-k.x % 256))

pub loop-k-smaller : goal.loop-k-smaller
loop-k-smaller c = omega arith

pub loop-k-preserved : goal.loop-k-preserved
loop-k-preserved c =
    let a = c.args in
    let o = c.loop-k in
    let p = c.put_hex.ensures in
    let e : suc (o.k - 1) ≡ o.k = omega arith in (
      omega arith,
      (put-length p ∙ o.invariant.1.0, number-turn o.out _ a.at (o.k - 1) o.x _ p ∙ rw e o.invariant.1.1),
    )

pub overflow_mul-result : goal.overflow_mul-result
overflow_mul-result c = let a = c.args in omega (arith, number_size a.n a.w)

pub overflow_add-result : goal.overflow_add-result
overflow_add-result c = let a = c.args in omega (arith, number_size a.n a.w)

pub shape_of-out : goal.shape_of-out
shape_of-out c = c.loop-k.invariant.1.0

pub returns : goal.returns
returns c =
    let a = c.args in
    let o = c.loop-k in
    record {
      next = ap (λ (m : ℕ). a.at + m) (sym (number_size a.n a.w));
      left = number-done o.out a.at o.k o.x (omega arith) ∙ o.invariant.1.1;
    }
