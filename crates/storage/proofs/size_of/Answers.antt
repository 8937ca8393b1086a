-- `storage::size_of` meets its contract, an arm of the match for each clause of `size_of`. Assumes nothing.
use mathlib.Core.Path.{refl}
use native.Mathlib.Omega.{arith}
use Rattle.storage.specs.Cursor.{size_of}
use Rattle.storage.proofs.Sizes.{payload-small, str-small}
use Rattle.storage.proofs.size_of.Goals as goal

pub overflow_mul-result : goal.overflow_mul-result
overflow_mul-result c = omega (arith, payload-small c.in-Const.k, c.payload_of.ensures)

pub overflow_add-result : goal.overflow_add-result
overflow_add-result c = omega (arith, payload-small c.in-Const.k, c.payload_of.ensures)

pub overflow_mul-result-in-Str : goal.overflow_mul-result-in-Str
overflow_mul-result-in-Str c =
    omega (arith, str-small _ c.in-Str.n c.requires c.in-Str.is)

pub overflow_add-result-in-Str : goal.overflow_add-result-in-Str
overflow_add-result-in-Str c =
    omega (arith, str-small _ c.in-Str.n c.requires c.in-Str.is)

pub returns-in-Open : goal.returns-in-Open
unfolding size_of
returns-in-Open c = rw c.in-Open.is refl

pub returns-in-Const : goal.returns-in-Const
unfolding size_of
returns-in-Const c = rw (c.in-Const.is, c.payload_of.ensures) refl

pub returns-in-Str : goal.returns-in-Str
unfolding size_of
returns-in-Str c = rw c.in-Str.is refl

pub returns-in-Code : goal.returns-in-Code
unfolding size_of
returns-in-Code c = rw c.in-Code.is refl

pub returns-in-End : goal.returns-in-End
unfolding size_of
returns-in-End c = rw c.in-End.is refl

pub returns-in-Bad : goal.returns-in-Bad
unfolding size_of
returns-in-Bad c = rw c.in-Bad.is refl

pub returns-in-Desc : goal.returns-in-Desc
unfolding size_of
returns-in-Desc c = rw c.in-Desc.is refl
