-- `storage::past_of` meets its contract, an arm of the match for each clause of `past`. Assumes nothing.
use mathlib.Core.Path.{refl}
use native.Mathlib.Omega.{arith}
use Rattle.storage.specs.Cursor.{past}
use Rattle.storage.proofs.Sizes.{str-small}
use Rattle.storage.proofs.past_of.Goals as goal

pub overflow_add-result-in-Str-2 : goal.overflow_add-result-in-Str-2
overflow_add-result-in-Str-2 c = omega (arith, str-small _ c.in-Str.n c.requires.0 c.in-Str.is)

pub returns-in-Open : goal.returns-in-Open
unfolding past
returns-in-Open c = rw c.in-Open.is refl

pub returns-in-Const : goal.returns-in-Const
unfolding past
returns-in-Const c = rw c.in-Const.is refl

pub returns-in-Str : goal.returns-in-Str
unfolding past
returns-in-Str c = rw c.in-Str.is refl

pub returns-in-Code : goal.returns-in-Code
unfolding past
returns-in-Code c = rw c.in-Code.is refl

pub returns-in-End : goal.returns-in-End
unfolding past
returns-in-End c = rw c.in-End.is refl

pub returns-in-Bad : goal.returns-in-Bad
unfolding past
returns-in-Bad c = rw c.in-Bad.is refl

pub returns-in-Desc : goal.returns-in-Desc
unfolding past
returns-in-Desc c = rw c.in-Desc.is refl
