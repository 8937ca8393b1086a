-- A lent slice, as contracts name it: what it holds when the function is called (`entry`) and when it returns (`exit`); one for a `&`, one for a `&mut`. Assumes nothing.
use Rattle.std.specs.Prelude.{ℕ, List}
use Rattle.std.specs.Borrow.{Bor, MutBor}
use denote.Triple.Both.{Both}

abbrev pub Slice : Type 0
Slice = Both (Bor (List ℕ)) (Bor (List ℕ))

abbrev pub MutSlice : Type 0
MutSlice = Both (MutBor (List ℕ)) (MutBor (List ℕ))

-- what it holds: before, where it is lent to be read; before and after, where it is lent to be written
abbrev pub seen : Slice → List ℕ
seen s = s.entry.now

abbrev pub at_call : MutSlice → List ℕ
at_call s = s.entry.now

abbrev pub at_return : MutSlice → List ℕ
at_return s = s.exit.now
