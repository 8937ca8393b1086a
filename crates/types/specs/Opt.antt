-- "`Opt254`, `VarCount`; 255 is none." Assumes nothing.
use Rattle.std.specs.Prelude.{cond, ℕ, eqb, Option, Some, None}
use Rattle.types.specs.declared.Opt254.{Opt254}
use Rattle.types.specs.declared.VarCount.{VarCount}

-- what it holds
abbrev pub held_by : Opt254 → Option ℕ
held_by o = cond (eqb o.byte 255) None (Some o.byte)

-- what can be held: any number but 255, and none
abbrev pub try_new : Option ℕ → Option Opt254
try_new (Some b) = cond (eqb b 255) None (Some (record { byte = b }))
try_new None = Some (record { byte = 255 })

abbrev pub try_constant : ℕ → Option VarCount
try_constant n = cond (eqb n 255) None (Some (record { count = record { byte = n } }))
