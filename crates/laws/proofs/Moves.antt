-- Where an activation goes on: at an instruction that is there, and after a Call at the one after it. Assumes nothing.
use mathlib.Core.Path.{◌≡◌}
use Prim.Native.Nat.{ℕ, ◌+◌, ◌<◌, ◌≤◌}
use native.Mathlib.Omega.{arith}
use borrow.Author.Tests.{lt-ltb}
use Rattle.state.specs.Record.{following}
use Rattle.state.specs.declared.Activation.{Activation}
use Rattle.state.proofs.Windows.{following-most}
use Rattle.effects.specs.declared.Go.{Go}
use Rattle.effects.specs.declared.Go.TheVariants.{Next, Skip, To}
use Rattle.reach.specs.Suits.{Goes}
use Rattle.step.specs.Step.{placed}

pub following-small : (p : ℕ) → p ≤ 65536 → following p ≡ p + 1
following-small p h = rw (lt-ltb p 0xffff_ffff_ffff_ffff (omega arith))

pub placed-there : (a : Activation) (n : ℕ) (go : Go) → Goes n a.instruction go → (placed a go).instruction < n
unfolding placed
placed-there a n Next h = omega (arith, following-most a.instruction)
placed-there a n Skip h = omega (arith, following-most a.instruction, following-most (following a.instruction))
placed-there a n (To t) h = h
