-- What an effect puts into a register is a value of this image, where these are the frames. Get and Put copy a value, and Capture makes one. Assumes nothing.
use Rattle.std.specs.Prelude.{true, ◌≡◌, List, ℕ}
use Rattle.storage.specs.Layout.{Storage}
use Rattle.effects.specs.declared.Effect.{Effect}
use Rattle.effects.specs.declared.Effect.TheVariants.{Set, Goto, Clear, Loop, Enter, Leave, Fail, Fault, Get, Put, Close, Capture}
use Rattle.fitness.specs.Fit.{value_fits}

abbrev pub Holds : Storage → List ℕ → Effect → Type 0
Holds S f (Set r k w go) = value_fits S.table S.kinds f k w ≡ true
Holds S f (Goto go) = Unit {0}
Holds S f (Clear r n) = Unit {0}
Holds S f (Loop r k w t) = value_fits S.table S.kinds f k w ≡ true
Holds S f (Enter function arguments) = Unit {0}
Holds S f (Leave start n) = Unit {0}
Holds S f (Fail n named) = Unit {0}
Holds S f Fault = Unit {0}
Holds S f (Get dest upvalue) = Unit {0}
Holds S f (Put upvalue source) = Unit {0}
Holds S f (Close from target) = Unit {0}
Holds S f (Capture dest q) = Unit {0}
