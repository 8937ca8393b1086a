-- Cases of an order, of a test and of a choice, and tests joined by `&` and `|`. Assumes nothing.
use Prim.Native.Nat.{ℕ, ◌≤◌, ◌<◌}
use native.Mathlib.Decide.{dec_le}
use native.Mathlib.Nat.{lt_of_not-le}
use borrow.Author.Tests.{not-true, not-false}
use mathlib.Core.Path.{◌≡◌, refl, sym, ◌∙◌}
use mathlib.Core.Bool.{Bool, true, false, cond, not, ◌&&◌, ◌||◌, false≢true}

-- ---- cases

-- one order or the other
pub by_order {ℓ} : {X : Type ℓ} (a b : ℕ) → (a ≤ b → X) → (b < a → X) → X
by_order a b f g = elim (dec_le a b) [ yes h ↦ f h | no h ↦ g (lt_of_not-le h) ]

-- a test, with its equation
pub by_bool {ℓ} : {X : Type ℓ} (b : Bool) → (b ≡ true → X) → (b ≡ false → X) → X
by_bool true f g = f refl
by_bool false f g = g refl

-- what holds of both of two holds of the one chosen
pub cond_cases {ℓ κ} : {X : Type ℓ} (P : X → Type κ) (b : Bool) (x y : X) → (b ≡ true → P x) → (b ≡ false → P y) → P (cond b x y)
cond_cases P true x y f g = f refl
cond_cases P false x y f g = g refl

-- what a choice says, by the way it was made
pub cond-split {ℓ κ} :
    {X : Type ℓ} {C : Type κ} (P : X → Type κ) (b : Bool) (x y : X) → P (cond b x y) → (b ≡ true → P x → C) → (b ≡ false → P y → C) → C
cond-split P true x y h f g = f refl h
cond-split P false x y h f g = g refl h

-- a choice that is true was true on its way
pub cond-true : (b x : Bool) → cond b x false ≡ true → (b ≡ true) × (x ≡ true)
cond-true true x h = (refl, h)
cond-true false x h = absurd (false≢true h)

-- ---- tests that are joined

pub and_left : (a b : Bool) → a && b ≡ true → a ≡ true
and_left true b e = refl
and_left false b e = e

pub and_right : (a b : Bool) → a && b ≡ true → b ≡ true
and_right true b e = e
and_right false b e = absurd (false≢true e)

pub and-true : (a : Bool) → a && true ≡ a
and-true true = refl
and-true false = refl

pub and-fails : (a b : Bool) → b ≡ false → a && b ≡ false
and-fails true b e = e
and-fails false b e = refl

-- a choice with a sure side
pub or-cond : (a b : Bool) → a || b ≡ cond a true b
or-cond true b = refl
or-cond false b = refl

pub not-or-cond : (a b : Bool) → not a || b ≡ cond a b true
not-or-cond true b = refl
not-or-cond false b = refl

-- ---- a test that the code made: it answered no, it answered yes

pub denied : (t d : Bool) → t ≡ d → not t ≡ true → d ≡ false
denied t d e h = sym e ∙ not-true t h

pub granted : (t d : Bool) → t ≡ d → not t ≡ false → d ≡ true
granted t d e h = sym e ∙ not-false t h
