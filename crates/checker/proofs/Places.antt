-- Places to go next: `place_in` says the same as `inside`, and a target inside is the place that the instruction gets. Assumes nothing.
use Prim.Native.Nat.{ℕ, suc, ◌+◌, ◌-◌}
use mathlib.Core.Path.{◌≡◌, refl, sym, ◌∙◌}
use mathlib.Core.Bool.{Bool, true, false, cond, false≢true}
use mathlib.Core.List.{[], ◌∷◌}
use lib.Dec.{ltb}
use lib.IntN.{ℤ, pos, negsuc}
use Rattle.std.specs.Prelude.{Some, None, is_some, unwrap_or}
use Rattle.checker.specs.Operations.{bc_of, target_of}
use Rattle.checker.specs.Rules.{inside, all_inside}
use Rattle.checker.specs.Decode.{place_of}
use Rattle.checker.specs.Steps.{place_in}
pub use Rattle.choices.proofs.Choices.{and-true, and_right, or-cond}

pub some-inside : (n : ℕ) (z : ℤ) → is_some (place_in n z) ≡ inside n z
unfolding place_in inside
some-inside n (pos k) = elim (ltb k n) as (λ b. is_some (cond b (Some k) None) ≡ b) [ true ↦ refl | false ↦ refl ]
some-inside n (negsuc k) = refl

-- one of two places
pub either : (n x y : ℕ) (b : Bool) → is_some (place_in n (pos (cond b x y))) ≡ all_inside n (cond b (pos x ∷ []) (pos y ∷ []))
unfolding all_inside
either n x y true = some-inside n (pos x) ∙ sym (and-true (inside n (pos x)))
either n x y false = some-inside n (pos y) ∙ sym (and-true (inside n (pos y)))

pub at_place : (n k : ℕ) → is_some (place_in n (pos k)) ≡ true → unwrap_or (place_in n (pos k)) 0 ≡ k
unfolding place_in
at_place n k = elim (ltb k n) as (λ b. is_some (cond b (Some k) None) ≡ true → unwrap_or (cond b (Some k) None) 0 ≡ k) [ true ↦ λ h. refl | false ↦ λ h. absurd (false≢true h) ]

-- of three numbers the one that a target inside can be
at-picked :
    (n f g h : ℕ) (b t : Bool) → is_some (place_in n (cond b (pos f) (cond t (negsuc g) (pos h)))) ≡ true
    → unwrap_or (place_in n (cond b (pos f) (cond t (negsuc g) (pos h)))) 0 ≡ cond b f h
unfolding place_in
at-picked n f g h true t e = at_place n f e
at-picked n f g h false true e = absurd (false≢true e)
at-picked n f g h false false e = at_place n h e

pub at_target : (n p w : ℕ) → is_some (place_in n (target_of p w)) ≡ true → unwrap_or (place_in n (target_of p w)) 0 ≡ place_of p w
unfolding target_of place_of
at_target n p w e =
    at-picked n (p + 1 + bc_of w) (65536 - suc (p + 1 + bc_of w)) (p + 1 + bc_of w - 65536) (ltb (bc_of w) 32768)
    (ltb (p + 1 + bc_of w) 65536) e

-- what a decoder needs of its places, and of a test that is joined with another
pub ruleset placed = (some-inside, either, at_place, at_target, and-true, and_right, or-cond)
