-- From an operation to its shape. Assumes nothing.
use Prim.Native.Nat.{ℕ, ◌+◌, ◌≤◌, ◌<◌}
use mathlib.Core.Path.{◌≡◌, refl, sym, ap, ◌∙◌}
use mathlib.Core.Bool.{Bool, true, false, false≢true, cond}
use mathlib.Core.Logic.{inl, inr}
use mathlib.Core.List.{List, [], ◌∷◌}
use native.Mathlib.Omega.{arith}
use borrow.Author.Tests.{eqb-true, ne_eqb, lt-leb, leb-true, leb-false}
use lib.Dec.{eqb, leb}
use Rattle.choices.proofs.Choices.{by_bool, cond_cases}
use Rattle.image.specs.Instruction.{operation_of}
use Rattle.checker.specs.Operations.{Shape, copies, combines, unknown, shape_of, Numbered, shape_at}
use Rattle.checker.specs.Rules.{carried, lowest, broken_as, broken_of}
use Rattle.checker.specs.Decode.{operands_of, decode_of}
use Rattle.checker.specs.declared.Site.{Site}
use Rattle.checker.specs.declared.Instruction.TheVariants.{Bad}

-- ---- the operations of a shape

module _ (o : ℕ) where
  abbrev Its : Shape → Type 0
  Its x = Numbered x o

  late : 27 ≤ o → leb o 29 ≡ false → Its (cond (leb o 32) copies (cond (leb o 38) combines (cond (leb 40 o) (cond (leb o 44) combines unknown) unknown)))
  late l n =
      let m : 29 < o = leb-false o 29 n in
      cond_cases Its (leb o 32) _ _ (λ t. inr (omega arith, leb-true _ _ t))
      (λ t. let h : 32 < o = leb-false o 32 t in
      cond_cases Its (leb o 38) _ _ (λ u. inl (omega arith, leb-true _ _ u))
      (λ u. cond_cases Its (leb 40 o) _ _
      (λ v. cond_cases Its (leb o 44) _ _ (λ w. inr (leb-true _ _ v, leb-true _ _ w)) (λ w. tt)) (λ v. tt)))

  pub numbered : Its (shape_of o)
  unfolding shape_of
  numbered =
      cond_cases Its (eqb o 0) _ _ (λ t. inl (eqb-true _ _ t))
      (λ t1. cond_cases Its (eqb o 1) _ _ (λ t. eqb-true _ _ t)
      (λ t2. cond_cases Its (eqb o 2) _ _ (λ t. eqb-true _ _ t)
      (λ t3. cond_cases Its (eqb o 3) _ _ (λ t. eqb-true _ _ t)
      (λ t10. cond_cases Its (eqb o 10) _ _ (λ t. eqb-true _ _ t)
      (λ t12. cond_cases Its (eqb o 12) _ _ (λ t. eqb-true _ _ t)
      (λ t14. cond_cases Its (eqb o 14) _ _ (λ t. eqb-true _ _ t)
      (λ t15. cond_cases Its (eqb o 15) _ _ (λ t. eqb-true _ _ t)
      (λ t16. cond_cases Its (eqb o 16) _ _ (λ t. eqb-true _ _ t)
      (λ t17. cond_cases Its (eqb o 17) _ _ (λ t. eqb-true _ _ t)
      (λ t18. cond_cases Its (eqb o 18) _ _ (λ t. eqb-true _ _ t)
      (λ t19. cond_cases Its (eqb o 19) _ _ (λ t. eqb-true _ _ t)
      (λ t24. cond_cases Its (eqb o 24) _ _ (λ t. eqb-true _ _ t)
      (λ t25. cond_cases Its (eqb o 25) _ _ (λ t. eqb-true _ _ t)
      (λ t27. cond_cases Its (leb 27 o) _ _
      (λ l. cond_cases Its (leb o 29) _ _ (λ t. (leb-true _ _ l, leb-true _ _ t)) (λ t. late (leb-true _ _ l) t)) (λ l. tt)))))))))))))))

-- ---- an operation that is not carried

-- what a `match` on a number tells its default
abbrev NoneOf : ℕ → List ℕ → Type 0 → Type 0
NoneOf o [] A = A
NoneOf o (k ∷ ks) A = NoneOf o ks (A × (o ≡ k → ⊥))

abbrev member : ℕ → List ℕ → Bool
member k [] = false
member k (j ∷ ks) = cond (eqb k j) true (member k ks)

none_of : (o : ℕ) (ks : List ℕ) (A : Type 0) → NoneOf o ks A → A × ((k : ℕ) → member k ks ≡ true → o ≡ k → ⊥)
none_of o [] A r = (r, λ k h. absurd (false≢true h))
none_of o (j ∷ ks) A r =
    let g = none_of o ks (A × (o ≡ j → ⊥)) r in (
      g.0.0,
      λ k h. by_bool (eqb k j) (λ t e. g.0.1 (e ∙ eqb-true k j t)) (λ t. g.1 k (rw t at h)),
    )

abbrev operations : List ℕ
operations =
    0 ∷ 1 ∷ 2 ∷ 3 ∷ 10 ∷ 12 ∷ 14 ∷ 15 ∷ 16 ∷ 17 ∷ 18 ∷ 19 ∷ 27 ∷ 28 ∷ 29 ∷ 30 ∷ 31 ∷ 32 ∷ 33 ∷ 34 ∷ 35 ∷ 36 ∷ 37 ∷ 38 ∷ 40 ∷ 41 ∷ 42
    ∷ 43 ∷ 44 ∷ 24 ∷ 25 ∷ []

module _ (o : ℕ) (none : (k : ℕ) → member k operations ≡ true → o ≡ k → ⊥) where
  over : (a : ℕ) → a ≤ o → member a operations ≡ true → a + 1 ≤ o
  over a h m = let g = none a m in omega (arith, g)

  low : 27 ≤ o → 39 ≤ o
  low h =
      over 38 (over 37 (over 36 (over 35 (over 34 (over 33 (over 32 (over 31 (over 30 (over 29 (over 28 (over 27 h refl) refl) refl) refl) refl)
      refl) refl) refl) refl) refl) refl) refl

  high : 40 ≤ o → 45 ≤ o
  high h = over 44 (over 43 (over 42 (over 41 (over 40 h refl) refl) refl) refl) refl

  unknown-shape : shape_of o ≡ unknown
  unfolding shape_of
  unknown-shape =
      rw (
        ne_eqb o 0 (none 0 refl),
        ne_eqb o 1 (none 1 refl),
        ne_eqb o 2 (none 2 refl),
        ne_eqb o 3 (none 3 refl),
        ne_eqb o 10 (none 10 refl),
        ne_eqb o 12 (none 12 refl),
        ne_eqb o 14 (none 14 refl),
        ne_eqb o 15 (none 15 refl),
        ne_eqb o 16 (none 16 refl),
        ne_eqb o 17 (none 17 refl),
        ne_eqb o 18 (none 18 refl),
        ne_eqb o 19 (none 19 refl),
        ne_eqb o 24 (none 24 refl),
        ne_eqb o 25 (none 25 refl),
      )
      (by_bool (leb 27 o)
      (λ t. let h : 39 ≤ o = low (leb-true 27 o t) in
      rw (t, lt-leb o 29 (omega arith), lt-leb o 32 (omega arith), lt-leb o 38 (omega arith))
      (by_bool (leb 40 o) (λ u. rw (u, lt-leb o 44 (high (leb-true 40 o u)))) (λ u. rw u)))
      (λ t. rw t))

module _ (s : Site) where
  pub no_arm : {A : Type 0} {o : ℕ} → o ≡ operation_of s.word → NoneOf o operations A → Bad 10 ≡ decode_of s
  unfolding decode_of broken_of broken_as carried operands_of lowest
  no_arm {A} {o} e r =
      let t : shape_at s.word ≡ unknown = ap shape_of (sym e) ∙ unknown-shape o (none_of o operations A r).1 in
      rw t
