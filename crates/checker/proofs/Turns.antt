-- The two searches, one turn at a time. Assumes nothing.
use Prim.Native.Nat.{ℕ, suc, ◌+◌, ◌-◌, ◌<◌, ◌≤◌}
use mathlib.Core.Path.{◌≡◌, refl, sym, ◌∙◌}
use mathlib.Core.List.{List}
use native.Mathlib.Omega.{arith}
use borrow.Author.Tests.{eq-eqb, ne_eqb, eqb-true, eqb-false}
use lib.Dec.{eqb}
use Rattle.std.specs.Prelude.{Ok, Err}
use Rattle.choices.proofs.Choices.{by_bool}
use Rattle.checker.specs.declared.Refusal.{Refusal}
use Rattle.checker.specs.declared.Site.{Site}
use Rattle.checker.specs.declared.Instruction.{Instruction}
use Rattle.checker.specs.declared.Instruction.TheVariants.{Bad}
use Rattle.checker.specs.Rules.{broken_of}
use Rattle.checker.specs.Decode.{decode_of}
use Rattle.checker.proofs.Lowest as lowest
use Rattle.checker.proofs.Lowest.{refused-broken}
use Rattle.storage.specs.Fields.{prototypes_of, instructions_of}
use Rattle.checker.specs.Check.{Checked, accepted, refused, site_of, broken_at, checked_at, code_from, protos_from, search_of}

left : (n i : ℕ) → i < n → n - i ≡ suc (n - (i + 1))
left n i h = omega arith

none : (n i : ℕ) → n ≤ i → n - i ≡ 0
none n i h = omega arith

start : (n : ℕ) → n - 0 ≡ n
start n = omega arith

-- what is said of one instruction: refused by its number, accepted where it is no refusal, and then it keeps the rules
module _ (table code : List ℕ) (q i : ℕ) where
  pub said-bad : (s : Site) → s ≡ site_of table code q i → (n : ℕ) → Bad n ≡ decode_of s → refused n q i ≡ checked_at table code q i
  unfolding checked_at broken_at
  said-bad s e n f =
      rw (← e, refused-broken s n (sym f), lowest.refused s n (sym f))

  pub said-good :
      (s : Site) → s ≡ site_of table code q i → (d : Instruction) → d ≡ decode_of s → ((n : ℕ) → d ≡ Bad n → ⊥)
      → accepted ≡ checked_at table code q i
  unfolding checked_at broken_at decode_of
  said-good s e d f h =
      by_bool (eqb (broken_of s) 0) (λ t. rw (← e, t))
      (λ t. let b : d ≡ Bad (broken_of s) = rw t at f in
      absurd (h _ b))

  pub said-kept : (v : Checked) → v ≡ checked_at table code q i → (x : Unit {0}) → v ≡ Ok x → broken_at table code q i ≡ 0
  unfolding checked_at
  said-kept v e x f =
      by_bool (eqb (broken_at table code q i) 0) (λ t. eqb-true _ _ t)
      (λ t. let z : v ≡ refused (broken_at table code q i) q i = rw t at e in
      absurd (cc))

module _ (table code : List ℕ) where
  -- instruction i of k instructions of prototype q
  module _ (q k : ℕ) (rest : Checked) (i : ℕ) where
    abbrev from : ℕ → Checked
    from i = code_from table code q (k - i) i rest

    pub code-good : (n : ℕ) → n ≡ broken_at table code q i → i < k → n ≡ 0 → from i ≡ from (i + 1)
    unfolding code_from
    code-good n e h z = rw (left k i h, ← e, eq-eqb n 0 z)

    pub code-bad : (n : ℕ) → n ≡ broken_at table code q i → i < k → (n ≡ 0 → ⊥) → from i ≡ refused n q i
    unfolding code_from
    code-bad n e h z = rw (left k i h, ← e, ne_eqb n 0 z)

    pub code-end : k ≤ i → from i ≡ rest
    unfolding code_from
    code-end h = rw (none k i h)

    -- the same by what is said of instruction i alone
    module _ (v : Checked) (e : v ≡ checked_at table code q i) (h : i < k) where
      pub turn-good : ((x : Refusal) → v ≡ Err x → ⊥) → from i ≡ from (i + 1)
      unfolding checked_at
      turn-good f =
          by_bool (eqb (broken_at table code q i) 0) (λ t. code-good (broken_at table code q i) refl h (eqb-true _ _ t))
          (λ t. let z : v ≡ refused (broken_at table code q i) q i = rw t at e in
          absurd (f _ z))

      pub turn-bad : (x : Refusal) → v ≡ Err x → from i ≡ Err x
      unfolding checked_at
      turn-bad x f =
          by_bool (eqb (broken_at table code q i) 0)
          (λ t. let z : v ≡ accepted = rw t at e in
          absurd (cc))
          (λ t. let z : v ≡ refused (broken_at table code q i) q i = rw t at e in
          code-bad (broken_at table code q i) refl h (eqb-false _ _ t) ∙ sym z ∙ f)

  -- prototype q of n prototypes
  module _ (n : ℕ) where
    abbrev onwards : ℕ → Checked
    onwards q = protos_from table code (n - q) q

    pub search-none : n ≡ prototypes_of table → n ≡ 0 → refused 15 0 0 ≡ search_of table code
    unfolding search_of
    search-none e z = rw (eq-eqb (prototypes_of table) 0 (sym e ∙ z))

    pub search-start : n ≡ prototypes_of table → (n ≡ 0 → ⊥) → search_of table code ≡ onwards 0
    unfolding search_of
    search-start e z = rw (start n, e, ne_eqb (prototypes_of table) 0 (λ t. z (e ∙ t)))

    module _ (q k : ℕ) (e : k ≡ instructions_of table q) where
      pub proto_empty : q < n → k ≡ 0 → onwards q ≡ refused 14 q 0
      unfolding protos_from
      proto_empty h z = rw (left n q h, ← e, eq-eqb k 0 z)

      pub proto_open : q < n → (k ≡ 0 → ⊥) → onwards q ≡ code_from table code q (k - 0) 0 (onwards (q + 1))
      unfolding protos_from
      proto_open h z = rw (left n q h, start k, ← e, ne_eqb k 0 z)

    pub search-end : (q : ℕ) → n ≤ q → onwards q ≡ accepted
    unfolding protos_from
    search-end q h = rw (none n q h)
