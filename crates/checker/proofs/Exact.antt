-- What the checker's answer says: it accepts exactly what keeps every rule everywhere, and refuses at the first bad place with its lowest number.
-- Either there is a first bad place or there is none (`first`), and in each case the answer is worked out: so both hold both ways. Assumes nothing.
use Prim.Native.Nat.{ℕ, zero, suc, ◌+◌, ◌-◌, ◌<◌, ◌≤◌}
use mathlib.Core.Path.{◌≡◌, refl, sym, ap, ◌∙◌}
use mathlib.Core.Bool.{true}
use mathlib.Core.List.{List}
use mathlib.Core.Logic.{◌↔◌, ◌⊎◌, inl, inr, ⊎_elim}
use native.Mathlib.Omega.{arith}
use native.Mathlib.Numerals.{add-one}
use borrow.Author.Tests.{eqb-true, eqb-false}
use lib.Dec.{eqb}
use Rattle.choices.proofs.Choices.{by_bool}
use Rattle.storage.specs.Layout.{Storage, long_enough}
use Rattle.storage.specs.Fields.{prototypes_of, instructions_of}
use Rattle.storage.specs.Stored.{image_in, reads_back}
use Rattle.storage.proofs.Six.{readable, readable_back}
use Rattle.checker.specs.Check.{Checked, accepted, refused, site_of, broken_at, code_from, protos_from, search_of, check_of}
use Rattle.checker.specs.Kept.{KeptAt, Sound, Demanded, BadAt, none, empty, breaks, FirstBad}
use Rattle.checker.specs.declared.Refusal.{Refusal}
use Rattle.checker.proofs.Lowest.{kept, unbroken}
use Rattle.checker.proofs.Turns.{code-good, code-bad, code-end, search-none, search-start, proto_empty, proto_open, search-end}

-- ---- the first that fails, of n that each hold or fail

data Found (P Q : ℕ → Type 0) (n : ℕ) : Type 0 where
  all : ((j : ℕ) → j < n → P j) → Found P Q n
  one : (b : ℕ) → b < n → ((j : ℕ) → j < b → P j) → Q b → Found P Q n

-- one more than those that hold
pub one_more : (P : ℕ → Type 0) (n : ℕ) → ((j : ℕ) → j < n → P j) → P n → (j : ℕ) → j < n + 1 → P j
one_more P n f p j h =
    by_bool (eqb j n) (λ t. let e : j ≡ n = eqb-true j n t in rw e p) (λ t. let d = eqb-false j n t in f j (omega (arith, d)))

module _ (P Q : ℕ → Type 0) (decide : (j : ℕ) → P j ⊎ Q j) where
  next : (n : ℕ) → Found P Q n → Found P Q (suc n)
  next n (one b h f q) = one b (omega arith) f q
  next n (all f) = ⊎_elim (λ p. all (λ j h. one_more P n f p j (omega arith))) (λ q. one n (omega arith) f q) (decide n)

  first : (n : ℕ) → Found P Q n
  first zero = all (λ j h. absurd (omega arith))
  first (suc n) = next n (first n)

-- ---- the answer where what comes before is good

module _ (table code : List ℕ) where
  good : (q i : ℕ) → KeptAt table code q i → broken_at table code q i ≡ 0
  unfolding broken_at
  good q i = unbroken (site_of table code q i)

  code-reach :
      (q k d : ℕ) (rest : Checked) → d ≤ k → ((j : ℕ) → j < d → KeptAt table code q j)
      → code_from table code q (k - 0) 0 rest ≡ code_from table code q (k - d) d rest
  code-reach q k zero rest h f = refl
  code-reach q k (suc d) rest h f =
      rw (← add-one d)
      (code-reach q k d rest (omega arith) (λ j g. f j (omega arith))
      ∙ code-good table code q k rest d (broken_at table code q d) refl (omega arith) (good q d (f d (omega arith))))

  protos_reach :
      (n d : ℕ) → d ≤ n → ((j : ℕ) → j < d → Sound table code j) → protos_from table code (n - 0) 0 ≡ protos_from table code (n - d) d
  protos_reach n zero h f = refl
  protos_reach n (suc d) h f =
      let s = f d (omega arith) in
      let k : ℕ = instructions_of table d in
      let rest : Checked = protos_from table code (n - (d + 1)) (d + 1) in
      rw (← add-one d)
      (protos_reach n d (omega arith) (λ j g. f j (omega arith)) ∙ proto_open table code n d (instructions_of table d) refl (omega arith) s.some
      ∙ code-reach d k k rest (omega arith) s.each ∙ code-end table code d k rest k (omega arith))

  search-passes :
      (prototypes_of table ≡ 0 → ⊥) → ((q : ℕ) → q < prototypes_of table → Sound table code q) → search_of table code ≡ accepted
  search-passes z f =
      let n : ℕ = prototypes_of table in
      search-start table code n refl z ∙ protos_reach n n (omega arith) f ∙ search-end table code n n (omega arith)

  search_refuses : {n q i : ℕ} → ((j : ℕ) → j < q → Sound table code j) → BadAt table code n q i → search_of table code ≡ refused n q i
  search_refuses f (none z) = sym (search-none table code (prototypes_of table) refl z)
  search_refuses f (empty q h z) =
      let m : ℕ = prototypes_of table in
      search-start table code m refl (λ e. omega arith) ∙ protos_reach m q (omega arith) f
      ∙ proto_empty table code m q (instructions_of table q) refl h z
  search_refuses f (breaks n q i h g p e z) =
      let m : ℕ = prototypes_of table in
      let k : ℕ = instructions_of table q in
      let rest : Checked = protos_from table code (m - (q + 1)) (q + 1) in
      search-start table code m refl (λ e. omega arith) ∙ protos_reach m q (omega arith) f
      ∙ proto_open table code m q (instructions_of table q) refl h (λ e. omega arith) ∙ code-reach q k i rest (omega arith) p
      ∙ code-bad table code q k rest i n (sym e) g z

-- ---- there is a first bad place, or there is none

module _ (table code : List ℕ) where
  Breaks : ℕ → ℕ → Type 0
  Breaks q i = broken_at table code q i ≡ 0 → ⊥

  keeps-or-breaks : (q i : ℕ) → KeptAt table code q i ⊎ Breaks q i
  unfolding broken_at Breaks
  keeps-or-breaks q i =
      by_bool (eqb (broken_at table code q i) 0)
      (λ t. inl (kept (site_of table code q i) (eqb-true _ _ t))) (λ t. inr (eqb-false _ _ t))

  -- what is bad in prototype q, at whatever instruction
  data BadIn (q : ℕ) : Type 0 where
    bad_in : (n i : ℕ) → (q < prototypes_of table → BadAt table code n q i) → BadIn q

  sound-or-bad : (q : ℕ) → Sound table code q ⊎ BadIn q
  unfolding Breaks
  sound-or-bad q =
      by_bool (eqb (instructions_of table q) 0) (λ t. inr (bad_in 14 0 (λ h. empty q h (eqb-true _ _ t))))
      (λ t. from (eqb-false _ _ t) (first (KeptAt table code q) (Breaks q) (keeps-or-breaks q) (instructions_of table q)))
    where
      from :
          (instructions_of table q ≡ 0 → ⊥) → Found (KeptAt table code q) (Breaks q) (instructions_of table q)
          → Sound table code q ⊎ BadIn q
      from z (all f) = inl (record { some = z; each = f })
      from z (one i h f b) = inr (bad_in (broken_at table code q i) i (λ g. breaks (broken_at table code q i) q i g h f refl b))

apart : (n q i : ℕ) → accepted ≡ refused n q i → ⊥
apart n q i e =
    let z : ◌≡◌ {A = ℕ} 0 1 = cc in
    omega arith

-- where the search finds nothing, every prototype is sound
pub search-sound : (table code : List ℕ) → search_of table code ≡ accepted → (q : ℕ) → q < prototypes_of table → Sound table code q
search-sound table code e =
    from (first (Sound table code) (BadIn table code) (sound-or-bad table code) (prototypes_of table))
  where
    from : Found (Sound table code) (BadIn table code) (prototypes_of table) → (q : ℕ) → q < prototypes_of table → Sound table code q
    from (all f) = f
    from (one q h f (bad_in n i b)) = absurd (apart n q i (sym e ∙ search_refuses table code f (b h)))

data AnyBad (S : Storage) : Type 0 where
  any-bad : (n q i : ℕ) → FirstBad S n q i → AnyBad S

module _ (S : Storage) where
  accepts : Demanded S → check_of S ≡ accepted
  unfolding check_of
  accepts d = rw (d.long, readable_back d.reads) (search-passes S.table S.code d.some d.each)

  refuses : (n q i : ℕ) → FirstBad S n q i → check_of S ≡ refused n q i
  unfolding check_of
  refuses n q i f = rw (f.long, readable_back f.reads) (search_refuses S.table S.code f.before f.here)

  module _ (l : long_enough S ≡ true) (r : reads_back S ≡ true) where
    all-or-any : Demanded S ⊎ AnyBad S
    all-or-any =
        by_bool (eqb (prototypes_of S.table) 0)
        (λ t. inr (any-bad 15 0 0 (record { long = l; image = image_in S; reads = readable S r; before = λ j h. absurd (omega arith); here = none (eqb-true _ _ t) })))
        (λ t. from (eqb-false _ _ t)
        (first (Sound S.table S.code) (BadIn S.table S.code) (sound-or-bad S.table S.code) (prototypes_of S.table)))
      where
        from :
            (prototypes_of S.table ≡ 0 → ⊥)
            → Found (Sound S.table S.code) (BadIn S.table S.code) (prototypes_of S.table) → Demanded S ⊎ AnyBad S
        from z (all f) = inl (record { long = l; image = image_in S; reads = readable S r; some = z; each = f })
        from z (one q h f (bad_in n i b)) = inr (any-bad n q i (record { long = l; image = image_in S; reads = readable S r; before = f; here = b h }))

  -- an answer that is neither 5 nor 6
  judged : (v : Checked) → check_of S ≡ v → (v ≡ refused 5 0 0 → ⊥) → (v ≡ refused 6 0 0 → ⊥) → Demanded S ⊎ AnyBad S
  unfolding check_of
  judged v e n5 n6 =
      by_bool (long_enough S)
      (λ l. by_bool (reads_back S) (λ r. all-or-any l r) (λ r. absurd (n6 (sym (rw (l, r) at e)))))
      (λ l. absurd (n5 (sym (rw l at e))))

  pub exact : (check_of S ≡ accepted) ↔ Demanded S
  exact = (λ e. ⊎_elim (λ d. d) (λ b. absurd (no e b)) (judged accepted e (apart 5 0 0) (apart 6 0 0)), accepts)
    where
      no : check_of S ≡ accepted → AnyBad S → ⊥
      no e (any-bad n q i f) = apart n q i (sym e ∙ refuses n q i f)

  abbrev place : ℕ → ℕ → ℕ → Refusal
  place n q i = record { number = n; prototype = q; instruction = i }

  pub first-bad : (n q i : ℕ) → 10 ≤ n → (check_of S ≡ refused n q i) ↔ FirstBad S n q i
  first-bad n q i h = (
    λ e. ⊎_elim (λ d. absurd (apart n q i (sym (accepts d) ∙ e))) (same e)
        (judged (refused n q i) e (λ z. let r : place n q i ≡ place 5 0 0 = cc in
        let y : n ≡ 5 = ap (λ x. x.number) r in omega arith) (λ z. let r : place n q i ≡ place 6 0 0 = cc in
        let y : n ≡ 6 = ap (λ x. x.number) r in omega arith)),
    refuses n q i,
  )
    where
      same : check_of S ≡ refused n q i → AnyBad S → FirstBad S n q i
      same e (any-bad n' q' i' f) =
          let g = refuses n' q' i' f in
          let r : place n q i ≡ place n' q' i' = cc in
          let a : n ≡ n' = ap (λ x. x.number) r in
          let b : q ≡ q' = ap (λ x. x.prototype) r in
          let d : i ≡ i' = ap (λ x. x.instruction) r in
          rw (a, b, d) f
