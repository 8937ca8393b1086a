-- What rule 16 leaves of the table: the descriptors of a prototype that a decoded Closure names are in range of the one that it stands in, and prototype 0 has none
-- where its instruction 0 is decoded. Assumes nothing.
use Prim.Native.Nat.{ℕ, ◌-◌, ◌<◌, ◌≤◌}
use mathlib.Core.Path.{◌≡◌, refl}
use mathlib.Core.Bool.{true}
use mathlib.Core.List.{List}
use native.Mathlib.Omega.{arith}
use borrow.Author.Tests.{eqb-true, eq-eqb, ltb-true, leb-true, lt-ltb, le-ltb}
use lib.Dec.{eqb, leb, ltb}
use Rattle.choices.proofs.Below.{all-at}
use Rattle.choices.proofs.Choices.{by_bool, and_left, and_right}
use Rattle.image.specs.Instruction.{operation_of, a_of, b_of}
use Rattle.storage.specs.Fields.{registers_of, instructions_of, instruction_at, descriptors_of, descriptor_of}
use Rattle.checker.specs.Operations.{Shape, copies, loads_constant, loads_bool, loads_nil, calls, returns, jumps, tests, tests_and_sets, closes, prepares, loops, compares, combines, gets_up_value, sets_up_value, unknown, shape_at}
use Rattle.checker.specs.Rules.{upvalues_in, broken_of}
use Rattle.checker.specs.Decode.{place_of, jump_of, operands_of, decode_of}
use Rattle.checker.specs.Captures.{descriptor_in, captures_in, captures_at, bare_at}
use Rattle.checker.specs.Check.{site_of}
use Rattle.checker.specs.Kept.{KeptAt}
use Rattle.checker.specs.declared.Site.{Site}
use Rattle.checker.specs.declared.Instruction.{Instruction}
use Rattle.checker.specs.declared.Instruction.TheVariants.{Jump, Closure, Bad, Close}
use Rattle.checker.proofs.Lowest.{kept}
use Rattle.checker.proofs.Shapes.{numbered}
use Rattle.fitness.specs.Fit.{decoded_at}

-- ---- descriptors in range, one at a time

module _ (table : List ℕ) (q n : ℕ) (h : captures_in table q n ≡ true) where
  pub captures-few : descriptors_of table n ≤ 8
  unfolding captures_in
  captures-few = leb-true _ _ (and_left _ _ h)

  in-range : (j : ℕ) → j < descriptors_of table n → descriptor_in table q (descriptor_of table n j) ≡ true
  unfolding captures_in
  in-range =
      all-at (λ i. descriptor_in table q (descriptor_of table n i)) (descriptors_of table n) (and_right (leb (descriptors_of table n) 8) _ h)

  -- "00 and a parent's register"
  pub captures-registers : (j : ℕ) → j < descriptors_of table n → descriptor_of table n j < 256 → descriptor_of table n j < registers_of table q
  unfolding descriptor_in
  captures-registers j l d = ltb-true _ _ (rw (lt-ltb (descriptor_of table n j) 256 d) at (in-range j l))

  -- "01 and the parent's upvalue number"
  pub captures_upvalues :
      (j : ℕ) → j < descriptors_of table n → 256 ≤ descriptor_of table n j → descriptor_of table n j - 256 < descriptors_of table q
  unfolding descriptor_in
  captures_upvalues j l d = ltb-true _ _ (rw (le-ltb (descriptor_of table n j) 256 d) at (in-range j l))

-- ---- a Closure's shape

jump_closes : (x : Shape) (close target dest n : ℕ) → jump_of close target ≡ Closure dest n → x ≡ closes
unfolding jump_of
jump_closes x close target dest n e =
    by_bool (eqb close 255) (λ t. let b : Jump target ≡ Closure dest n = rw t at e in cc)
    (λ t. let b : Close close target ≡ Closure dest n = rw t at e in cc)

shape-closes : (x : Shape) (p w dest n : ℕ) → operands_of x p w ≡ Closure dest n → x ≡ closes
unfolding operands_of
shape-closes copies p w dest n e = cc
shape-closes loads_constant p w dest n e = cc
shape-closes loads_bool p w dest n e = cc
shape-closes loads_nil p w dest n e = cc
shape-closes calls p w dest n e = cc
shape-closes returns p w dest n e = cc
shape-closes jumps p w dest n e = jump_closes jumps (a_of w) (place_of p w) dest n e
shape-closes tests p w dest n e = cc
shape-closes tests_and_sets p w dest n e = cc
shape-closes closes p w dest n e = refl
shape-closes prepares p w dest n e = cc
shape-closes loops p w dest n e = cc
shape-closes compares p w dest n e = cc
shape-closes combines p w dest n e = cc
shape-closes gets_up_value p w dest n e = cc
shape-closes sets_up_value p w dest n e = cc
shape-closes unknown p w dest n e = cc

closure_names : (p w dest n : ℕ) → operands_of closes p w ≡ Closure dest n → b_of w ≡ n
unfolding operands_of
closure_names p w dest n e = cc

-- ---- what the rule leaves of a site

closes-captures : (s : Site) → upvalues_in closes s ≡ true → s.captures ≡ true
unfolding upvalues_in
closes-captures s h = and_left _ _ h

bare-kept : (x : Shape) (s : Site) → upvalues_in x s ≡ true → s.bare ≡ true
unfolding upvalues_in
bare-kept copies s h = h
bare-kept loads_constant s h = h
bare-kept loads_bool s h = h
bare-kept loads_nil s h = h
bare-kept calls s h = h
bare-kept returns s h = h
bare-kept jumps s h = h
bare-kept tests s h = h
bare-kept tests_and_sets s h = h
bare-kept closes s h = and_right s.captures _ h
bare-kept prepares s h = h
bare-kept loops s h = h
bare-kept compares s h = h
bare-kept combines s h = h
bare-kept gets_up_value s h = and_right (ltb (b_of s.word) s.limits.upvalues) _ h
bare-kept sets_up_value s h = and_right (ltb (a_of s.word) s.limits.upvalues) _ h
bare-kept unknown s h = h

-- ---- of an image's instruction

module _ (table code : List ℕ) where
  -- a decoded instruction keeps the rules, and is what its shape makes of it
  module _ (q p : ℕ) (i : Instruction) (good : (m : ℕ) → Bad m ≡ i → ⊥) (e : decoded_at table code q p ≡ i) where
    abbrev s : Site
    s = site_of table code q p

    decoded : decode_of s ≡ i
    unfolding decoded_at
    decoded =
        by_bool (ltb p (instructions_of table q)) (λ t. rw t at e) (λ t. absurd (good 14 (rw t at e)))

    decoded-kept : broken_of s ≡ 0
    unfolding decode_of
    decoded-kept =
        by_bool (eqb (broken_of s) 0) (λ t. eqb-true _ _ t) (λ t. absurd (good (broken_of s) (rw t at decoded)))

    decoded-operands : operands_of (shape_at s.word) p s.word ≡ i
    unfolding decode_of
    decoded-operands = let t : eqb (broken_of s) 0 ≡ true = eq-eqb _ 0 decoded-kept in rw t at decoded

  -- "each descriptor in range of every prototype that names it in a Closure"
  pub closure_captures : (q p dest n : ℕ) → decoded_at table code q p ≡ Closure dest n → captures_in table q n ≡ true
  unfolding captures_at
  closure_captures q p dest n e =
      let good : (m : ℕ) → Bad m ≡ Closure dest n → ⊥ = λ m b. let z : ◌≡◌ {A = ℕ} 0 1 = cc in omega arith in
      let w : ℕ = instruction_at table code q p in
      let o = decoded-operands q p (Closure dest n) good e in
      let x : shape_at w ≡ closes = shape-closes (shape_at w) p w dest n o in
      let k = kept (site_of table code q p) (decoded-kept q p (Closure dest n) good e) in
      let c : captures_at table q w ≡ true = closes-captures (site_of table code q p) (rw x at k.upvalues) in
      let m : operation_of w ≡ 17 = rw x at (numbered (operation_of w)) in
      let b : b_of w ≡ n = closure_names p w dest n (rw x at o) in
      rw (eq-eqb _ 17 m, b) at c

  -- "no descriptors on prototype 0"
  pub kept-bare : KeptAt table code 0 0 → descriptors_of table 0 ≡ 0
  unfolding bare_at
  kept-bare k = eqb-true _ _ (bare-kept (shape_at (instruction_at table code 0 0)) (site_of table code 0 0) k.upvalues)

  pub decoded-bare : (i : Instruction) → ((m : ℕ) → Bad m ≡ i → ⊥) → decoded_at table code 0 0 ≡ i → descriptors_of table 0 ≡ 0
  decoded-bare i good e = kept-bare (kept (site_of table code 0 0) (decoded-kept 0 0 i good e))
