-- The run of digits: one digit more; and that the two values, stopped at 2 ^ 63 + 1, tell what the digits' own values tell. Assumes nothing.
use Rattle.std.proofs.Common.{◌≡◌, ℕ, zero, suc, ◌+◌, ◌*◌, ◌≤◌, min, Bool, true, false, cond, eqb, List, [], ◌∷◌, ◌++◌, length, sym, refl, ap, ◌∙◌, add-zero, add_assoc, add-one, arith}
use lib.Dec.{eqb-suc-zero}
use Rattle.figures.specs.Texts.{value_from, significand, zeros}
use Rattle.figures.specs.Steps.{stop_at, one_more, tally}
use Rattle.figures.specs.declared.Tally.{Tally}
use Rattle.figures.proofs.TextLaws.{digit_steps}

-- ---- one digit more

pub tally-none : (t : Tally) (l : List ℕ) → l ≡ [] → tally t l ≡ t
unfolding tally
tally-none t l e = rw e

pub tally-some : (t u : Tally) (l : List ℕ) (c : ℕ) (r : List ℕ) → l ≡ c ∷ r → u ≡ one_more t c → tally u r ≡ tally t l
unfolding tally
tally-some t u l c r e h = rw (e, h)

pub more-zeros : (t : Tally) (c : ℕ) → (one_more t c).zeros ≤ t.zeros + 1
unfolding one_more
more-zeros t c = go (eqb c 0)
  where
    go : (b : Bool) → cond b (t.zeros + 1) 0 ≤ t.zeros + 1
    go true = omega arith
    go false = omega arith

pub more-count : (t : Tally) (c : ℕ) → (one_more t c).count ≡ t.count + 1
unfolding one_more
more-count t c = refl

pub tally-append : (t : Tally) (a b : List ℕ) → tally t (a ++ b) ≡ tally (tally t a) b
unfolding tally
tally-append t [] b = refl
tally-append t (c ∷ a) b = tally-append (one_more t c) a b

-- ---- what a run has

pub tally-count : (t : Tally) (ds : List ℕ) → (tally t ds).count ≡ t.count + length ds
unfolding tally one_more
tally-count t [] = sym (add-zero t.count)
tally-count t (c ∷ ds) = tally-count (one_more t c) ds ∙ add_assoc t.count 1 (length ds) ∙ ap (λ (x : ℕ). t.count + x) (one_plus (length ds))
  where
    one_plus : (n : ℕ) → 1 + n ≡ suc n
    one_plus n = omega arith

pub tally-zeros : (t : Tally) (ds : List ℕ) → (tally t ds).zeros ≡ zeros t.zeros ds
unfolding tally one_more zeros
tally-zeros t [] = refl
tally-zeros t (zero ∷ ds) = tally-zeros (one_more t zero) ds ∙ ap (λ (x : ℕ). zeros x ds) (add-one t.zeros)
tally-zeros t (suc c ∷ ds) = tally-zeros (one_more t (suc c)) ds ∙ ap (λ (b : Bool). zeros (cond b (t.zeros + 1) 0) ds) (eqb-suc-zero c)

-- stopped at 2 ^ 63 + 1
stop : (v w c : ℕ) → w ≡ min v stop_at → min (w * 10 + c) stop_at ≡ min (v * 10 + c) stop_at
stop v w c e = omega arith

pub tally-value : (t : Tally) (v : ℕ) (ds : List ℕ) → t.value ≡ min v stop_at → (tally t ds).value ≡ min (value_from 10 v ds) stop_at
unfolding tally one_more value_from
tally-value t v [] e = e
tally-value t v (c ∷ ds) e = tally-value (one_more t c) (v * 10 + c) ds (stop v t.value c e)

pub tally-kept : (t : Tally) (v d : ℕ) (ds : List ℕ) → t.value ≡ min v stop_at → t.kept ≡ min d stop_at → (tally t ds).kept ≡ min (significand v d ds) stop_at
unfolding tally one_more significand
tally-kept t v d [] e f = f
tally-kept t v d (zero ∷ ds) e f = tally-kept (one_more t zero) (v * 10) d ds (stop v t.value 0 e ∙ ap (λ (x : ℕ). min x stop_at) (add-zero (v * 10))) f
tally-kept t v d (suc c ∷ ds) e f =
    tally-kept (one_more t (suc c)) (v * 10 + suc c) (v * 10 + suc c) ds (stop v t.value (suc c) e)
    (ap (λ (b : Bool). cond b t.kept (min (t.value * 10 + suc c) stop_at)) (eqb-suc-zero c) ∙ stop v t.value (suc c) e)

pub ruleset scan_terms = (digit_steps, tally-none, tally-some, more-zeros, more-count)
