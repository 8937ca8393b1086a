-- The definitions of `figure_of`, case by case, in the terms that the code has: the first byte and what is behind it, and a run of digits with its stopped values.
-- Assumes nothing.
use Rattle.std.proofs.Common.{◌≡◌, ℕ, ◌+◌, ◌-◌, ◌^◌, ◌<◌, ◌≤◌, min, Bool, true, false, cond, eqb, ltb, leb, ◌⊎◌, List, ◌++◌, length, get_or, ℤ, pos, nat_abs, Option, Some, None, sym, refl, ap, ◌∙◌, ap₂, inl, inr, zero-add, arith, le-ltb, eq-eqb, ne_eqb}
use borrow.Author.Tests.{lt-leb}
use lib.Ieee.{minus}
use Rattle.choices.proofs.Choices.{by_order, and-fails}
use Rattle.number.specs.Exact.{signed}
use Rattle.figures.specs.Texts.{rest, is_empty, drop_blanks, only_blanks, is_minus, behind_sign, is_e, digits, after_digits, value_from, significand, zeros}
use Rattle.figures.specs.Steps.{stop_at, empty_tally, tally, behind_point}
use Rattle.figures.specs.Figures.{fraction, fits_integer, whole, raised, power, exponent, pointed, with_point, without_point, decimal_text, unsigned, figure_of}
use Rattle.figures.specs.declared.Figure.{Figure}
use Rattle.figures.specs.declared.Figure.TheVariants.{Integer}
use Rattle.figures.specs.declared.Tally.{Tally}
use Rattle.figures.proofs.FractionLaws.{fraction-many, minus-up, minus-down}
use Rattle.figures.proofs.TextLaws.{shorter, sign-fits, blanks-fit, first-is, second-is, rest-is, rest-twice, behind, empty-length, by_sign, digits-fit, zeros-fit}
use Rattle.figures.proofs.IntegerLaws.{wrap_mod, wrap-fits}
use Rattle.std.proofs.lemmas.Bool.Decides.{nat_tests}
use Rattle.figures.proofs.TallyLaws.{tally-append, tally-count, tally-zeros, tally-value, tally-kept}

-- ---- nothing is lost where a value is stopped at 2 ^ 63 + 1

min_is : (x : ℕ) → x ≤ stop_at → min x stop_at ≡ x
min_is x h = omega arith

min_most : (x : ℕ) → stop_at < x → min x stop_at ≡ stop_at
min_most x h = omega arith

pub fraction-kept : (s : Bool) (d : ℕ) (e : ℤ) → fraction s (min d stop_at) e ≡ fraction s d e
fraction-kept s d e =
    by_order d stop_at (λ t. ap (λ (x : ℕ). fraction s x e) (min_is d t)) (λ t. fraction-many s (min d stop_at) e (low d t) ∙ sym (fraction-many s d e (high d t)))
  where
    low : (d : ℕ) → stop_at < d → 10 ^ 15 ≤ min d stop_at
    low d h = omega arith

    high : (d : ℕ) → stop_at < d → 10 ^ 15 ≤ d
    high d h = omega arith

fraction-far-both : (s : Bool) (d : ℕ) (e g : ℤ) → 22 < nat_abs e → 22 < nat_abs g → fraction s d e ≡ fraction s d g
unfolding fraction
fraction-far-both s d e g h k =
    rw (and-fails (ltb d (10 ^ 15)) (leb (nat_abs e) 22) (lt-leb (nat_abs e) 22 h), and-fails (ltb d (10 ^ 15)) (leb (nat_abs g) 22) (lt-leb (nat_abs g) 22 k))

pub raised-value : (s : Bool) (d z p : ℕ) (b : Bool) (x : ℕ) → z < 65536 → p < 65536 → raised s d z p b (min x stop_at) ≡ raised s d z p b x
raised-value s d z p b x Z P =
    by_order x stop_at (λ t. ap (raised s d z p b) (min_is x t)) (λ t. ap (raised s d z p b) (min_most x t) ∙ go b t)
  where
    far-up : (y z p : ℕ) → stop_at ≤ y → z < 65536 → p < 65536 → 22 < nat_abs (minus (z + y) p)
    far-up y z p h Z P = rw (minus-up (z + y) p (omega arith)) (omega arith)

    far-down : (y z p : ℕ) → stop_at ≤ y → z < 65536 → p < 65536 → 22 < nat_abs (minus z (p + y))
    far-down y z p h Z P = rw (minus-down z (p + y) (omega arith)) (omega arith)

    go : (b : Bool) → stop_at < x → raised s d z p b stop_at ≡ raised s d z p b x
    go false h = unfold raised in fraction-far-both s d (minus (z + stop_at) p) (minus (z + x) p) (far-up stop_at z p (omega arith) Z P) (far-up x z p (omega arith) Z P)
    go true h = unfold raised in fraction-far-both s d (minus z (p + stop_at)) (minus z (p + x)) (far-down stop_at z p (omega arith) Z P) (far-down x z p (omega arith) Z P)

module _ (s : Bool) (d z p : ℕ) where
  raised-kept : (b : Bool) (x : ℕ) → raised s (min d stop_at) z p b x ≡ raised s d z p b x
  unfolding raised
  raised-kept false x = fraction-kept s d (minus (z + x) p)
  raised-kept true x = fraction-kept s d (minus z (p + x))

  power-kept : (b : Bool) (r : List ℕ) → power s (min d stop_at) z p b r ≡ power s d z p b r
  unfolding power
  power-kept b r = ap (λ (f : Option Figure). cond (is_empty (digits 10 r)) None (cond (only_blanks (after_digits 10 r)) f None)) (raised-kept b (value_from 10 0 (digits 10 r)))

  pub exponent-kept : (r : List ℕ) → exponent s (min d stop_at) z p r ≡ exponent s d z p r
  unfolding exponent
  exponent-kept r = rw (power-kept true (rest r), power-kept false (rest r), power-kept false r)

  pub pointed-kept : (r : List ℕ) → pointed s (min d stop_at) z p r ≡ pointed s d z p r
  unfolding pointed
  pointed-kept r = rw (exponent-kept (rest r), fraction-kept s d (minus z p))

pub whole-kept : (s : Bool) (v d z : ℕ) (r : List ℕ) → whole s (min v stop_at) (min d stop_at) z r ≡ whole s v d z r
unfolding whole
whole-kept s v d z r = rw (fraction-kept s d (pos z)) (ap (λ (f : Option Figure). cond (only_blanks r) f None) (go s (by_order v stop_at inl inr)))
  where
    go : (s : Bool) → (v ≤ stop_at) ⊎ (stop_at < v)
        → cond (fits_integer s (min v stop_at)) (Some (Integer (signed s (min v stop_at)))) (fraction s d (pos z)) ≡ cond (fits_integer s v) (Some (Integer (signed s v))) (fraction s d (pos z))
    go s (inl h) = ap (λ (x : ℕ). cond (fits_integer s x) (Some (Integer (signed s x))) (fraction s d (pos z))) (min_is v h)
    go false (inr h) = rw (le-ltb (min v stop_at) (2 ^ 63) (omega arith), le-ltb v (2 ^ 63) (omega arith))
    go true (inr h) = rw (lt-leb (min v stop_at) (2 ^ 63) (omega arith), lt-leb v (2 ^ 63) (omega arith))

-- ---- a run of digits from nothing

module _ (t : Tally) (ds : List ℕ) (U : t ≡ tally empty_tally ds) where
  no_less : 0 ≡ min 0 stop_at
  no_less = sym (min_is 0 (omega arith))

  run-count : t.count ≡ length ds
  run-count = ap (λ (u : Tally). u.count) U ∙ tally-count empty_tally ds ∙ zero-add (length ds)

  run-kept : t.kept ≡ min (significand 0 0 ds) stop_at
  run-kept = ap (λ (u : Tally). u.kept) U ∙ tally-kept empty_tally 0 0 ds no_less no_less

  run_value : t.value ≡ min (value_from 10 0 ds) stop_at
  run_value = ap (λ (u : Tally). u.value) U ∙ tally-value empty_tally 0 ds no_less

  run-zeros : t.zeros ≡ zeros 0 ds
  run-zeros = ap (λ (u : Tally). u.zeros) U ∙ tally-zeros empty_tally ds

  run-empty : is_empty ds ≡ eqb t.count 0
  run-empty = empty-length ds ∙ ap (λ (x : ℕ). eqb x 0) (sym run-count)

-- ---- the code's cases

-- r is an exponent behind its sign, t the run of its digits, a what follows them
module _ (s : Bool) (d z p : ℕ) (b : Bool) (l r a : List ℕ) (t : Tally) (B : b ≡ is_minus l) (R : r ≡ behind_sign l)
    (U : t ≡ tally empty_tally (digits 10 r)) (A : a ≡ after_digits 10 r) where
  exponent-is : power s d z p b r ≡ exponent s d z p l
  unfolding exponent
  exponent-is = rw (B, R) (sym (by_sign (power s d z p) l))

  pub exponent-none : t.count ≡ 0 → None ≡ exponent s d z p l
  exponent-none h = rw (← exponent-is) (unfold power in rw (run-empty t (digits 10 r) U, eq-eqb t.count 0 h))

  pub exponent-open : (t.count ≡ 0 → ⊥) → only_blanks a ≡ false → None ≡ exponent s d z p l
  exponent-open h e = rw (← exponent-is) (unfold power in rw (run-empty t (digits 10 r) U, ne_eqb t.count 0 h, ← A, e))

  exponent-raised : (t.count ≡ 0 → ⊥) → only_blanks a ≡ true → z < 65536 → p < 65536 → raised s d z p b t.value ≡ exponent s d z p l
  exponent-raised h e Z P =
      ap (raised s d z p b) (run_value t (digits 10 r) U)
      ∙ raised-value s d z p b (value_from 10 0 (digits 10 r)) Z P
      ∙ rw (← exponent-is) (unfold power in rw (run-empty t (digits 10 r) U, ne_eqb t.count 0 h, ← A, e))

  pub exponent-below : (t.count ≡ 0 → ⊥) → only_blanks a ≡ true → z < 65536 → p < 65536 → b ≡ true → fraction s d (minus z (p + t.value)) ≡ exponent s d z p l
  exponent-below h e Z P k = rw (← exponent-raised h e Z P) (unfold raised in rw k)

  pub exponent-above : (t.count ≡ 0 → ⊥) → only_blanks a ≡ true → z < 65536 → p < 65536 → b ≡ false → fraction s d (minus (z + t.value) p) ≡ exponent s d z p l
  exponent-above h e Z P k = rw (← exponent-raised h e Z P) (unfold raised in rw k)

-- a decimal integer has no places
pub minus_none : (z : ℕ) → minus z 0 ≡ pos z
minus_none z = let e : z - 0 ≡ z = omega arith in minus-up z 0 (omega arith) ∙ ap pos e

-- ---- digits with and without a point: t is the run of the first, a what follows them

module _ (s : Bool) (l a : List ℕ) (t : Tally) (U : t ≡ tally empty_tally (digits 10 l)) (A : a ≡ after_digits 10 l) where
  decimal-empty : is_empty (digits 10 l) ≡ eqb t.count 0
  decimal-empty = run-empty t (digits 10 l) U

  pub decimal-exponent : (get_or a 0 0 ≡ 46 → ⊥) → (t.count ≡ 0 → ⊥) → is_e (get_or a 0 0) ≡ true → exponent s t.kept t.zeros 0 (behind 1 a) ≡ decimal_text s l
  unfolding decimal_text without_point
  decimal-exponent h k e =
      rw (← A, ← first-is a, ne_eqb (get_or a 0 0) 46 h, decimal-empty, ne_eqb t.count 0 k, e, rest-is a)
      (ap₂ (λ (d z : ℕ). exponent s d z 0 (rest a)) (run-kept t (digits 10 l) U) (run-zeros t (digits 10 l) U)
      ∙ exponent-kept s (significand 0 0 (digits 10 l)) (zeros 0 (digits 10 l)) 0 (rest a))

  pub decimal-none : (get_or a 0 0 ≡ 46 → ⊥) → t.count ≡ 0 → None ≡ decimal_text s l
  unfolding decimal_text without_point
  decimal-none h k = rw (← A, ← first-is a, ne_eqb (get_or a 0 0) 46 h, decimal-empty, eq-eqb t.count 0 k)

  pub decimal-whole : (get_or a 0 0 ≡ 46 → ⊥) → (t.count ≡ 0 → ⊥) → is_e (get_or a 0 0) ≡ false → whole s t.value t.kept t.zeros a ≡ decimal_text s l
  unfolding decimal_text without_point
  decimal-whole h k e =
      rw (← A, ← first-is a, ne_eqb (get_or a 0 0) 46 h, decimal-empty, ne_eqb t.count 0 k, e)
      (ap (λ (v : ℕ). whole s v t.kept t.zeros a) (run_value t (digits 10 l) U)
      ∙ ap₂ (λ (d z : ℕ). whole s (min (value_from 10 0 (digits 10 l)) stop_at) d z a) (run-kept t (digits 10 l) U) (run-zeros t (digits 10 l) U)
      ∙ whole-kept s (value_from 10 0 (digits 10 l)) (significand 0 0 (digits 10 l)) (zeros 0 (digits 10 l)) a)

  pub decimal_point : get_or a 0 0 ≡ 46 → behind_point s t (tally t (digits 10 (behind 1 a))) (after_digits 10 (behind 1 a)) ≡ decimal_text s l
  unfolding decimal_text
  decimal_point h =
      rw (← A, ← first-is a, eq-eqb (get_or a 0 0) 46 h, rest-is a)
      (both (rest a))
    where
      both : (r : List ℕ) → behind_point s t (tally t (digits 10 r)) (after_digits 10 r) ≡ with_point s (digits 10 l) (digits 10 r) (after_digits 10 r)
      both r =
          ap₂ (λ (n : ℕ) (f : Option Figure). cond (eqb n 0) None f) (run-count u ds is)
          (ap₂ (λ (d z : ℕ). pointed s d z (u.count - t.count) (after_digits 10 r)) (run-kept u ds is) (run-zeros u ds is)
          ∙ ap (λ (n : ℕ). pointed s (min (significand 0 0 ds) stop_at) (zeros 0 ds) n (after_digits 10 r)) places
          ∙ pointed-kept s (significand 0 0 ds) (zeros 0 ds) (length (digits 10 r)) (after_digits 10 r))
          ∙ ap (λ (b : Bool). cond b None (pointed s (significand 0 0 ds) (zeros 0 ds) (length (digits 10 r)) (after_digits 10 r))) (sym (empty-length ds))
          ∙ (unfold with_point in refl)
        where
          ds : List ℕ
          ds = digits 10 l ++ digits 10 r

          u : Tally
          u = tally t (digits 10 r)

          is : u ≡ tally empty_tally ds
          is = ap (λ (x : Tally). tally x (digits 10 r)) U ∙ sym (tally-append empty_tally (digits 10 l) (digits 10 r))

          places : u.count - t.count ≡ length (digits 10 r)
          places = ap (λ (x : ℕ). x - t.count) (tally-count t (digits 10 r)) ∙ less t.count (length (digits 10 r))
            where
              less : (a b : ℕ) → a + b - a ≡ b
              less a b = omega arith

-- ---- the sign

-- d is what the blanks leave, s and r its sign and what follows that
pub figure-signed : (s : Bool) (l d r : List ℕ) → d ≡ drop_blanks l → s ≡ is_minus d → r ≡ behind_sign d → unsigned s r ≡ figure_of l
unfolding figure_of
figure-signed s l d r D S R = rw (S, R, D) (sym (by_sign unsigned (drop_blanks l)))

-- ---- bounds

pub value-fits : (l : List ℕ) (t : Tally) → t ≡ tally empty_tally (digits 10 l) → t.value ≤ 2 ^ 63 + 1
value-fits l t U = omega (arith, run_value t (digits 10 l) U)

-- a run and what follows it, after the run before
pub more-digits : (t : Tally) (l : List ℕ) → t.count ≤ (tally t (digits 10 l)).count
more-digits t l = omega (arith, tally-count t (digits 10 l))

pub all-counted : (t : Tally) (l : List ℕ) → (tally t (digits 10 l)).count + length (after_digits 10 l) ≡ t.count + length l
all-counted t l = omega (arith, tally-count t (digits 10 l), digits-fit 10 l)

pub few-zeros : (t : Tally) (l : List ℕ) → (tally t (digits 10 l)).zeros + length (after_digits 10 l) ≤ t.zeros + length l
few-zeros t l = omega (arith, tally-zeros t (digits 10 l), zeros-fit t.zeros (digits 10 l), digits-fit 10 l)

-- ---- what each function is checked with

pub ruleset exponent_terms = (sign-fits, value-fits, exponent-none, exponent-open, exponent-below, exponent-above)

pub ruleset whole_terms = (minus_none, wrap-fits, nat_tests)

pub ruleset run_terms = (more-digits, all-counted, few-zeros, shorter)

pub ruleset decimal_terms = (run_terms, decimal_point, decimal-none, decimal-exponent, decimal-whole, nat_tests)

pub ruleset hex_terms = (wrap_mod, digits-fit, empty-length, nat_tests)

pub ruleset text_terms = (figure-signed, sign-fits, blanks-fit)
