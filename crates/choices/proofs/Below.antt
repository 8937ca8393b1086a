-- A test at every number below n: a turn of a loop upward, its end, and the test at each number. Assumes nothing.
use mathlib.Core.List.{List}
use mathlib.Core.Path.{◌≡◌, refl, sym, ◌∙◌}
use mathlib.Core.Bool.{Bool, true, false, false≢true, ◌&&◌}
use Rattle.std.specs.Prelude.{Option}
use Prim.Native.Nat.{ℕ, zero, suc, ◌+◌, ◌<◌, ◌≤◌}
use native.Mathlib.Omega.{arith}
use native.Mathlib.Numerals.{add-one}
use borrow.Author.Tests.{ltb-true, ltb-false}
use lib.Dec.{ltb}
use Rattle.std.proofs.Common.{ap, add-zero, zero-add}
use Rattle.std.proofs.Math.Bool.{and_assoc}
use Rattle.std.proofs.iter.Yields.{nat_range_steps}
use Rattle.std.proofs.lemmas.Iterator.{YieldsList-from_range}
use Rattle.std.proofs.lemmas.Iterator.Search.{all_from_yields_List}
use Rattle.std.specs.Fn.{Called}
use Rattle.std.specs.Iterator.{YieldsThen}
use Rattle.std.specs.List.{list_all, range_with_len, FoldsTo}
use Rattle.std.specs.Option.{MatchOption}
use Rattle.std.specs.declared.ops.Range.{Range}
use denote.Param.Members.{Mut}
use Rattle.choices.specs.Below.{all_below}
use Rattle.choices.proofs.Choices.{by_bool, and_left, and_right, and-true}

pub all_none : (t : ℕ → Bool) → all_below t 0 ≡ true
unfolding all_below
all_none t = refl

pub all_more : (t : ℕ → Bool) (i : ℕ) → all_below t i ≡ true → t i ≡ true → all_below t (i + 1) ≡ true
unfolding all_below
all_more t i e f = rw (add-one i, e, f)

pub all-at : (t : ℕ → Bool) (n : ℕ) → all_below t n ≡ true → (i : ℕ) → i < n → t i ≡ true
unfolding all_below
all-at t zero e i h = absurd (omega arith)
all-at t (suc n) e i h =
    by_bool (ltb i n) (λ l. all-at t n (and_left (all_below t n) (t n) e) i (ltb-true i n l))
    (λ l. let g : n ≤ i = ltb-false i n l in
    let q : i ≡ n = omega arith in
    rw q (and_right (all_below t n) (t n) e))

pub all_of : (t : ℕ → Bool) (n : ℕ) → ((i : ℕ) → i < n → t i ≡ true) → all_below t n ≡ true
unfolding all_below
all_of t zero f = refl
all_of t (suc n) f = rw (all_of t n (λ i h. f i (omega arith)), f n (omega arith))

pub all-fails : (t : ℕ → Bool) (n i : ℕ) → i < n → t i ≡ false → false ≡ all_below t n
all-fails t n i h f =
    by_bool (all_below t n) (λ e. absurd (false≢true (sym f ∙ all-at t n e i h))) (λ e. sym e)

pub all_end : (t : ℕ → Bool) (i n : ℕ) → i ≤ n → n ≤ i → all_below t i ≡ true → true ≡ all_below t n
all_end t i n h g e = let q : i ≡ n = omega arith in sym (rw q at e)

-- ---- what `(0..n).all(..)` answers

all-last : (t : ℕ → Bool) (a n : ℕ) → list_all t (range_with_len a (suc n)) ≡ (list_all t (range_with_len a n) && t (a + n))
all-last t a zero = rw (add-zero a) (and-true (t a))
all-last t a (suc n) =
    let e : a + 1 + n ≡ a + suc n = omega arith in
    rw e at (ap (λ z. t a && z) (all-last t (a + 1) n) ∙ sym (and_assoc (t a) (list_all t (range_with_len (a + 1) n)) (t (a + 1 + n))))

all-in_range : (t : ℕ → Bool) (n : ℕ) → list_all t (range_with_len 0 n) ≡ all_below t n
unfolding all_below
all-in_range t zero = refl
all-in_range t (suc n) = all-last t 0 n ∙ rw (zero-add n, all-in_range t n)

-- from the call's clause `ran`, where the closure answers t of each number
pub below_from_all :
    {F : Type 0} {g : Mut F (ℕ × Unit {0}) Bool} {s : Range ℕ} (t : ℕ → Bool) (n : ℕ) (u : Range ℕ) (f : F) (r : Bool)
    → (xs : List ℕ) × (o : Option ℕ) × (j : F) × YieldsThen nat_range_steps s xs o u × FoldsTo (λ p x q. Called g p (x, tt) true q) f xs j
    × MatchOption o (r ≡ true) (λ x. (r ≡ false) × ((h : F) × Called g j (x, tt) false h))
    → s ≡ record { start = 0; end = n } → ((x : ℕ) (b : Bool) (q : F) → Called g f (x, tt) b q → (q ≡ f) × (b ≡ t x)) → r ≡ all_below t n
below_from_all t n u f r ran e h = all_from_yields_List t u f r ran (YieldsList-from_range 0 n n e (omega arith)) h ∙ all-in_range t n
