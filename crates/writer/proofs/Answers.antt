-- The writer's four answers, each from what was tested before it. Assumes nothing.
use Prim.Native.Nat.{ℕ, ◌+◌, ◌≤◌, ◌<◌}
use native.Mathlib.Omega.{arith}
use mathlib.Core.Path.{◌≡◌, refl, sym, ◌∙◌}
use mathlib.Core.Bool.{Bool, true, false, not}
use mathlib.Core.List.{List, ◌++◌}
use lib.ListN.{length, take, drop}
use lib.Seq.{sets-eq}
use borrow.Author.Tests.{le-leb, lt-leb, not-true}
use Rattle.std.specs.Prelude.{Option, Some, None, Ok, Err}
use Rattle.choices.proofs.Choices.{by_bool}
use Rattle.storage.specs.Layout.{Storage, long_enough, laid}
use Rattle.storage.specs.Stored.{image_in, reads_back, valid_of}
use Rattle.writer.specs.Writing.{write_of, out_of, Written}
use Rattle.writer.specs.Putting.{Put}
use Rattle.writer.specs.declared.WriteRefusal.TheVariants.{TooShort, NoImage}

-- what the test behind 6 answered
module _ (S : Storage) (v : Option ℕ) (told : v ≡ valid_of S) where
  pub valid-bytes : (n : ℕ) → v ≡ Some n → (reads_back S ≡ true) × (length (image_in S) ≡ n)
  valid-bytes n e = from (sym told ∙ e)
    where
      from : valid_of S ≡ Some n → (reads_back S ≡ true) × (length (image_in S) ≡ n)
      from = unfold valid_of in
          by_bool (reads_back S) (λ e. rw e (λ h. (refl, cc)))
          (λ e. rw e (λ h. let z : ◌≡◌ {A = ℕ} 0 1 = cc in absurd (omega arith)))

  pub valid-six : v ≡ None → reads_back S ≡ false
  valid-six e = from (sym told ∙ e)
    where
      from : valid_of S ≡ None → reads_back S ≡ false
      from = unfold valid_of in
          by_bool (reads_back S) (λ e. rw e (λ h. let z : ◌≡◌ {A = ℕ} 0 1 = cc in absurd (omega arith))) (λ e. rw e (λ h. refl))

pub short : (S : Storage) (out : List ℕ) (b : Bool) → b ≡ long_enough S → not b ≡ true → Written S (Err TooShort) out out
unfolding write_of out_of
short S out b e h = record { answer = rw (← e, not-true b h); left = refl }

module _ (S : Storage) (out : List ℕ) (long : long_enough S ≡ true) (v : Option ℕ) (told : v ≡ valid_of S) where
  pub six : v ≡ None → Written S (Err NoImage) out out
  unfolding write_of out_of
  six e = record { answer = rw (long, valid-six S v told e); left = refl }

  pub small : (n : ℕ) → v ≡ Some n → length out < n → Written S (Err TooShort) out out
  unfolding write_of out_of
  small n e h =
      let b = valid-bytes S v told n e in
      record { answer = rw (long, b.0, b.1) (simp (lt-leb _ _ h)); left = refl }

  pub bytes :
      (n r : ℕ) (out' : List ℕ) → v ≡ Some n → n ≤ length out → Put out 0 (image_in S) r out' → Written S (Ok n) out out'
  unfolding write_of out_of
  bytes n r out' e h p =
      let b = valid-bytes S v told n e in
      record {
        answer = rw (long, b.0, b.1) (simp (le-leb _ _ h));
        left = p.left ∙ sets-eq (image_in S) out 0 (omega (arith, b.1)) ∙ front (image_in S) out;
      }
    where
      front : (xs l : List ℕ) → (take 0 l ++ xs) ++ drop (0 + length xs) l ≡ laid xs l
      front xs l = let e : 0 + length xs ≡ length xs = omega arith in rw e
