-- Where a string is, from what was tested before each answer. Assumes nothing.
use Prim.Native.Nat.{ℕ, ◌+◌, ◌/◌, ◌%◌}
use native.Mathlib.Nat.{zero-add}
use mathlib.Core.Path.{◌≡◌}
use mathlib.Core.Bool.{Bool, true, false, not, ◌&&◌}
use mathlib.Core.List.{List}
use lib.ListN.{get_or}
use lib.Dec.{eqb, ltb}
use borrow.Author.Tests.{not-true, not-false}
use Rattle.storage.specs.Layout.{Storage, storage, long_enough}
use Rattle.storage.specs.Fields.{prototypes_of, first_constant}
use Rattle.storage.specs.Stored.{valid_of}
use Rattle.std.specs.Prelude.{Option, Some, None, Ok, Err}
use Rattle.writer.proofs.Answers.{valid-bytes, valid-six}
use Rattle.machine.specs.Results.{is_string, span, span_of}
use Rattle.machine.specs.declared.TextRefusal.TheVariants.{TooShort, NoImage, NoString}

pub string_told :
    (t c k w x : List ℕ) (word p n b : ℕ) → p ≡ prototypes_of t → n ≡ first_constant t p → b ≡ get_or k (0 + word) 0
    → ltb word n && eqb b 4 ≡ is_string (storage t c k w x) word
unfolding is_string
string_told t c k w x word p n b e f g = rw (f, e, g, zero-add word)

module _ (S : Storage) (word : ℕ) (l : Bool) (e : l ≡ long_enough S) where
  pub span-five : not l ≡ true → Err TooShort ≡ span_of S word
  unfolding span_of
  span-five h = rw (← e, not-true l h)

  module _ (h : not l ≡ false) (v : Option ℕ) (f : v ≡ valid_of S) where
    pub span-six : v ≡ None → Err NoImage ≡ span_of S word
    unfolding span_of
    span-six g = rw (← e, not-false l h, valid-six S v f g)

    module _ (n : ℕ) (g : v ≡ Some n) (s : Bool) (i : s ≡ is_string S word) where
      pub span_none : not s ≡ true → Err NoString ≡ span_of S word
      unfolding span_of
      span_none k = rw (← e, not-false l h, (valid-bytes S v f n g).0, ← i, not-true s k)

      pub span-at : not s ≡ false → (w : ℕ) → w ≡ get_or S.words (0 + word) 0 → Ok (span (w / 65536) (w % 65536)) ≡ span_of S word
      unfolding span_of
      span-at k w j = rw (← e, not-false l h, (valid-bytes S v f n g).0, ← i, not-false s k, j, zero-add word)
