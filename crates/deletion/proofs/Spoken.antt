-- What a word stands for, by the first name that it says; and that a text as long as the word, from 0 on, is the whole word. Assumes nothing.
use Prim.Native.Nat.{ℕ, ◌/◌, ◌%◌, ◌<◌}
use native.Mathlib.Omega.{arith}
use mathlib.Core.Path.{◌≡◌}
use mathlib.Core.Bool.{true, false}
use mathlib.Core.List.{List, [], ◌∷◌}
use lib.ListN.{length}
use lib.Seq.{take_all}
use Rattle.constant.specs.Values.{text_of}
use Rattle.constant.specs.declared.Value.TheVariants as value
use Rattle.figures.specs.Figures.{figure_of}
use Rattle.figures.specs.Figured.{read_as}
use Rattle.deletion.specs.Words.{says, nil_word, true_word, false_word, argument_of}

pub whole-text : (word : List ℕ) → length word < 65536 → text_of (length word ∷ []) word 0 ≡ word
whole-text word h =
    let low : length word % 65536 ≡ length word = omega arith in
    let high : length word / 65536 ≡ 0 = omega arith in
    rw (low, high) (take_all (length word) word (omega arith))

module _ (word : List ℕ) where
  pub nil-said : says nil_word word ≡ true → value.Nil ≡ argument_of word
  unfolding argument_of
  nil-said n = rw n

  module _ (n : says nil_word word ≡ false) where
    pub true_said : says true_word word ≡ true → value.Boolean true ≡ argument_of word
    unfolding argument_of
    true_said t = rw (n, t)

    module _ (t : says true_word word ≡ false) where
      pub false_said : says false_word word ≡ true → value.Boolean false ≡ argument_of word
      unfolding argument_of
      false_said f = rw (n, t, f)

      pub none_said : says false_word word ≡ false → read_as 0 (figure_of word) ≡ argument_of word
      unfolding argument_of
      none_said f = rw (n, t, f)
