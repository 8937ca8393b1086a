-- `storage::next_const` meets its contract: each return decides the tests of `next_const` as the code did. Assumes nothing.
use borrow.Author.Tests.{le-leb, lt-leb, lt-ltb, le-ltb, eq-eqb, ne_eqb}
use Rattle.storage.specs.Cursor.{next_const}
use Rattle.storage.proofs.next_const.Goals as goal

pub returns-then-const_kinds-c : goal.returns-then-const_kinds-c
unfolding next_const
returns-then-const_kinds-c c = simp (le-ltb _ _ c.if-const_kinds-c.true)

pub returns-then-const_words-c : goal.returns-then-const_words-c
unfolding next_const
returns-then-const_words-c c = simp (lt-ltb _ _ c.if-const_kinds-c.false, le-ltb _ _ c.if-const_words-c.true)

pub returns-then-w-most_of : goal.returns-then-w-most_of
unfolding next_const
returns-then-w-most_of c =
    let b = c in
    simp (
      lt-ltb _ _ b.if-const_kinds-c.false,
      lt-ltb _ _ b.if-const_words-c.false,
      lt-ltb _ _ c.if-kind-lt4.true,
      ← c.most_of.ensures,
      le-leb _ _ c.if-w-most_of.true,
    )

pub returns-then-kind-lt4 : goal.returns-then-kind-lt4
unfolding next_const
returns-then-kind-lt4 c =
    let b = c in
    simp (
      lt-ltb _ _ b.if-const_kinds-c.false,
      lt-ltb _ _ b.if-const_words-c.false,
      lt-ltb _ _ c.if-kind-lt4.true,
      ← c.most_of.ensures,
      lt-leb _ _ c.if-w-most_of.false,
    )

pub returns-then-kind-eq4 : goal.returns-then-kind-eq4
unfolding next_const
returns-then-kind-eq4 c =
    let b = c in
    simp (
      lt-ltb _ _ b.if-const_kinds-c.false,
      lt-ltb _ _ b.if-const_words-c.false,
      le-ltb _ _ c.if-kind-lt4.false,
      eq-eqb _ _ c.if-kind-eq4.true,
    ) c.next_text.ensures

pub returns : goal.returns
unfolding next_const
returns c =
    let b = c in
    simp (
      lt-ltb _ _ b.if-const_kinds-c.false,
      lt-ltb _ _ b.if-const_words-c.false,
      le-ltb _ _ c.if-kind-lt4.false,
      ne_eqb _ _ c.if-kind-eq4.false,
    )
