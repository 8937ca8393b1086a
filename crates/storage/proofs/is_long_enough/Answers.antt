-- `storage::is_long_enough` meets its contract: each return decides the tests of `long_enough` as the code did. Assumes nothing.
use borrow.Author.Tests.{le-leb, lt-leb}
use Rattle.storage.specs.Layout.{long_enough}
use Rattle.storage.proofs.is_long_enough.Goals as goal

pub returns-then-table-lt-TABLE : goal.returns-then-table-lt-TABLE
unfolding long_enough
returns-then-table-lt-TABLE c = simp (lt-leb _ _ c.if-table-lt-TABLE.true)

pub returns-then-code-lt-CODE : goal.returns-then-code-lt-CODE
unfolding long_enough
returns-then-code-lt-CODE c = simp (le-leb _ _ c.if-table-lt-TABLE.false, lt-leb _ _ c.if-code-lt-CODE.true)

pub returns-then-const_kinds-lt-CONSTANTS : goal.returns-then-const_kinds-lt-CONSTANTS
unfolding long_enough
returns-then-const_kinds-lt-CONSTANTS c = simp (le-leb _ _ c.if-table-lt-TABLE.false, le-leb _ _ c.if-code-lt-CODE.false, lt-leb _ _ c.if-const_kinds-lt-CONSTANTS.true)

pub returns-then-const_words-lt-CONSTANTS : goal.returns-then-const_words-lt-CONSTANTS
unfolding long_enough
returns-then-const_words-lt-CONSTANTS c =
    simp (
      le-leb _ _ c.if-table-lt-TABLE.false,
      le-leb _ _ c.if-code-lt-CODE.false,
      le-leb _ _ c.if-const_kinds-lt-CONSTANTS.false,
      lt-leb _ _ c.if-const_words-lt-CONSTANTS.true,
    )

pub returns-then-texts-lt-TEXTS : goal.returns-then-texts-lt-TEXTS
unfolding long_enough
returns-then-texts-lt-TEXTS c =
    simp (
      le-leb _ _ c.if-table-lt-TABLE.false,
      le-leb _ _ c.if-code-lt-CODE.false,
      le-leb _ _ c.if-const_kinds-lt-CONSTANTS.false,
      le-leb _ _ c.if-const_words-lt-CONSTANTS.false,
      lt-leb _ _ c.if-texts-lt-TEXTS.true,
    )

pub returns : goal.returns
unfolding long_enough
returns c =
    simp (
      le-leb _ _ c.if-table-lt-TABLE.false,
      le-leb _ _ c.if-code-lt-CODE.false,
      le-leb _ _ c.if-const_kinds-lt-CONSTANTS.false,
      le-leb _ _ c.if-const_words-lt-CONSTANTS.false,
      le-leb _ _ c.if-texts-lt-TEXTS.false,
    )
