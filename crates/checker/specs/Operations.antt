-- The 31 operations that are carried over, by the way they use their bytes: document 01, "What is carried over" and "Operands", and document 02, 6/12.
-- Assumes nothing.
use Rattle.std.specs.Prelude.{ℕ, ◌+◌, ◌*◌, ◌≤◌, ◌≡◌, ◌⊎◌, Bool, true, cond, List, [], ◌∷◌, eqb, leb, ltb, ℤ, pos, ◌-ℤ◌}
use Rattle.image.specs.Instruction.{operation_of, flags_of, b_of, c_of}

-- how an operation uses its bytes a, b, c
pub data Shape : Type 0 where
  -- "Move, Not, Minus, BitNot a dest, b source"
  copies : Shape
  -- "LoadConstant a dest, bc index"
  loads_constant : Shape
  -- "LoadBool a dest, b value, c skip"
  loads_bool : Shape
  -- "LoadNil a dest, b count"
  loads_nil : Shape
  -- "Call a function, b arguments, c returns"
  calls : Shape
  -- "Return a start, b count"
  returns : Shape
  -- "Jump a close (255: none), bc offset"
  jumps : Shape
  -- "Test a value, b is_true"
  tests : Shape
  -- "TestSet a dest, b value, c is_true"
  tests_and_sets : Shape
  -- "Closure a dest, b prototype"
  closes : Shape
  -- "Both loop operations a base, bc offset"
  prepares : Shape
  loops : Shape
  -- "Eq, Less, LessEq a skip_if, .. all b left, c right"
  compares : Shape
  -- "the other binary operations a dest, all b left, c right"
  combines : Shape
  -- document 02, 6/12: "GetUpValue (a dest, b upvalue)"
  gets_up_value : Shape
  -- "SetUpValue (a upvalue, b source)"
  sets_up_value : Shape
  -- an operation that is not carried
  unknown : Shape

-- "Move 0, LoadConstant, LoadBool, LoadNil 3, Call 10, Return 12, Jump 14, Test, TestSet, Closure, NumericForPrep, NumericForLoop 19, Eq 27, Less, LessEq,
-- Not, Minus, BitNot, Add, Sub, Mul, Div, IDiv, Mod 38, BitAnd 40, BitOr, BitXor, ShiftLeft, ShiftRight 44"; GetUpValue 24 and SetUpValue 25 by the order of
-- the match arms too
unfoldable pub shape_of : ℕ → Shape
shape_of o =
    cond (eqb o 0) copies
    (cond (eqb o 1) loads_constant
    (cond (eqb o 2) loads_bool
    (cond (eqb o 3) loads_nil
    (cond (eqb o 10) calls
    (cond (eqb o 12) returns
    (cond (eqb o 14) jumps
    (cond (eqb o 15) tests
    (cond (eqb o 16) tests_and_sets
    (cond (eqb o 17) closes
    (cond (eqb o 18) prepares
    (cond (eqb o 19) loops
    (cond (eqb o 24) gets_up_value
    (cond (eqb o 25) sets_up_value
    (cond (leb 27 o)
    (cond (leb o 29) compares (cond (leb o 32) copies (cond (leb o 38) combines (cond (leb 40 o) (cond (leb o 44) combines unknown) unknown))))
    unknown))))))))))))))

-- the same the other way round: the operations that have a shape, and no others (proofs/Shapes, `numbered`)
abbrev pub Numbered : Shape → ℕ → Type 0
Numbered copies o = (o ≡ 0) ⊎ ((30 ≤ o) × (o ≤ 32))
Numbered loads_constant o = o ≡ 1
Numbered loads_bool o = o ≡ 2
Numbered loads_nil o = o ≡ 3
Numbered calls o = o ≡ 10
Numbered returns o = o ≡ 12
Numbered jumps o = o ≡ 14
Numbered tests o = o ≡ 15
Numbered tests_and_sets o = o ≡ 16
Numbered closes o = o ≡ 17
Numbered prepares o = o ≡ 18
Numbered loops o = o ≡ 19
Numbered compares o = (27 ≤ o) × (o ≤ 29)
Numbered combines o = ((33 ≤ o) × (o ≤ 38)) ⊎ ((40 ≤ o) × (o ≤ 44))
Numbered gets_up_value o = o ≡ 24
Numbered sets_up_value o = o ≡ 25
Numbered unknown o = Unit {0}

abbrev pub shape_at : ℕ → Shape
shape_at w = shape_of (operation_of w)

-- "In bc, b is the high byte"
abbrev pub bc_of : ℕ → ℕ
bc_of w = b_of w * 256 + c_of w

-- "offsets are signed 16-bit, from the instruction after"
unfoldable pub target_of : ℕ → ℕ → ℤ
target_of p w = cond (ltb (bc_of w) 32768) (pos (p + 1 + bc_of w)) (pos (p + 1 + bc_of w) -ℤ pos 65536)

-- "Flag 1 makes left a constant, flag 2 right."
unfoldable pub left_is_constant : ℕ → Bool
left_is_constant w = cond (eqb (flags_of w) 1) true (eqb (flags_of w) 3)

unfoldable pub right_is_constant : ℕ → Bool
right_is_constant w = cond (eqb (flags_of w) 2) true (eqb (flags_of w) 3)

-- "Each place where the instruction may go next": "p + 1; p + 2 too for Test, TestSet, Eq, Less, LessEq; only p + 2 for LoadBool with skip; only the target for
-- Jump and Prep; p + 1 and the target for NumericForLoop; none for Return"
unfoldable pub next_of : Shape → ℕ → ℕ → List ℤ
next_of copies p w = pos (p + 1) ∷ []
next_of loads_constant p w = pos (p + 1) ∷ []
next_of loads_bool p w = cond (eqb (c_of w) 0) (pos (p + 1) ∷ []) (pos (p + 2) ∷ [])
next_of loads_nil p w = pos (p + 1) ∷ []
next_of calls p w = pos (p + 1) ∷ []
next_of returns p w = []
next_of jumps p w = target_of p w ∷ []
next_of tests p w = pos (p + 1) ∷ pos (p + 2) ∷ []
next_of tests_and_sets p w = pos (p + 1) ∷ pos (p + 2) ∷ []
next_of closes p w = pos (p + 1) ∷ []
next_of prepares p w = target_of p w ∷ []
next_of loops p w = pos (p + 1) ∷ target_of p w ∷ []
next_of compares p w = pos (p + 1) ∷ pos (p + 2) ∷ []
next_of combines p w = pos (p + 1) ∷ []
next_of gets_up_value p w = pos (p + 1) ∷ []
next_of sets_up_value p w = pos (p + 1) ∷ []
next_of unknown p w = []
