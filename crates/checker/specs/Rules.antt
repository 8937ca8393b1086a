-- The rules for one instruction at its site, in the words and order of document 01, with document 02's 6/12: each says when it is kept. Assumes nothing.
use Rattle.std.specs.Prelude.{ℕ, ◌+◌, Bool, true, false, not, ◌&&◌, cond, List, [], ◌∷◌, eqb, leb, ltb, ℤ, pos, negsuc}
use Rattle.image.specs.Instruction.{flags_of, a_of, b_of, c_of}
use Rattle.checker.specs.Operations.{Shape, copies, loads_constant, loads_bool, loads_nil, calls, returns, jumps, tests, tests_and_sets, closes, prepares, loops, compares, combines, gets_up_value, sets_up_value, unknown, shape_at, bc_of, left_is_constant, right_is_constant, next_of}
use Rattle.checker.specs.declared.Site.{Site}

-- "For instruction p of n, R registers, K constants": the registers and constants of the prototype, and the instruction's bytes
abbrev flags : Site → ℕ
flags s = flags_of s.word

abbrev a : Site → ℕ
a s = a_of s.word

abbrev b : Site → ℕ
b s = b_of s.word

abbrev c : Site → ℕ
c s = c_of s.word

abbrev R : Site → ℕ
R s = s.limits.registers

abbrev K : Site → ℕ
K s = s.limits.constants

-- the prototype's descriptors
abbrev U : Site → ℕ
U s = s.limits.upvalues

-- 10: "operation not carried, a count of 255 in Call or Return"; a close register of Jump is "no longer 10"
unfoldable pub carried : Shape → Site → Bool
carried calls s = not (eqb (b s) 255) && not (eqb (c s) 255)
carried returns s = not (eqb (b s) 255)
carried unknown s = false
carried _ s = true

-- 11: "unused byte or flag not zero, yes/no byte above 1"
unfoldable pub tidy : Shape → Site → Bool
tidy copies s = eqb (flags s) 0 && eqb (c s) 0
tidy loads_constant s = eqb (flags s) 0
tidy loads_bool s = eqb (flags s) 0 && leb (b s) 1 && leb (c s) 1
tidy loads_nil s = eqb (flags s) 0 && eqb (c s) 0
tidy calls s = eqb (flags s) 0
tidy returns s = eqb (flags s) 0 && eqb (c s) 0
tidy jumps s = eqb (flags s) 0
tidy tests s = eqb (flags s) 0 && leb (b s) 1 && eqb (c s) 0
tidy tests_and_sets s = eqb (flags s) 0 && leb (c s) 1
tidy closes s = eqb (flags s) 0 && eqb (c s) 0
tidy prepares s = eqb (flags s) 0
tidy loops s = eqb (flags s) 0
tidy compares s = leb (flags s) 3 && leb (a s) 1
tidy combines s = leb (flags s) 3
tidy gets_up_value s = eqb (flags s) 0 && eqb (c s) 0
tidy sets_up_value s = eqb (flags s) 0 && eqb (c s) 0
tidy unknown s = true

-- 12: "every register operand below R .. Ranges instead: LoadNil dest + count at most R; Return start + count at most R; Call function + 1 + arguments, and
-- function + returns, at most R. Prep needs base + 2 below R, NumericForLoop base + 3." A close register of Jump: "12 if not below R", 255 is none.
unfoldable pub sources_in : Site → Bool
sources_in s = cond (left_is_constant s.word) true (ltb (b s) (R s)) && cond (right_is_constant s.word) true (ltb (c s) (R s))

unfoldable pub registers_in : Shape → Site → Bool
registers_in copies s = ltb (a s) (R s) && ltb (b s) (R s)
registers_in loads_constant s = ltb (a s) (R s)
registers_in loads_bool s = ltb (a s) (R s)
registers_in loads_nil s = leb (a s + b s) (R s)
registers_in calls s = leb (a s + 1 + b s) (R s) && leb (a s + c s) (R s)
registers_in returns s = leb (a s + b s) (R s)
registers_in jumps s = cond (eqb (a s) 255) true (ltb (a s) (R s))
registers_in tests s = ltb (a s) (R s)
registers_in tests_and_sets s = ltb (a s) (R s) && ltb (b s) (R s)
registers_in closes s = ltb (a s) (R s)
registers_in prepares s = ltb (a s + 2) (R s)
registers_in loops s = ltb (a s + 3) (R s)
registers_in compares s = sources_in s
registers_in combines s = ltb (a s) (R s) && sources_in s
registers_in gets_up_value s = ltb (a s) (R s)
registers_in sets_up_value s = ltb (b s) (R s)
registers_in unknown s = true

-- 13: "and constant below K"
unfoldable pub source_constants : Site → Bool
source_constants s = cond (left_is_constant s.word) (ltb (b s) (K s)) true && cond (right_is_constant s.word) (ltb (c s) (K s)) true

unfoldable pub constants_in : Shape → Site → Bool
constants_in loads_constant s = ltb (bc_of s.word) (K s)
constants_in compares s = source_constants s
constants_in combines s = source_constants s
constants_in _ s = true

-- 14: "Each place where the instruction may go next lies in 0 to n - 1"
unfoldable pub inside : ℕ → ℤ → Bool
inside n (pos k) = ltb k n
inside n (negsuc k) = false

unfoldable pub all_inside : ℕ → List ℤ → Bool
all_inside n [] = true
all_inside n (z ∷ zs) = inside n z && all_inside n zs

unfoldable pub targets_in : Shape → Site → Bool
targets_in x s = all_inside s.limits.instructions (next_of x s.place s.word)

-- 15: "Closure's prototype not in the image"
unfoldable pub prototype_in_image : Shape → Site → Bool
prototype_in_image closes s = ltb (b s) s.limits.prototypes
prototype_in_image _ s = true

-- 16: "each descriptor in range of every prototype that names it in a Closure, upvalue operands below the descriptor count, and no descriptors on prototype 0";
-- that "on prototype 0 at instruction 0", whatever stands there
unfoldable pub upvalues_in : Shape → Site → Bool
upvalues_in closes s = s.captures && s.bare
upvalues_in gets_up_value s = ltb (b s) (U s) && s.bare
upvalues_in sets_up_value s = ltb (a s) (U s) && s.bare
upvalues_in _ s = s.bare

-- "the lowest number wins": the number of the first rule that is broken, 0 where none is; "16 .. after 15"
unfoldable pub lowest : Bool → Bool → Bool → Bool → Bool → Bool → Bool → ℕ
lowest k10 k11 k12 k13 k14 k15 k16 =
    cond k10 (cond k11 (cond k12 (cond k13 (cond k14 (cond k15 (cond k16 0 16) 15) 14) 13) 12) 11) 10

-- the rule that is broken by an instruction of shape x
unfoldable pub broken_as : Shape → Site → ℕ
broken_as x s =
    lowest (carried x s) (tidy x s) (registers_in x s) (constants_in x s) (targets_in x s) (prototype_in_image x s) (upvalues_in x s)

unfoldable pub broken_of : Site → ℕ
broken_of s = broken_as (shape_at s.word) s
