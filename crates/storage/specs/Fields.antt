-- The storage's fields by name. A place that is not there reads as 0. Assumes nothing.
use Rattle.std.specs.Prelude.{ℕ, ◌+◌, ◌-◌, ◌*◌, List, get_or, eqb, cond}

abbrev pub prototypes_of : List ℕ → ℕ
prototypes_of table = get_or table 0 0

-- where prototype q's entry begins; entry q = number of prototypes is the closing one
abbrev pub entry_place : ℕ → ℕ
entry_place q = 1 + 4 * q

-- document 02, 6/12: behind the entries of 32 prototypes and the closing one, for each prototype the number of its descriptors, then room for 8
abbrev pub descriptors_place : ℕ → ℕ
descriptors_place q = entry_place 33 + 9 * q

-- how many words there are
abbrev pub table_slots : ℕ
table_slots = descriptors_place 32

-- field i of prototype q's entry
abbrev pub field : ℕ → List ℕ → ℕ → ℕ
field i table q = get_or table (entry_place q + i) 0

abbrev pub registers_of : List ℕ → ℕ → ℕ
registers_of table q = field 0 table q

abbrev pub parameters_of : List ℕ → ℕ → ℕ
parameters_of table q = field 1 table q

abbrev pub first_constant : List ℕ → ℕ → ℕ
first_constant table q = field 2 table q

abbrev pub first_instruction : List ℕ → ℕ → ℕ
first_instruction table q = field 3 table q

-- how many descriptors prototype q has, and its descriptor i: "00 and a parent's register" is the register, "01 and the parent's upvalue number" 256 more than that
abbrev pub descriptors_of : List ℕ → ℕ → ℕ
descriptors_of table q = get_or table (descriptors_place q) 0

abbrev pub descriptor_of : List ℕ → ℕ → ℕ → ℕ
descriptor_of table q i = get_or table (descriptors_place q + (1 + i)) 0

-- the next prototype's begin where these end
abbrev pub constants_of : List ℕ → ℕ → ℕ
constants_of table q = first_constant table (q + 1) - first_constant table q

abbrev pub instructions_of : List ℕ → ℕ → ℕ
instructions_of table q = first_instruction table (q + 1) - first_instruction table q

-- instruction i of prototype q
abbrev pub instruction_at : List ℕ → List ℕ → ℕ → ℕ → ℕ
instruction_at table code q i = get_or code (first_instruction table q + i) 0

-- constant c of prototype q as a register holds it: a string by the number of its constant in the whole image
abbrev pub constant_kind : List ℕ → List ℕ → ℕ → ℕ → ℕ
constant_kind table kinds q c = get_or kinds (first_constant table q + c) 0

abbrev pub constant_word : List ℕ → List ℕ → List ℕ → ℕ → ℕ → ℕ
constant_word table kinds words q c =
    cond (eqb (constant_kind table kinds q c) 4) (first_constant table q + c) (get_or words (first_constant table q + c) 0)
