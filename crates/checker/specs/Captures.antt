-- What rule 16 looks at beside the instruction: the descriptors of the prototype that a Closure names, and those of prototype 0. Document 02, 6/12. Assumes nothing.
use Rattle.std.specs.Prelude.{ℕ, ◌-◌, Bool, true, ◌&&◌, cond, List, eqb, leb, ltb}
use Rattle.choices.specs.Below.{all_below}
use Rattle.image.specs.Instruction.{operation_of, b_of}
use Rattle.storage.specs.Fields.{registers_of, descriptors_of, descriptor_of}

-- in range of prototype q, the parent: "00 and a parent's register, or 01 and the parent's upvalue number"
unfoldable pub descriptor_in : List ℕ → ℕ → ℕ → Bool
descriptor_in table q d = cond (ltb d 256) (ltb d (registers_of table q)) (ltb (d - 256) (descriptors_of table q))

-- "each descriptor in range of every prototype that names it in a Closure": prototype q names n. "at most 8": an image has no more, and more are none in range.
unfoldable pub captures_in : List ℕ → ℕ → ℕ → Bool
captures_in table q n =
    leb (descriptors_of table n) 8 && all_below (λ i. descriptor_in table q (descriptor_of table n i)) (descriptors_of table n)

-- the same at an instruction w of prototype q: only Closure, 17, names one
unfoldable pub captures_at : List ℕ → ℕ → ℕ → Bool
captures_at table q w = cond (eqb (operation_of w) 17) (captures_in table q (b_of w)) true

-- "no descriptors on prototype 0", said of its instruction 0
unfoldable pub bare_at : List ℕ → ℕ → ℕ → Bool
bare_at table q p = cond (eqb q 0) (cond (eqb p 0) (eqb (descriptors_of table 0) 0) true) true
