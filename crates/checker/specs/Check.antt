-- The search over prototypes and instructions. Assumes nothing.
-- "The search over prototypes and instructions stops at the first bad one, out of both; there the lowest number wins. No prototype: 15 at prototype 0,
-- instruction 0." "A prototype without instructions is 14 at instruction 0." proofs/Exact says what it comes to: accepted exactly when every rule holds.
use Rattle.std.specs.Prelude.{ℕ, zero, suc, ◌+◌, List, eqb, Bool, cond, Result, Ok, Err}
use Rattle.storage.specs.Layout.{Storage, long_enough}
use Rattle.storage.specs.Fields.{prototypes_of, registers_of, constants_of, instructions_of, descriptors_of, instruction_at}
use Rattle.storage.specs.Stored.{reads_back}
use Rattle.checker.specs.Rules.{broken_of}
use Rattle.checker.specs.Captures.{captures_at, bare_at}
use Rattle.checker.specs.declared.Limits.{Limits}
use Rattle.checker.specs.declared.Site.{Site}
use Rattle.checker.specs.declared.Refusal.{Refusal}

-- the checker's answer: accepted, or refused with the number, the prototype and the instruction
abbrev pub Checked : Type 0
Checked = Result (Unit {0}) Refusal

abbrev pub accepted : Checked
accepted = Ok tt

abbrev pub refused : ℕ → ℕ → ℕ → Checked
refused n q i = Err (record { number = n; prototype = q; instruction = i })

-- "R registers, K constants", n instructions, the image's prototypes, and the descriptors
abbrev pub limits_of : List ℕ → ℕ → Limits
limits_of table q =
    record {
      registers = registers_of table q;
      constants = constants_of table q;
      instructions = instructions_of table q;
      prototypes = prototypes_of table;
      upvalues = descriptors_of table q;
    }

abbrev pub site : Limits → ℕ → ℕ → Bool → Bool → Site
site l p w captures bare = record { limits = l; place = p; word = w; captures = captures; bare = bare }

-- word w as instruction p of prototype q
abbrev pub site_at : List ℕ → ℕ → ℕ → ℕ → Site
site_at table q p w = site (limits_of table q) p w (captures_at table q w) (bare_at table q p)

-- instruction p of prototype q
abbrev pub site_of : List ℕ → List ℕ → ℕ → ℕ → Site
site_of table code q p = site_at table q p (instruction_at table code q p)

-- the rule that instruction i of prototype q breaks
unfoldable pub broken_at : List ℕ → List ℕ → ℕ → ℕ → ℕ
broken_at table code q i = broken_of (site_of table code q i)

-- what is said of instruction i of prototype q alone
unfoldable pub checked_at : List ℕ → List ℕ → ℕ → ℕ → Checked
checked_at table code q i = cond (eqb (broken_at table code q i) 0) accepted (refused (broken_at table code q i) q i)

-- k instructions of prototype q from i on; `rest` is the verdict on what follows
unfoldable pub code_from : List ℕ → List ℕ → ℕ → ℕ → ℕ → Checked → Checked
code_from table code q zero i rest = rest
code_from table code q (suc k) i rest =
    cond (eqb (broken_at table code q i) 0) (code_from table code q k (i + 1) rest) (refused (broken_at table code q i) q i)

-- k prototypes from q on
unfoldable pub protos_from : List ℕ → List ℕ → ℕ → ℕ → Checked
protos_from table code zero q = accepted
protos_from table code (suc k) q =
    cond (eqb (instructions_of table q) 0) (refused 14 q 0)
    (code_from table code q (instructions_of table q) 0 (protos_from table code k (q + 1)))

unfoldable pub search_of : List ℕ → List ℕ → Checked
search_of table code = cond (eqb (prototypes_of table) 0) (refused 15 0 0) (protos_from table code (prototypes_of table) 0)

-- "Writer, checker and start give 5 for storage or state, then 6"
unfoldable pub check_of : Storage → Checked
check_of S = cond (long_enough S) (cond (reads_back S) (search_of S.table S.code) (refused 6 0 0)) (refused 5 0 0)
