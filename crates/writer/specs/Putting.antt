-- For the code's own steps: bytes put into the output from a place on. Assumes nothing.
use Rattle.std.specs.Prelude.{ℕ, ◌+◌, ◌≤◌, ◌<◌, ◌≡◌, List, length}
use Rattle.std.proofs.lemmas.List.Edits.{sets}
use Rattle.storage.specs.Fields.{registers_of, parameters_of, descriptors_of, descriptor_of}

-- there is room for them
abbrev pub Room : List ℕ → ℕ → List ℕ → Type 0
Room out at bytes = at + length bytes ≤ length out

-- they stand there, and r is the place after them
pub record Put (out : List ℕ) (at : ℕ) (bytes : List ℕ) (r : ℕ) (out' : List ℕ) : Type 0 where
  pub next : r ≡ at + length bytes
  pub left : out' ≡ sets out at bytes

-- the words of prototype q's first n descriptors are two bytes each
abbrev pub Slim : List ℕ → ℕ → ℕ → Type 0
Slim table q n = (i : ℕ) → i < n → descriptor_of table q i < 65536

-- prototype q's registers and parameters are bytes, and its descriptors are slim
abbrev pub Narrow : List ℕ → ℕ → Type 0
Narrow table q = (registers_of table q < 256) × ((parameters_of table q < 256) × Slim table q (descriptors_of table q))
