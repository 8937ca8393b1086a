-- What an accepted image keeps, and where one that is refused breaks the rules first: proofs/Exact shows that `check_of` says just this. Assumes nothing.
use Rattle.std.specs.Prelude.{ℕ, ◌<◌, ◌≡◌, true, List}
use Rattle.storage.specs.Layout.{Storage, long_enough}
use Rattle.storage.specs.Fields.{prototypes_of, instructions_of}
use Rattle.storage.specs.Stored.{ReadsTo}
use Rattle.checker.specs.Operations.{shape_at}
use Rattle.checker.specs.Rules as rules
use Rattle.checker.specs.Check.{site_of, broken_at}
use Rattle.checker.specs.declared.Site.{Site}

-- the seven rules, 10 to 16, at one instruction
pub record Kept (s : Site) : Type 0 where
  pub carried : rules.carried (shape_at s.word) s ≡ true
  pub tidy : rules.tidy (shape_at s.word) s ≡ true
  pub registers : rules.registers_in (shape_at s.word) s ≡ true
  pub constants : rules.constants_in (shape_at s.word) s ≡ true
  pub targets : rules.targets_in (shape_at s.word) s ≡ true
  pub prototype : rules.prototype_in_image (shape_at s.word) s ≡ true
  pub upvalues : rules.upvalues_in (shape_at s.word) s ≡ true

abbrev pub KeptAt : List ℕ → List ℕ → ℕ → ℕ → Type 0
KeptAt table code q i = Kept (site_of table code q i)

-- prototype q has instructions, and each keeps the rules
pub record Sound (table code : List ℕ) (q : ℕ) : Type 0 where
  pub some : instructions_of table q ≡ 0 → ⊥
  pub each : (i : ℕ) → i < instructions_of table q → KeptAt table code q i

-- all that is demanded: the storage is long enough, it is what an image reads to, and its prototypes are sound
pub record Demanded (S : Storage) : Type 0 where
  pub long : long_enough S ≡ true
  pub image : List ℕ
  pub reads : ReadsTo image S
  pub some : prototypes_of S.table ≡ 0 → ⊥
  pub each : (q : ℕ) → q < prototypes_of S.table → Sound S.table S.code q

-- what is bad at a place, and its number
pub data BadAt (table code : List ℕ) : ℕ → ℕ → ℕ → Type 0 where
  -- "No prototype: 15 at prototype 0, instruction 0."
  none : prototypes_of table ≡ 0 → BadAt table code 15 0 0
  -- "A prototype without instructions is 14 at instruction 0."
  empty : (q : ℕ) → q < prototypes_of table → instructions_of table q ≡ 0 → BadAt table code 14 q 0
  -- instruction i of prototype q is the first to break a rule; "there the lowest number wins"
  breaks :
      (n q i : ℕ) → q < prototypes_of table → i < instructions_of table q → ((j : ℕ) → j < i → KeptAt table code q j)
      → broken_at table code q i ≡ n → (n ≡ 0 → ⊥) → BadAt table code n q i

-- the first bad place: the prototypes before it are sound
pub record FirstBad (S : Storage) (n q i : ℕ) : Type 0 where
  pub long : long_enough S ≡ true
  pub image : List ℕ
  pub reads : ReadsTo image S
  pub before : (j : ℕ) → j < q → Sound S.table S.code j
  pub here : BadAt S.table S.code n q i
