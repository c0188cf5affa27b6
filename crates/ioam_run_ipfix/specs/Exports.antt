-- What EXPORTS may be, and which of its records are written as messages.
use Rattle.std.specs.Prelude.{◌≡◌, ℕ, ◌≤◌, List, [], ◌∷◌, ◌++◌, length}
use Rattle.ioam_dex.specs.Record.{Record, most_records}
use Rattle.ioam_dex.specs.Faults.{IsCut}
use Rattle.ioam_dex.specs.Reads.{Ending, Reads, Splits}

-- no more than may be
abbrev pub AreFew : List Record → Type 0
AreFew records = length records ≤ most_records

-- the octets read as these records, and end so
abbrev pub EndsSo : Ending → List Record → List ℕ → Type 0
EndsSo ending records octets = Reads octets records ending

-- these are the first records of the octets
abbrev pub AreFirst : List Record → List ℕ → Type 0
AreFirst records octets = (rest : List ℕ) × Splits octets records rest

-- the octets are these records, as many as may be, and one more behind them
pub record ArePassed (records : List Record) (octets : List ℕ) : Type 0 where
  pub next : Record
  pub rest : List ℕ
  pub splits : Splits octets (records ++ next ∷ []) rest
  pub all : length records ≡ most_records

-- these are the records that are whole in the octets but for those that are left; the record behind them is cut there
pub record AreWhole (left : List ℕ) (records : List Record) (octets : List ℕ) : Type 0 where
  pub handed : List ℕ
  pub parts : octets ≡ handed ++ left
  pub rest : List ℕ
  pub splits : Splits handed records rest
  pub cut : IsCut rest

-- the octets are export records that end so, no more than may be
pub record IsExports (ending : Ending) (octets : List ℕ) : Type 0 where
  pub records : List Record
  pub reads : Reads octets records ending
  pub few : AreFew records

-- the octets are more export records than may be
pub record IsLong (octets : List ℕ) : Type 0 where
  pub records : List Record
  pub passed : ArePassed records octets
