-- How octets read as export records: the records one behind the other, a rest, and how they end.
use Rattle.std.specs.Prelude.{ℕ, ◌≡◌, ◌<◌, List, [], ◌∷◌, ◌++◌, length, All}
use Rattle.ioam_dex.specs.declared.export.ExportFault.{ExportFault}
use Rattle.ioam_dex.specs.declared.export.ExportFault.TheVariants as fault
use Rattle.ioam_dex.specs.Record.{Record, IsRecord, record_octets}
use Rattle.ioam_dex.specs.Faults.{Fault, IsCut}

-- the octets of these records
abbrev pub records_octets : List Record → List ℕ
records_octets [] = []
records_octets (x ∷ xs) = record_octets x ++ records_octets xs

-- the octets are these records one behind the other, and a rest
pub record Splits (octets : List ℕ) (records : List Record) (rest : List ℕ) : Type 0 where
  pub each : All IsRecord records
  pub is : octets ≡ records_octets records ++ rest

-- how the octets end: behind a whole record, or at a place with a fault
pub data Ending : Type 0 where
  Whole : Ending
  Faulty : ℕ → ExportFault → Ending

-- what is left at a place ends the octets so; of a record that is cut, so many octets are there
abbrev pub EndsAt : ℕ → List ℕ → Ending → Type 0
EndsAt at rest Whole = rest ≡ []
EndsAt at rest (Faulty place (fault.Short have)) = (place ≡ at) × IsCut rest × (have ≡ length rest) × (0 < have)
EndsAt at rest (Faulty place (fault.Version found)) = (place ≡ at) × Fault rest (fault.Version found)
EndsAt at rest (Faulty place (fault.Length found)) = (place ≡ at) × Fault rest (fault.Length found)
EndsAt at rest (Faulty place (fault.Element front)) = (place ≡ at) × Fault rest (fault.Element front)

-- the octets are these records one behind the other, and end so
pub record Reads (octets : List ℕ) (records : List Record) (ending : Ending) : Type 0 where
  pub rest : List ℕ
  pub splits : Splits octets records rest
  pub ends : EndsAt (length (records_octets records)) rest ending

-- and the octets read in no other way
abbrev pub ReadsOnly : List ℕ → List Record → Ending → Type 0
ReadsOnly octets records ending = (others : List Record) (other : Ending) → Reads octets others other
    → (others ≡ records) × (other ≡ ending)
