-- A part that is read in pieces and kept as it is.
use Rattle.std.specs.Prelude.{◌≡◌, ℕ, List, ⊤, Option}
use Rattle.ioam_dex.specs.Record.{Record}
use Rattle.ioam_part.specs.Faults.{HasFault}
use Rattle.ioam_part.specs.Part.{IsPart}
use Rattle.ioam_part.specs.Reading as part
use Rattle.ioam_part.specs.Reading.{PartReading}
use Rattle.ioam_part.specs.declared.fault.PartFault.{PartFault}
use Rattle.ioam_part.specs.declared.reader.PartRefused.{PartRefused}
use Rattle.ioam_part.specs.declared.reader.PartRefused.TheVariants as refused

-- a keeper as its callers see it: what its reader has, and the octets that it keeps
pub record Keeping : Type 0 where
  pub reader : PartReading
  pub octets : List ℕ

-- a keeper was fed these octets in all, in whatever pieces; its reader holds no record
pub record Keeps (octets : List ℕ) (keeper : Keeping) : Type 0 where
  pub stands : part.Stands 0 octets keeper.reader
  pub kept : keeper.octets ≡ octets

-- how many octets its reader was fed behind the head
abbrev pub fed : Keeping → ℕ
fed keeper = part.fed keeper.reader

-- the fault that was found, if any
abbrev pub fault_of : Keeping → Option (ℕ × PartFault)
fault_of keeper = part.fault_of keeper.reader

-- the octets that were fed are a part, and kept
abbrev pub IsWhole : List ℕ → List ℕ → Type 0
IsWhole octets kept = (kept ≡ octets) × ((xs : List Record) × IsPart octets xs)

-- why there are none: a fault, or no memory
abbrev pub RefusedBy : List ℕ → PartRefused → Type 0
RefusedBy octets (refused.Fault at f) = HasFault octets at f
RefusedBy octets refused.Full = ⊥
RefusedBy octets refused.NoMemory = ⊤
