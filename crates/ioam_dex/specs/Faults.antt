-- What octets where a record is due show of it.
use Rattle.std.specs.Prelude.{ℕ, ◌+◌, ◌≡◌, ◌≢◌, ◌<◌, ◌≤◌, ◌⊎◌, List, ◌++◌, length, drop, slice_index}
use Rattle.ioam_dex.specs.declared.export.ExportFault.{ExportFault}
use Rattle.ioam_dex.specs.declared.export.ExportFault.TheVariants as fault
use Rattle.ioam_dex.specs.declared.head.Sizing.{Sizing}
use Rattle.ioam_dex.specs.declared.head.Sizing.TheVariants as sizing
use Rattle.ioam_dex.specs.declared.head.RecordHead.{RecordHead}
use Rattle.ioam_dex.specs.declared.head.RecordStep.{RecordStep}
use Rattle.ioam_dex.specs.declared.head.RecordStep.TheVariants as step
use Rattle.ioam_data.specs.Elements.{IsFilled}
use Rattle.ioam_data.specs.Written.{most_exported}
use Rattle.ioam_dex.specs.Visit.{IsVersion}
use Rattle.ioam_dex.specs.Record.{Record, IsRecord, record_octets, length_of, front_of, element_of, kind_of, IsSized}

-- the record that is due has this fault, whatever stands behind the octets
abbrev pub Fault : List ℕ → ExportFault → Type 0
Fault octets (fault.Version found) = (1 ≤ length octets) × (found ≡ slice_index octets 0) × (found ≢ 1) × (found ≢ 2)
Fault octets (fault.Length found) = (4 ≤ length octets) × IsVersion (slice_index octets 0) × (found ≡ length_of octets)
    × ((found < front_of octets) ⊎ (front_of octets + most_exported < found))
Fault octets (fault.Element at) = IsSized octets × (length_of octets ≤ length octets) × (at ≡ front_of octets)
    × (IsFilled (kind_of octets) (element_of octets) → ⊥)
Fault octets (fault.Short have) = ⊥

-- it is not whole, and has no fault so far
abbrev pub IsCut : List ℕ → Type 0
IsCut octets = (length octets < 1) ⊎ ((IsVersion (slice_index octets 0) × (length octets < 4)) ⊎ (IsSized octets × (length octets < length_of octets)))

-- ---- what the steps tell

-- what is answered of the octets where a record is due: how many stand in front of its element and how many it has in all; or
-- it is cut; or it has this fault
abbrev pub TellsSize : List ℕ → Sizing → Type 0
TellsSize octets (sizing.Sized front size) = IsSized octets × (front ≡ front_of octets) × (size ≡ length_of octets)
TellsSize octets sizing.Cut = IsCut octets
TellsSize octets (sizing.Bad fault) = Fault octets fault

-- what a head says with an element behind it
abbrev pub said : RecordHead → List ℕ → Record
said head element = record {
  namespace = head.namespace.0;
  flags = head.flags;
  ext = head.ext;
  kind = head.kind;
  visit = head.visit;
  flow = head.flow;
  seq = head.seq;
  element = element;
}

-- the same of the whole record: it can be written, and the octets begin with it as it is written; or it is cut; or it has
-- this fault
abbrev pub TellsRecord : List ℕ → RecordStep → Type 0
TellsRecord octets (step.Whole head) =
    let x = said head (element_of octets) in
    (head.front ≡ front_of octets) × (head.size ≡ length (record_octets x)) × IsRecord x × (octets ≡ record_octets x ++ drop head.size octets)
TellsRecord octets step.Cut = IsCut octets
TellsRecord octets (step.Bad fault) = Fault octets fault
