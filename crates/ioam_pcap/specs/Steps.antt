-- What a step over the octets where a head or a record is due tells of them.
use Rattle.std.specs.Prelude.{◌≡◌, ℕ, ◌<◌, ◌^◌, ⊤, List}
use Rattle.ioam_pcap.specs.declared.form.Form.{Form}
use Rattle.ioam_pcap.specs.declared.head.HeadStep.{HeadStep}
use Rattle.ioam_pcap.specs.declared.head.HeadStep.TheVariants as head
use Rattle.ioam_pcap.specs.declared.entry.EntryStep.{EntryStep}
use Rattle.ioam_pcap.specs.declared.entry.EntryStep.TheVariants as entry
use Rattle.ioam_pcap.specs.Form.{HasHead}
use Rattle.ioam_pcap.specs.Entries.{IsWhole, entry_at, captured}
use Rattle.ioam_pcap.specs.Reads.{HeadFault, IsHeadCut, EntryFault, IsEntryCut}

-- what the front of octets shows of a head: a whole one, too few octets, or a fault
abbrev pub TellsHead : List ℕ → HeadStep → Type 0
TellsHead octets (head.Whole form) = HasHead octets form
TellsHead octets head.Cut = IsHeadCut octets
TellsHead octets (head.Bad fault) = HeadFault octets fault

-- what the front of octets shows of a record: a whole one, too few octets, or a fault
abbrev pub TellsEntry : Form → List ℕ → EntryStep → Type 0
TellsEntry form octets (entry.Whole h) = IsWhole form octets 0 × (h.captured ≡ captured form octets 0)
    × (h.time ≡ (entry_at form octets 0).time) × (h.original ≡ (entry_at form octets 0).original)
TellsEntry form octets entry.Cut = IsEntryCut form octets 0
TellsEntry form octets (entry.Bad fault) = EntryFault form octets 0 fault

-- the time of a record that is read is below 2^62
abbrev pub IsTimely : EntryStep → Type 0
IsTimely (entry.Whole h) = h.time < 2 ^ 62
IsTimely entry.Cut = ⊤
IsTimely (entry.Bad fault) = ⊤
