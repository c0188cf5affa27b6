-- How a capture of either form reads: its records, each with the layer that its octets begin at, and
-- how it ends. By its first four octets it is of the form pcapng, else of the classic form.
use Rattle.std.specs.Prelude.{◌≡◌, ℕ, ◌≤◌, ◌⊎◌, List, [], length, map, Option, Some, None}
use Rattle.ioam_base.specs.Octets.{u32_at}
use Rattle.ioam_pcap.specs.Ending.{Ending}
use Rattle.ioam_pcap.specs.Entries.{Entry, Taken}
use Rattle.ioam_pcap.specs.Reads as classic
use Rattle.ioam_ip.specs.declared.layer.Layer.{Layer}
use Rattle.ioam_ng.specs.Reads as ng

-- the capture is of the form pcapng: it begins with the type of a section block
abbrev pub IsNg : List ℕ → Type 0
IsNg octets = (4 ≤ length octets) × (u32_at octets 0 ≡ 0x0a0d0d0a)

-- the records of a capture whose head says one link for all; without a head there are none
abbrev pub of_link : Option Layer → List Entry → List Taken
of_link None entries = []
of_link (Some link) entries = map (λ entry. record { link = link; entry = entry }) entries

-- the octets of the classic form read as these records, and end so
pub record IsClassicly (octets : List ℕ) (taken : List Taken) (ending : Ending) : Type 0 where
  pub link : Option Layer
  pub entries : List Entry
  pub reads : classic.Reads octets link entries ending
  pub are : taken ≡ of_link link entries

-- octets read as these records, and end so
abbrev pub Reads : List ℕ → List Taken → Ending → Type 0
Reads octets taken ending = (IsNg octets × ng.Reads octets taken ending) ⊎ ((IsNg octets → ⊥) × IsClassicly octets taken ending)

-- and in no other way
abbrev pub ReadsOnly : List ℕ → List Taken → Ending → Type 0
ReadsOnly octets taken ending = (others : List Taken) (end : Ending) → Reads octets others end → (others ≡ taken) × (end ≡ ending)
