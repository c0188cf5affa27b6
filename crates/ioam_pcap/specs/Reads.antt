-- How a capture reads: a head, the records behind it, and how it ends.
use Rattle.std.specs.Prelude.{◌≡◌, ℕ, ◌+◌, ◌≤◌, ◌<◌, ◌⊎◌, List, [], length, Option, Some, None, IsSome, option_map}
use Rattle.ioam_base.specs.Octets.{u32_at}
use Rattle.ioam_ip.specs.declared.layer.Layer.{Layer}
use Rattle.ioam_pcap.specs.declared.form.Order.{Order}
use Rattle.ioam_pcap.specs.declared.form.Fraction.{Fraction}
use Rattle.ioam_pcap.specs.declared.form.Form.{Form}
use Rattle.ioam_pcap.specs.declared.capture.CapFault.{CapFault}
use Rattle.ioam_pcap.specs.declared.capture.CapFault.TheVariants as fault
use Rattle.ioam_pcap.specs.Form.{number_at, spelling, IsUnspelled, HasHead}
use Rattle.ioam_pcap.specs.Link.{IsNoLinkType}
use Rattle.ioam_pcap.specs.Ending.{Ending, Whole, Faulty}
use Rattle.ioam_pcap.specs.Entries.{Entry, most, captured, IsWhole, entry_at, Entries}

-- the octets spell this order and this fraction, and so have a magic number
abbrev pub HasMagic : List ℕ → Order → Fraction → Type 0
HasMagic octets order fraction = (4 ≤ length octets) × (u32_at octets 0 ≡ spelling order fraction)

-- the head of these octets has this fault
abbrev pub HeadFault : List ℕ → CapFault → Type 0
HeadFault octets f = ((found : ℕ) × (f ≡ fault.Magic found) × (4 ≤ length octets) × (found ≡ u32_at octets 0) × IsUnspelled found)
    ⊎ ((found : ℕ) × (f ≡ fault.Link found) × (24 ≤ length octets) × IsNoLinkType found
    × ((order : Order) × (fraction : Fraction) × HasMagic octets order fraction × (found ≡ number_at order octets 20)))

-- these octets are the front of a head: it is not whole, and has no fault so far
abbrev pub IsHeadCut : List ℕ → Type 0
IsHeadCut octets = (length octets < 4) ⊎ ((length octets < 24) × ((order : Order) × (fraction : Fraction) × HasMagic octets order fraction))

-- the record that is due at a place has this fault
abbrev pub EntryFault : Form → List ℕ → ℕ → CapFault → Type 0
EntryFault form octets at f = (found : ℕ) × (f ≡ fault.RecordLong found) × (at + 16 ≤ length octets) × (found ≡ captured form octets at) × (most < found)

-- at a place stands the front of a record, or nothing: it is not whole, and has no fault so far
abbrev pub IsEntryCut : Form → List ℕ → ℕ → Type 0
IsEntryCut form octets at = (length octets < at + 16) ⊎ ((captured form octets at ≤ most) × (length octets < at + 16 + captured form octets at))

-- behind these records, the place where the next is due; without a form it is the front, where the
-- head is due
abbrev pub Reached : List ℕ → Option Form → List Entry → ℕ → Type 0
Reached octets None entries at = (entries ≡ []) × (at ≡ 0)
Reached octets (Some form) entries at = HasHead octets form × Entries form octets 24 entries at

-- what is due there has this fault, whatever stands behind the octets
abbrev pub FaultAt : List ℕ → Option Form → ℕ → CapFault → Type 0
FaultAt octets None at fault = HeadFault octets fault
FaultAt octets (Some form) at fault = EntryFault form octets at fault

-- what is due there is not whole, and has no fault so far
abbrev pub CutAt : List ℕ → Option Form → ℕ → Type 0
CutAt octets None at = IsHeadCut octets
CutAt octets (Some form) at = IsEntryCut form octets at

-- this record is due there, and whole
abbrev pub EntryAt : List ℕ → Option Form → ℕ → Entry → Type 0
EntryAt octets None at entry = ⊥
EntryAt octets (Some form) at entry = IsWhole form octets at × (entry ≡ entry_at form octets at)

-- what stands at a place that was reached: a head, a record, the front of one of them or nothing, or
-- a fault
pub data Shown : Type 0 where
  HeadShown : Layer → Shown
  EntryShown : Entry → Shown
  CutShown : Shown
  FaultShown : CapFault → Shown

-- this is what stands there
abbrev pub Shows : List ℕ → Option Form → ℕ → Shown → Type 0
Shows octets form at (HeadShown link) = (form ≡ None) × ((f : Form) × HasHead octets f × (f.link ≡ link))
Shows octets form at (EntryShown entry) = EntryAt octets form at entry
Shows octets form at CutShown = CutAt octets form at
Shows octets form at (FaultShown fault) = FaultAt octets form at fault

-- what is due there is cut by the end of the octets; of it so many are there
abbrev pub IsShort : List ℕ → Option Form → ℕ → CapFault → Type 0
IsShort octets form at f = (have : ℕ) × (f ≡ fault.Short have) × CutAt octets form at × (at + have ≡ length octets) × (IsSome form → 0 < have)

-- the octets end so, where this place is reached
abbrev pub EndsAt : List ℕ → Option Form → ℕ → Ending → Type 0
EndsAt octets form at Whole = IsSome form × (at ≡ length octets)
EndsAt octets form at (Faulty place f) = (place ≡ at) × (FaultAt octets form at f ⊎ IsShort octets form at f)

-- the layer that the packets begin at, by the form of the head
abbrev pub link_by : Option Form → Option Layer
link_by form = option_map (λ f. f.link) form

-- a file of these octets is a head for this link (without one it has no whole head), these records
-- one behind the other, and ends so
pub record Reads (octets : List ℕ) (link : Option Layer) (entries : List Entry) (ending : Ending) : Type 0 where
  pub form : Option Form
  pub at : ℕ
  pub reached : Reached octets form entries at
  pub ends : EndsAt octets form at ending
  pub linked : link ≡ link_by form

-- and the octets read in no other way
abbrev pub ReadsOnly : List ℕ → Option Layer → List Entry → Ending → Type 0
ReadsOnly octets link entries ending = (other : Option Layer) (others : List Entry) (end : Ending) → Reads octets other others end
    → (other ≡ link) × (others ≡ entries) × (end ≡ ending)

-- the octets have a head for this link, exactly these records from place 24 up to a place, and there
-- no whole record
pub record Cap (octets : List ℕ) (link : Layer) (entries : List Entry) (rest : ℕ) : Type 0 where
  pub form : Form
  pub head : HasHead octets form
  pub linked : link ≡ form.link
  pub leads : Entries form octets 24 entries rest
  pub stops : IsWhole form octets rest → ⊥
