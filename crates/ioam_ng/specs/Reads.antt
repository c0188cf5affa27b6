-- How a capture reads: its blocks, their packets, and how it ends.
use Rattle.std.specs.Prelude.{◌≡◌, ℕ, ◌+◌, ◌<◌, ◌⊎◌, List, [], false, length, Option, Some, None, IsSome}
use Rattle.ioam_pcap.specs.declared.capture.CapFault.{CapFault}
use Rattle.ioam_pcap.specs.declared.capture.CapFault.TheVariants.{Short}
use Rattle.ioam_ng.specs.Front.{Known}
use Rattle.ioam_ng.specs.Blocks.{Place, CanPass, Blocks, fault_in, is_whole, front, packets}
use Rattle.ioam_pcap.specs.Ending.{Ending, Whole, Faulty}
use Rattle.ioam_pcap.specs.Entries.{Taken}

-- the block that is due at a place has this fault, whatever stands behind the octets
abbrev pub HasFault : Place → CapFault → Type 0
HasFault p fault = fault_in p.known p.octets ≡ Some fault

-- it is not whole, or nothing stands there, and it has no fault so far
abbrev pub IsCut : Place → Type 0
IsCut p = (fault_in p.known p.octets ≡ None) × (is_whole p.known p.octets ≡ false)

-- the capture ends inside it, or before its first block; of it so many octets are there
abbrev pub IsShort : Place → CapFault → Type 0
IsShort p fault = IsCut p × (fault ≡ Short (length p.octets)) × (IsSome p.known.order → 0 < length p.octets)

-- octets end so, where this place is reached
abbrev pub EndsAt : List ℕ → Place → Ending → Type 0
EndsAt octets p Whole = IsSome p.known.order × (p.octets ≡ [])
EndsAt octets p (Faulty at fault) = (at + length p.octets ≡ length octets) × (HasFault p fault ⊎ IsShort p fault)

-- a file of these octets is whole blocks one behind the other, of which these are the packets, and
-- ends so
pub record Reads (octets : List ℕ) (taken : List Taken) (ending : Ending) : Type 0 where
  pub place : Place
  pub blocks : List (Option Taken)
  pub leads : Blocks (front octets) blocks place
  pub given : taken ≡ packets blocks
  pub ends : EndsAt octets place ending

-- and the octets read in no other way
abbrev pub ReadsOnly : List ℕ → List Taken → Ending → Type 0
ReadsOnly octets taken ending = (others : List Taken) (end : Ending) → Reads octets others end → (others ≡ taken) × (end ≡ ending)

-- the octets are whole blocks without a fault, at most 33,554,432 and the first a section block, of
-- which these are the packets, and a rest that begins no other such block
pub record CapNg (octets : List ℕ) (taken : List Taken) (rest : List ℕ) : Type 0 where
  pub known : Known
  pub blocks : List (Option Taken)
  pub leads : Blocks (front octets) blocks (record { known = known; octets = rest })
  pub given : taken ≡ packets blocks
  pub stops : CanPass (record { known = known; octets = rest }) → ⊥
