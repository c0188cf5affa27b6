-- How octets read as messages: the messages one behind the other, a rest, and how they end.
use Rattle.std.specs.Prelude.{ℕ, ◌-◌, ◌≡◌, ◌<◌, ◌⊎◌, List, [], length}
use Rattle.ioam_dex.specs.Record.{Record}
use Rattle.ioam_ipfix.specs.declared.fault.IpfixFault.{IpfixFault}
use Rattle.ioam_ipfix.specs.declared.fault.IpfixFault.TheVariants as fault
use Rattle.ioam_base.specs.Chain.{Chain}
use Rattle.ioam_ipfix.specs.Templates.{none_known}
use Rattle.ioam_ipfix.specs.Sets.{Spot, spot}
use Rattle.ioam_ipfix.specs.Messages.{MessagePasses, IsCutMessage}
use Rattle.ioam_ipfix.specs.Faults.{HasMessageFault}

-- how the octets end: behind a whole message, or at a place with a fault
pub data Ending : Type 0 where
  Whole : Ending
  Faulty : ℕ → IpfixFault → Ending

-- a message is cut, of which so many octets are there
abbrev pub IsShort : List ℕ → IpfixFault → Type 0
IsShort rest f = IsCutMessage rest × (0 < length rest) × (f ≡ fault.Short (length rest))

-- what is left at a place ends the octets so
abbrev pub EndsAt : ℕ → Spot → Ending → Type 0
EndsAt at rest Whole = rest.octets ≡ []
EndsAt at rest (Faulty place f) = (place ≡ at) × (HasMessageFault rest f ⊎ IsShort rest.octets f)

-- the octets are these messages, each with these records, and end so
pub record Reads (octets : List ℕ) (messages : List (List Record)) (ending : Ending) : Type 0 where
  pub rest : Spot
  pub leads : Chain MessagePasses (spot none_known octets) messages rest
  pub ends : EndsAt (length octets - length rest.octets) rest ending

-- and the octets read in no other way
abbrev pub ReadsOnly : List ℕ → List (List Record) → Ending → Type 0
ReadsOnly octets messages ending = (others : List (List Record)) (other : Ending) → Reads octets others other
    → (others ≡ messages) × (other ≡ ending)
