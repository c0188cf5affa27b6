-- The packets that may leave a domain: IOAM data stays inside it (RFC 9197 section 3).
use Rattle.std.specs.Prelude.{ℕ, List}
use Rattle.ioam_ip.specs.Chain.{IsSound}
use Rattle.ioam_ip.specs.ChainOptions.{CarriesIoam}
use Rattle.ioam_ip.specs.Packet.{IsPacket}

-- the chain of headers is whole, and no header on it has an IOAM option
abbrev pub IsClean : List ℕ → Type 0
IsClean packet = IsSound packet × (CarriesIoam packet → ⊥)

-- the octets are one IPv6 packet, which may leave a domain
abbrev pub MayLeave : List ℕ → Type 0
MayLeave octets = IsPacket octets × IsClean octets
