-- What a call answers over the packet that octets begin with.
use Rattle.std.specs.Prelude.{◌≡◌, ◌⊎◌, ℕ, List}
use Rattle.ioam_ip.specs.Chain.{EndsWith, IsSound, BadAt}
use Rattle.ioam_ip.specs.Framing.{Framing, Holds, NoIpv6, CutShort, TooShort}
use Rattle.ioam_c.specs.Status.{ok, not_ipv6, wrong_length, broken_chain}

-- what a call does with the packet, and which status it refuses with where there is none. Octets that are given whole are never cut
abbrev pub OverPacket : Framing → (List ℕ → Type 0) → (ℕ → Type 0) → Type 0
OverPacket (Holds packet) Does Refuses = Does packet
OverPacket NoIpv6 Does Refuses = Refuses not_ipv6
OverPacket CutShort Does Refuses = Refuses wrong_length
OverPacket TooShort Does Refuses = Refuses wrong_length

-- the chain is whole and ends at this offset, or the first header that breaks it is there
abbrev pub Checks : List ℕ → ℕ → ℕ → Type 0
Checks packet at status =
    ((status ≡ ok) × ((upper : ℕ) × EndsWith packet upper at))
    ⊎ ((status ≡ broken_chain) × BadAt packet at × (IsSound packet → ⊥))
