-- IPv6 addresses as texts: the form of RFC 4291 section 2.2 without dotted parts and zones.
use Rattle.std.specs.Prelude.{◌≡◌, ℕ, Bool, true, ◌==◌, ◌||◌, List, Option, Some, None, option_map, Result, Ok, Err, if◌then◌else◌}
use Rattle.std.specs.Char.{is_ascii_hexdigit}
use Rattle.std.specs.List.{list_all}
use Rattle.std.specs.declared.net.ipv6_addr.Ipv6Addr.{Ipv6Addr}
use Rattle.std.specs.Net.Addr.{ipv6_bits}
use Rattle.std.specs.Net.Grammar.{IsIpv6Text}
use Rattle.std.specs.Net.Reader.{read_ipv6, whole_value}
use Rattle.toml.specs.Data.{Data}
use Rattle.ioam_topo_values.specs.declared.why.Why.{Why}
use Rattle.ioam_topo_values.specs.declared.why.Why.TheVariants.{Range}
use Rattle.ioam_topo_values.specs.Reads.{◌▷◌}
use Rattle.ioam_topo_values.specs.Texts.{text}

-- a hexadecimal digit in either case, or `:`
abbrev pub is_address_octet : ℕ → Bool
is_address_octet b = is_ascii_hexdigit b || (b == 58)

-- such octets alone: no part is dotted, and there is no zone
abbrev pub is_plain : List ℕ → Bool
is_plain s = list_all is_address_octet s

-- a text spells an address: all eight groups of one to four digits, or some in front of `::` and some behind it, perhaps none,
-- where `::` stands for one or more groups of zero (RFC 4291 section 2.2, forms 1 and 2, as std's grammar has them); the first
-- group is the most significant
pub record Spells (s : List ℕ) (bits : ℕ) : Type 0 where
  pub address : Ipv6Addr
  pub plain : is_plain s ≡ true
  pub spells : IsIpv6Text s address
  pub is : bits ≡ ipv6_bits address

-- the number of an address's eight groups
abbrev pub number_of : List ℕ → ℕ
number_of groups = ipv6_bits (record { segments = groups })

-- the address that a text spells: what std's reader reads of the whole of it
abbrev pub address_of : List ℕ → Option ℕ
address_of s = if is_plain s then option_map number_of (whole_value (read_ipv6 s)) else None

-- what is there, or out of range
abbrev pub ranged : {A : Type 0} → Option A → Result A Why
ranged None = Err Range
ranged (Some x) = Ok x

-- an IPv6 address, of a text that spells one, or why there is none
abbrev pub address : Data → Result ℕ Why
address d = text d ▷ (λ s. ranged (address_of s))
