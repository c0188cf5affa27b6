-- The chain of headers of a packet (RFC 8200 section 4): which may stand where, how long each is,
-- and what it names as the next.
use Rattle.std.specs.Prelude.{◌≡◌, ◌≢◌, ℕ, ◌+◌, ◌*◌, ◌/◌, ◌≤◌, List, true, IsTrue, ◌==◌, if◌then◌else◌, length, slice_index, slice_range}
use Rattle.ioam_base.specs.Leads.{Leads}
use Rattle.ioam_base.specs.Octets.{u16_at}
use Rattle.ioam_ip.specs.Options.{IsFilled}
use Rattle.ioam_ip.specs.declared.chain.Kind.{Kind}
use Rattle.ioam_ip.specs.declared.chain.Kind.TheVariants.{HopByHop, Destination, Routing, Fragment, Nested, Upper}
use Rattle.ioam_ip.specs.declared.chain.HeadSpot.{HeadSpot}
use Rattle.ioam_ip.specs.declared.chain.Head.{Head}

-- the kind of header that a next header value names
abbrev pub kind_of : ℕ → Kind
kind_of value =
    if value == 0 then HopByHop
    else (if value == 60 then Destination
    else (if value == 43 then Routing
    else (if value == 44 then Fragment
    else (if value == 41 then Nested
    else Upper))))

-- the octets of a header that says its own length, in units of 8 octets past the first 8 (Hdr
-- Ext Len)
abbrev pub said_size : List ℕ → ℕ → ℕ
said_size p at = (slice_index p (at + 1) + 1) * 8

-- how many octets a header of this kind takes: what it says, 8 for a Fragment header, 40 for an IPv6 header, none for what is
-- no header of the chain
abbrev pub size_by : List ℕ → ℕ → Kind → ℕ
size_by p at HopByHop = said_size p at
size_by p at Destination = said_size p at
size_by p at Routing = said_size p at
size_by p at Fragment = 8
size_by p at Nested = 40
size_by p at Upper = 0

-- the next header value that a header has
abbrev pub next_by : List ℕ → ℕ → Kind → ℕ
next_by p at HopByHop = slice_index p at
next_by p at Destination = slice_index p at
next_by p at Routing = slice_index p at
next_by p at Fragment = slice_index p at
next_by p at Nested = slice_index p (at + 6)
next_by p at Upper = 0

-- the offset of a fragment, in units of 8 octets: the upper 13 bits of octets 2 and 3
abbrev pub fragment_offset : List ℕ → ℕ → ℕ
fragment_offset p at = u16_at p (at + 2) / 8

-- what a header of this kind needs besides its octets, for the chain to go on behind it.
-- Hop-by-Hop Options stand directly behind an IPv6 header only; behind a fragment that isn't the
-- first the chain doesn't go on. The payload length of a nested header isn't compared
abbrev pub Admits : List ℕ → HeadSpot → Kind → Type 0
Admits p spot HopByHop = IsTrue spot.behind_ip × IsFilled (slice_range p spot.at (spot.at + said_size p spot.at))
Admits p spot Destination = IsFilled (slice_range p spot.at (spot.at + said_size p spot.at))
Admits p spot Routing = Unit {0}
Admits p spot Fragment = fragment_offset p spot.at ≡ 0
Admits p spot Nested = slice_index p spot.at / 16 ≡ 6
Admits p spot Upper = ⊥

-- where the header at a spot ends
abbrev pub end_at : List ℕ → HeadSpot → ℕ
end_at p spot = spot.at + size_by p spot.at (kind_of spot.value)

-- the header at a spot is whole, may stand there, and the chain goes on behind it
abbrev pub CanPass : List ℕ → HeadSpot → Type 0
CanPass p spot = (end_at p spot ≤ length p) × Admits p spot (kind_of spot.value)

-- the header at a spot: its value and its octets' places
abbrev pub head_at : List ℕ → HeadSpot → Head
head_at p spot = record { value = spot.value; range = record { start = spot.at; end = end_at p spot } }

-- the spot behind it
abbrev pub behind : List ℕ → HeadSpot → HeadSpot
behind p spot = record { value = next_by p spot.at (kind_of spot.value); at = end_at p spot; behind_ip = spot.value == 41 }

-- the spot behind the first IPv6 header
abbrev pub start : List ℕ → HeadSpot
start p = record { value = slice_index p 6; at = 40; behind_ip = true }

-- these headers stand one behind the other, from the first up to this spot
abbrev pub Reaches : List ℕ → List Head → HeadSpot → Type 0
Reaches p hs spot = Leads (CanPass p) (head_at p) (behind p) (start p) hs spot

-- the chain ends at an upper protocol, and at a whole Fragment header that isn't the first's
abbrev pub EndsBy : List ℕ → ℕ → Kind → Type 0
EndsBy p at HopByHop = ⊥
EndsBy p at Destination = ⊥
EndsBy p at Routing = ⊥
EndsBy p at Fragment = (at + 8 ≤ length p) × (fragment_offset p at ≢ 0)
EndsBy p at Nested = ⊥
EndsBy p at Upper = Unit {0}

-- the chain ends at the spot, by the kind of what stands there
abbrev pub EndsAt : List ℕ → HeadSpot → Type 0
EndsAt p spot = EndsBy p spot.at (kind_of spot.value)

-- the headers behind which the chain goes on, and the value and the place with which it ends
pub record Chain (p : List ℕ) (hs : List Head) (upper at : ℕ) : Type 0 where
  pub last : HeadSpot
  pub reaches : Reaches p hs last
  pub ends : EndsAt p last
  pub value : last.value ≡ upper
  pub place : last.at ≡ at

-- the chain of the packet ends with this value, at this place
pub record EndsWith (p : List ℕ) (upper at : ℕ) : Type 0 where
  pub heads : List Head
  pub chain : Chain p heads upper at

-- every header on the chain is whole, stands where it may, and its options fill it
pub record IsSound (p : List ℕ) : Type 0 where
  pub heads : List Head
  pub upper : ℕ
  pub at : ℕ
  pub chain : Chain p heads upper at

-- the first header that breaks the chain stands at this place
pub record BadAt (p : List ℕ) (at : ℕ) : Type 0 where
  pub spot : HeadSpot
  pub heads : List Head
  pub reaches : Reaches p heads spot
  pub no_pass : CanPass p spot → ⊥
  pub no_end : EndsAt p spot → ⊥
  pub place : spot.at ≡ at
