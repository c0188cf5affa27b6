-- What becomes of a packet when the data of options of its outer Hop-by-Hop header is replaced by as many octets.
use Rattle.ioam_ip.specs.Findings.{is_ioam_type}
use Rattle.ioam_ip.specs.Options.{Item}
use Rattle.std.specs.Prelude.{ℕ, ◌+◌, ◌≡◌, ◌≤◌, Bool, ◌==◌, true, if◌then◌else◌, List, [], ◌∷◌, length, slice_index, slice_range}
use Rattle.std.specs.declared.ops.Range.{Range}
use Rattle.ioam_base.specs.Octets.{written}
use Rattle.ioam_ip.specs.Chain.{said_size}
use Rattle.ioam_ip.specs.Rewriting.{options_in, with_steps}

-- a Hop-by-Hop Options header stands behind the outer header
abbrev pub has_hop : List ℕ → Bool
has_hop packet = slice_index packet 6 == 0

-- the place behind it, and its octets
abbrev pub hop_end : List ℕ → ℕ
hop_end packet = 40 + said_size packet 40

-- the octets of the Hop-by-Hop Options header, from place 40 to its end
abbrev pub hop_head : List ℕ → List ℕ
hop_head packet = slice_range packet 40 (hop_end packet)

-- where that header lies, all of it within the packet; it has 2,048 octets at most
pub record IsHopRange (packet : List ℕ) (range : Range ℕ) : Type 0 where
  pub there : has_hop packet ≡ true
  pub begins : range.start ≡ 40
  pub ends : range.end ≡ hop_end packet
  pub within : range.end ≤ length packet
  pub short : range.end ≤ 40 + 2048

-- its options
abbrev pub hop_options : List ℕ → List Item
hop_options packet = if has_hop packet then options_in (hop_head packet) else []

-- that header lies within the packet, if it is there
pub record HopFits (packet : List ℕ) : Type 0 where
  pub header_there : 40 ≤ length packet
  pub within : has_hop packet ≡ true → hop_end packet ≤ length packet

-- the packet with each option of that header changed
abbrev pub hop_stepped : (ℕ → List ℕ → List ℕ) → List ℕ → List ℕ
hop_stepped step packet =
    if has_hop packet then written packet 40 (with_steps step (hop_head packet) (options_in (hop_head packet))) else packet

-- how many IOAM options there are
abbrev pub ioam_count : List Item → ℕ
ioam_count [] = 0
ioam_count (item ∷ items) = (if is_ioam_type item.kind then 1 else 0) + ioam_count items

-- how many IOAM options the outer Hop-by-Hop Options header of a packet has; none where there is no such header
abbrev pub option_count : List ℕ → ℕ
option_count packet = if has_hop packet then ioam_count (options_in (hop_head packet)) else 0
