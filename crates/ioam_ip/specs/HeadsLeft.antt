-- The headers that an iterator along a chain has left, as a function of its spot.
use Rattle.std.specs.Prelude.{◌≡◌, ℕ, zero, suc, List, [], ◌∷◌, Bool, true, false, Option, ◌==◌, ◌&&◌, nat_le, if◌then◌else◌, length, take, slice_get, option_map}
use Rattle.std.specs.List.{find}
use Rattle.std.specs.declared.ops.Range.{Range}
use Rattle.ioam_ip.specs.Chain.{kind_of, fragment_offset, end_at, head_at, behind, Chain}
use Rattle.ioam_ip.specs.ChainOptions.{outer_targets}
use Rattle.ioam_ip.specs.declared.chain.Kind.{Kind}
use Rattle.ioam_ip.specs.declared.chain.Kind.TheVariants.{HopByHop, Destination, Routing, Fragment, Nested, Upper}
use Rattle.ioam_ip.specs.declared.chain.HeadSpot.{HeadSpot}
use Rattle.ioam_ip.specs.declared.chain.Head.{Head}
use Rattle.ioam_ip.specs.declared.headers.Heads.{Heads}

-- whether the chain goes on behind a header of this kind, if it is sound
abbrev pub goes_on_by : List ℕ → ℕ → Kind → Bool
goes_on_by p at HopByHop = true
goes_on_by p at Destination = true
goes_on_by p at Routing = true
goes_on_by p at Fragment = fragment_offset p at == 0
goes_on_by p at Nested = true
goes_on_by p at Upper = false

-- whether the header at the spot has all its octets and the chain goes on behind it, if it is sound
abbrev pub goes_on : List ℕ → HeadSpot → Bool
goes_on p spot = nat_le (end_at p spot) (length p) && goes_on_by p spot.at (kind_of spot.value)

-- the headers from a spot on; as many steps as the packet has octets are enough
abbrev pub heads_from : ℕ → List ℕ → HeadSpot → List Head
heads_from zero p spot = []
heads_from (suc steps) p spot = if goes_on p spot then head_at p spot ∷ heads_from steps p (behind p spot) else []

-- the headers that an iterator has left
abbrev pub heads_left : Heads → List Head
heads_left it = heads_from (length it.packet.now) it.packet.now it.spot

-- these are the headers on the chain of the packet, in order, nested ones included, without that
-- with which it ends
pub record AreHeads (p : List ℕ) (hs : List Head) : Type 0 where
  pub upper : ℕ
  pub at : ℕ
  pub chain : Chain p hs upper at

-- and no others are
abbrev pub OnlyHeads : List ℕ → List Head → Type 0
OnlyHeads p hs = (others : List Head) → AreHeads p others → others ≡ hs

-- a Hop-by-Hop Options header (next header value 0)
abbrev pub is_hop_by_hop : Head → Bool
is_hop_by_hop head = head.value == 0

-- where the Hop-by-Hop Options header directly behind the outer IPv6 header stands, which is the
-- first header on the chain; none where the chain has no such header
pub record HopHeaderOf (p : List ℕ) (range : Option (Range ℕ)) : Type 0 where
  pub heads : List Head
  pub are_heads : AreHeads p heads
  pub first : range ≡ option_map (λ head. head.range) (find is_hop_by_hop (take 1 heads))

-- where the first Destination Options header in front of any nested IPv6 header stands, if there
-- is one
pub record TargetHeaderOf (p : List ℕ) (range : Option (Range ℕ)) : Type 0 where
  pub heads : List Head
  pub are_heads : AreHeads p heads
  pub first : range ≡ option_map (λ head. head.range) (slice_get (outer_targets heads) 0)
