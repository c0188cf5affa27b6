-- Where a node that isn't the packet's exit sends it, or why it drops it.
use Rattle.std.specs.Prelude.{◌≡◌, ⊤, ◌<◌, ◌≤◌, ℕ, Bool, IsTrue, nat_lt, nat_le, Option, Some, None, Result, Ok, Err, List, [], ◌∷◌, slice_get, if◌then◌else◌}
use Rattle.std.specs.Option.{option_map_or}
use Rattle.ioam_topo.specs.declared.domain.Domain.{Domain}
use Rattle.ioam_topo.specs.declared.ids.Way.{Way}
use Rattle.ioam_topo.specs.declared.ids.Way.TheVariants as way
use Rattle.ioam_topo.specs.declared.ids.LinkId.{LinkId}
use Rattle.ioam_topo.specs.declared.ids.PortId.{PortId}
use Rattle.ioam_topo.specs.Domain.{links, routes}
use Rattle.ioam_topo.specs.Forward.{way_to}
use Rattle.ioam_node.specs.Order.{Stop, stop, NoneHolds}
use Rattle.ioam_node.specs.declared.reason.Reason.{Reason}
use Rattle.ioam_node.specs.declared.reason.Reason.TheVariants as reason

-- the most octets of a packet on a link
abbrev pub mtu_of : Domain → LinkId → ℕ
mtu_of domain link = option_map_or (λ l. l.mtu) (slice_get (links domain) link.0) 0

-- where a packet of this size goes whose way is this: one that is enclosed leaves the domain at its exit only
abbrev pub way_by : Domain → Bool → ℕ → Option Way → Result Way Reason
way_by domain enclosed size None = Err reason.NoRoute
way_by domain enclosed size (Some (way.Link link)) = if nat_lt (mtu_of domain link) size then Err reason.TooBig else Ok (way.Link link)
way_by domain enclosed size (Some (way.Port port)) = if enclosed then Err reason.IoamOut else Ok (way.Port port)

-- the way is a link, whose packets may not be so long
abbrev pub IsTooBig : Domain → ℕ → Option Way → Type 0
IsTooBig domain size None = ⊥
IsTooBig domain size (Some (way.Link link)) = mtu_of domain link < size
IsTooBig domain size (Some (way.Port port)) = ⊥

-- the way is a port
abbrev pub IsPort : Option Way → Type 0
IsPort None = ⊥
IsPort (Some (way.Link link)) = ⊥
IsPort (Some (way.Port port)) = ⊤

-- why a packet of this hop limit and size may be dropped whose way is this, in the order in which a node looks for it
abbrev pub stops_by : Domain → Bool → ℕ → ℕ → Option Way → List Stop
stops_by domain enclosed hops size found =
    stop reason.HopLimit (hops ≤ 1)
    ∷ stop reason.NoRoute (found ≡ None)
    ∷ stop reason.TooBig (IsTooBig domain size found)
    ∷ stop reason.IoamOut (IsTrue enclosed × IsPort found)
    ∷ []

module _ (domain : Domain) (node : ℕ) (enclosed : Bool) (hops target size : ℕ) where
  -- where the packet is sent: `hops` is the hop limit that the node would lower, `size` what it has as it is sent
  abbrev pub choice : Result Way Reason
  choice = if nat_le hops 1 then Err reason.HopLimit else way_by domain enclosed size (way_to (routes domain) node target)

  -- why it may be dropped
  abbrev pub stops : List Stop
  stops = stops_by domain enclosed hops size (way_to (routes domain) node target)

  -- the packet is sent this way, and no stop holds
  abbrev pub Goes : Way → Type 0
  Goes way = (way_to (routes domain) node target ≡ Some way) × NoneHolds stops

-- where the node at which a packet is to be enclosed sends the outer packet of this size, whose way is this: by a link only, and
-- only where the packet may be enclosed once more
abbrev pub link_by : Domain → Bool → ℕ → Option Way → Result LinkId Reason
link_by domain refused size None = Err reason.NoRoute
link_by domain refused size (Some (way.Link link)) =
    if refused then Err reason.EncapLimit else (if nat_lt (mtu_of domain link) size then Err reason.TooBig else Ok link)
link_by domain refused size (Some (way.Port port)) = if refused then Err reason.EncapLimit else Err reason.IoamOut

-- why the packet may be dropped there
abbrev pub entry_stops_by : Domain → Bool → ℕ → ℕ → Option Way → List Stop
entry_stops_by domain refused hops size found =
    stop reason.HopLimit (hops ≤ 1)
    ∷ stop reason.NoRoute (found ≡ None)
    ∷ stop reason.EncapLimit (IsTrue refused)
    ∷ stop reason.TooBig (IsTooBig domain size found)
    ∷ stop reason.IoamOut (IsPort found)
    ∷ []

module _ (domain : Domain) (node : ℕ) (refused : Bool) (hops target size : ℕ) where
  -- where the packet enters its tunnel: `hops` is its own hop limit, `target` the tunnel's exit, `size` what the outer packet has;
  -- `refused` says that the packet may not be enclosed once more
  abbrev pub entry_choice : Result LinkId Reason
  entry_choice = if nat_le hops 1 then Err reason.HopLimit else link_by domain refused size (way_to (routes domain) node target)

  -- why it may be dropped
  abbrev pub entry_stops : List Stop
  entry_stops = entry_stops_by domain refused hops size (way_to (routes domain) node target)

  -- the packet is sent by this link, and no stop holds
  abbrev pub Enters : LinkId → Type 0
  Enters link = (way_to (routes domain) node target ≡ Some (way.Link link)) × NoneHolds entry_stops

-- by which port a packet leaves that came out of its tunnel, whose way is this: a link is none
abbrev pub port_by : Option Way → Result PortId Reason
port_by None = Err reason.NoRoute
port_by (Some (way.Link link)) = Err reason.NoRoute
port_by (Some (way.Port port)) = Ok port

-- why such a packet may be dropped: its hop limit, or no port of the node is its way
abbrev pub exit_stops_by : ℕ → Option Way → List Stop
exit_stops_by hops found = stop reason.HopLimit (hops ≤ 1) ∷ stop reason.NoRoute (IsPort found → ⊥) ∷ []

module _ (domain : Domain) (node hops target : ℕ) where
  -- where the packet comes out of its tunnel: `hops` is its own hop limit there, `target` its own target
  abbrev pub exit_choice : Result PortId Reason
  exit_choice = if nat_le hops 1 then Err reason.HopLimit else port_by (way_to (routes domain) node target)

  -- why it may be dropped
  abbrev pub exit_stops : List Stop
  exit_stops = exit_stops_by hops (way_to (routes domain) node target)

  -- the packet leaves by this port, and no stop holds
  abbrev pub Leaves : PortId → Type 0
  Leaves port = (way_to (routes domain) node target ≡ Some (way.Port port)) × NoneHolds exit_stops
