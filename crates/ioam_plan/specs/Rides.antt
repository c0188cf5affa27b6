-- What every itinerary keeps, so that its packet can be enclosed, and sent on from visit to visit.
use Rattle.std.specs.Prelude.{◌≡◌, ◌<◌, ◌≤◌, ◌+◌, ◌-◌, ◌^◌, ℕ, Bool, true, false, if◌then◌else◌, List, [], ◌∷◌, ◌++◌, length, slice_get, slice_index, Option, Some, None, IfSome, IsSome, All}
use Rattle.ioam_ip.specs.Chain.{IsSound}
use Rattle.ioam_ip.specs.Packet.{IsPacket}
use Rattle.ioam_topo.specs.declared.domain.Domain.{Domain}
use Rattle.ioam_topo.specs.declared.ids.FlowId.{FlowId}
use Rattle.ioam_topo.specs.Domain.{nodes, links, ports, flows}
use Rattle.ioam_topo.specs.Forward.{IsWayFrom}
use Rattle.ioam_tunnel.specs.Enclosed.{MayEnclose}
use Rattle.ioam_tunnel.specs.declared.numbers.Numbers.{Numbers}
use Rattle.ioam_plan.specs.declared.itinerary.Itinerary.{Itinerary}
use Rattle.ioam_plan.specs.declared.itinerary.Visit.{Visit}
use Rattle.ioam_plan.specs.Inside.{EndsInside}
use Rattle.ioam_plan.specs.Journey.{outward_by}

-- the visit is at a node of the domain, in time, and its way, if it has one, is a link from that node or a port of it
pub record IsVisitIn (domain : Domain) (visit : Visit) : Type 0 where
  pub node : visit.place.node.0 < length (nodes domain)
  pub time : visit.time < 2 ^ 63
  pub way : IfSome visit.way (IsWayFrom (links domain) (ports domain) visit.place.node.0)
  pub outward : visit.place.outward ≡ outward_by domain visit.way

-- the packet is sent on at a visit
abbrev pub Sends : Visit → Type 0
Sends visit = IsSome visit.way

-- it is sent on at each visit but the last, which is its exit's
pub record SendsToExit (visits : List Visit) : Type 0 where
  pub front : List Visit
  pub last : Visit
  pub are : visits ≡ front ++ last ∷ []
  pub some : 0 < length front
  pub sends : All Sends front
  pub stays : last.way ≡ None

-- at each of these visits, of which there is one, an enclosed packet is sent on; but for the last where it reached its exit
abbrev pub SendsBy : Bool → List Visit → Type 0
SendsBy true visits = SendsToExit visits
SendsBy false visits = (0 < length visits) × All Sends visits

-- a packet that isn't enclosed: each visit lowers its hop limit, and leaves 1 at least
pub record RidesPlain (packet : List ℕ) (itinerary : Itinerary) : Type 0 where
  pub is_packet : 0 < length itinerary.visits → IsPacket packet
  pub few : length itinerary.visits ≤ slice_index packet 7 - 1
  pub sends : All Sends itinerary.visits
  pub exited : itinerary.exited ≡ false

-- a packet that is enclosed in a flow with these numbers: it may be, and each visit but the entry's and the exit's lowers
-- the outer hop limit, and leaves 1 at least
pub record RidesTunnel (domain : Domain) (packet : List ℕ) (flow : FlowId) (numbers : Numbers) (itinerary : Itinerary) : Type 0 where
  pub known : flow.0 < length (flows domain)
  pub is_packet : IsPacket packet
  pub sound : IsSound packet
  pub hops : 2 ≤ slice_index packet 7
  pub may : IfSome (slice_get (flows domain) flow.0) (λ f. MayEnclose f numbers packet)
  pub few : IfSome (slice_get (flows domain) flow.0) (λ f. length itinerary.visits ≤ f.hops + (if itinerary.exited then 1 else 0))
  pub sends : SendsBy itinerary.exited itinerary.visits

-- the itinerary fits a packet that isn't enclosed, or one that is enclosed in this flow with these numbers
abbrev pub RidesBy : Domain → List ℕ → Itinerary → Option (FlowId × Numbers) → Type 0
RidesBy domain packet itinerary None = RidesPlain packet itinerary
RidesBy domain packet itinerary (Some carried) = RidesTunnel domain packet carried.0 carried.1 itinerary

-- a packet of 65,575 octets at most can go by an itinerary through a domain; one that was dropped where it arrived has no octets
pub record Rides (domain : Domain) (packet : List ℕ) (itinerary : Itinerary) : Type 0 where
  pub port : itinerary.port.0 < length (ports domain)
  pub short : length packet ≤ 65575
  pub visits : All (IsVisitIn domain) itinerary.visits
  pub few : length itinerary.visits ≤ 256
  pub carries : RidesBy domain packet itinerary itinerary.carried
  pub ends : EndsInside domain itinerary.end
