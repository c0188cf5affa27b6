-- What a planned itinerary keeps.
use Rattle.std.proofs.Common.{◌≡◌, ℕ, ◌+◌, ◌<◌, ◌≤◌, Bool, true, false, cond, List, [], ◌∷◌, length, Option, Some, None, IfSome, slice_get, refl, sym, ap, subst, arith}
use Rattle.std.specs.Prelude.{All, IsTrue, is_some, nat_le, slice_index}
use Rattle.std.proofs.lemmas.Bool.{leb-false}
use Rattle.std.proofs.lemmas.List.Elements.{All-nil}
use Rattle.ioam_ip.specs.Chain.{IsSound}
use Rattle.ioam_ip.specs.Packet.{IsPacket}
use Rattle.ioam_topo.specs.declared.domain.Domain.{Domain}
use Rattle.ioam_topo.specs.declared.parts.Flow.{Flow}
use Rattle.ioam_topo.specs.Domain.{flows, ports, routes}
use Rattle.ioam_topo.specs.Forward.{way_to}
use Rattle.ioam_node.specs.Choice.{link_by}
use Rattle.ioam_tunnel.specs.Enclosed.{MayEnclose}
use Rattle.ioam_tunnel.specs.Size.{outer_size}
use Rattle.ioam_plan.specs.declared.itinerary.Itinerary.{Itinerary}
use Rattle.ioam_plan.specs.declared.itinerary.Visit.{Visit}
use Rattle.ioam_plan.specs.declared.stage.Entry.{Entry}
use Rattle.ioam_plan.specs.declared.stage.Inside.{Inside}
use Rattle.ioam_plan.specs.declared.stage.JourneySpot.{JourneySpot}
use Rattle.ioam_plan.specs.declared.stage.Stage.{Stage}
use Rattle.ioam_plan.specs.declared.stage.Stage.TheVariants.{Enter}
use Rattle.ioam_plan.specs.declared.stage.Trip.{Trip}
use Rattle.ioam_plan.specs.Drawn.{direct_number}
use Rattle.ioam_plan.specs.Inside.{EndsInside}
use Rattle.ioam_plan.specs.Journey.{Reaches, carried_by}
use Rattle.ioam_plan.specs.Rides.{Rides, RidesBy, IsVisitIn, Sends, SendsBy}
use Rattle.ioam_plan.specs.Steps.{HasRidden}
use Rattle.ioam_plan.proofs.JourneyLaws.{by_choice}

-- a packet that goes on from where it enters its tunnel has a hop limit that can be lowered
pub enters_high : (domain : Domain) (trip : Trip) (spot : JourneySpot) (entry : Entry) (visits : List Visit) (last : Stage)
    → Reaches domain trip (Enter spot entry) visits last → 0 < length visits → 2 ≤ spot.hops
enters_high domain trip spot entry [] last leads some = absurd (omega (arith, some))
enters_high domain trip spot entry (visit ∷ visits) last leads some =
    let high : nat_le spot.hops 1 ≡ false = by_choice domain spot entry.hops (nat_le spot.hops 1)
    (link_by domain entry.refused trip.size (way_to (routes domain) spot.node.0 trip.target)) visit leads.0 leads.1 in
    omega (arith, leb-false spot.hops 1 high)

-- a direct export is there only where the flow has them
pub direct_there : (kind every : Option ℕ) (number : ℕ) → IsTrue (is_some (direct_number kind every number)) → IsTrue (is_some kind)
direct_there None every number there = there
direct_there (Some kind) every number there = refl

pub carried_none : (visits : List Visit) → carried_by visits None ≡ None
carried_none [] = refl
carried_none (visit ∷ visits) = refl

one_most : (exited : Bool) → cond {A = ℕ} exited 1 0 ≤ 1
one_most true = omega arith
one_most false = omega arith

-- what a packet that may be enclosed carries, by its visits
carries_by : (domain : Domain) (packet : List ℕ) (it : Itinerary) (inside : Inside) (flow : Flow) (visits : List Visit)
    → slice_get (flows domain) inside.flow.0 ≡ Some flow → inside.flow.0 < length (flows domain) → IsPacket packet → IsSound packet
    → inside.numbers.number < 4294967296 → (IsTrue (is_some inside.numbers.direct) → IsTrue (is_some flow.direct))
    → (0 < length visits → 2 ≤ slice_index packet 7) → length it.visits ≤ flow.hops + cond it.exited 1 0
    → it.visits ≡ visits
    → HasRidden (outer_size flow (length packet) (is_some inside.numbers.direct) (is_some inside.numbers.limit)) (Some inside) it.exited visits
    → RidesBy domain packet it (carried_by visits (Some inside))
carries_by domain packet it inside flow [] found known is_packet sound number direct high few is ridden =
    let length_zero : length it.visits ≡ 0 = ap length is in
    record {
      is_packet = λ some. is_packet;
      few = omega (arith, length_zero);
      sends = subst (All Sends) (sym is) (All-nil Sends);
      exited = ridden;
    }
carries_by domain packet it inside flow (visit ∷ visits) found known is_packet sound number direct high few is ridden =
    let P : Option Flow → Type 0 = λ at. IfSome at (λ f. MayEnclose f inside.numbers packet) in
    let Q : Option Flow → Type 0 = λ at. IfSome at (λ f. length it.visits ≤ f.hops + cond it.exited 1 0) in
    let may : MayEnclose flow inside.numbers packet = record { direct = direct; number = number; size = ridden.0 } in
    record {
      known = known;
      is_packet = is_packet;
      sound = sound;
      hops = high (omega arith);
      may = subst P (sym found) may;
      few = subst Q (sym found) few;
      sends = subst (SendsBy it.exited) (sym is) ridden.1;
    }

-- a packet that is to be enclosed
pub rides_flow : (domain : Domain) (packet : List ℕ) (it : Itinerary) (inside : Inside) (flow : Flow)
    → it.port.0 < length (ports domain) → length packet ≤ 65575
    → slice_get (flows domain) inside.flow.0 ≡ Some flow → inside.flow.0 < length (flows domain) → IsPacket packet → IsSound packet
    → inside.numbers.number < 4294967296 → (IsTrue (is_some inside.numbers.direct) → IsTrue (is_some flow.direct))
    → (0 < length it.visits → 2 ≤ slice_index packet 7) → flow.hops < 256 → it.carried ≡ carried_by it.visits (Some inside)
    → All (IsVisitIn domain) it.visits → length it.visits ≤ flow.hops + cond it.exited 1 0
    → HasRidden (outer_size flow (length packet) (is_some inside.numbers.direct) (is_some inside.numbers.limit)) (Some inside) it.exited it.visits
    → EndsInside domain it.end → Rides domain packet it
rides_flow domain packet it inside flow port short found known is_packet sound number direct high below carried visits few ridden ends = record {
  port = port;
  short = short;
  visits = visits;
  few = omega (arith, few, one_most it.exited, below);
  carries = subst (RidesBy domain packet it) (sym carried)
      (carries_by domain packet it inside flow it.visits found known is_packet sound number direct high few refl ridden);
  ends = ends;
}
