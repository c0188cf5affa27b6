-- What is planned for a packet that is to be enclosed.
use Rattle.std.proofs.Common.{◌≡◌, ℕ, ◌+◌, ◌-◌, ◌<◌, ◌≤◌, cond, List, length, Option, Some, IsSomeAnd, slice_get, sym, ap, subst, arith}
use Rattle.std.specs.Prelude.{All, IsTrue, is_some, slice_index}
use Rattle.ioam_clock.specs.declared.sample.Sample.{Sample}
use Rattle.ioam_ip.specs.Header.{HasFields}
use Rattle.ioam_ip.specs.Chain.{IsSound}
use Rattle.ioam_ip.specs.Packet.{IsPacket}
use Rattle.ioam_ip.specs.declared.packet.Header.{Header}
use Rattle.ioam_topo.specs.declared.domain.Domain.{Domain}
use Rattle.ioam_topo.specs.declared.ids.FlowId.{FlowId}
use Rattle.ioam_topo.specs.declared.parts.Flow.{Flow}
use Rattle.ioam_topo.specs.declared.parts.Port.{Port}
use Rattle.ioam_topo.specs.Domain.{flows, ports}
use Rattle.ioam_tunnel.specs.declared.numbers.Numbers.{Numbers}
use Rattle.ioam_plan.specs.declared.itinerary.Itinerary.{Itinerary}
use Rattle.ioam_plan.specs.declared.stage.Entry.{Entry}
use Rattle.ioam_plan.specs.declared.stage.Inside.{Inside}
use Rattle.ioam_plan.specs.declared.stage.JourneySpot.{JourneySpot}
use Rattle.ioam_plan.specs.declared.stage.Stage.TheVariants.{Enter}
use Rattle.ioam_plan.specs.declared.stage.Trip.{Trip}
use Rattle.ioam_plan.specs.Drawn.{numbers_of}
use Rattle.ioam_plan.specs.Inside.{EndsInside}
use Rattle.ioam_plan.specs.Journey.{Journey}
use Rattle.ioam_plan.specs.Plans.{PlansFlow, start_of, flow_trip, entry_of}
use Rattle.ioam_plan.specs.Rides.{Rides, IsVisitIn}
use Rattle.ioam_plan.specs.Steps.{HasRidden}
use Rattle.ioam_plan.proofs.RidesLaws.{rides_flow, enters_high, direct_there}

-- a journey from where a packet enters its tunnel is the one that is planned
pub flow_planned : (domain : Domain) (readings : List (List Sample)) (number : ℕ) (port : Port) (time : ℕ) (id : FlowId) (flow : Flow)
    (packet : List ℕ) (found : Option ℕ) (it : Itinerary) (header : Header) (numbers : Numbers) (trip : Trip) (spot : JourneySpot) (entry : Entry)
    → slice_get (flows domain) id.0 ≡ Some flow → HasFields packet header → numbers ≡ numbers_of domain readings flow number found time
    → trip ≡ flow_trip domain id flow numbers header.target header.hops packet → spot ≡ start_of port time header.hops
    → entry ≡ entry_of flow found → Journey domain trip (Enter spot entry) it
    → IsSomeAnd (slice_get (flows domain) id.0) (λ f. PlansFlow domain readings number port time id f packet found it)
flow_planned domain readings number port time id flow packet found it header numbers trip spot entry at fields drawn goes starts enters journey =
    let P : Trip → Type 0 = λ t. Journey domain t (Enter spot entry) it in
    let Q : Numbers → Type 0 = λ n. Journey domain (flow_trip domain id flow n header.target header.hops packet) (Enter spot entry) it in
    let N : Numbers = numbers_of domain readings flow number found time in
    let T : Trip = flow_trip domain id flow N header.target header.hops packet in
    let R : JourneySpot → Type 0 = λ s. Journey domain T (Enter s entry) it in
    let S : Entry → Type 0 = λ e. Journey domain T (Enter (start_of port time header.hops) e) it in
    let planned : PlansFlow domain readings number port time id flow packet found it =
    record { header = header; fields = fields; journey = subst S enters (subst R starts (subst Q drawn (subst P goes journey))) } in
    let A : Option Flow → Type 0 = λ o. IsSomeAnd o (λ f. PlansFlow domain readings number port time id f packet found it) in
    subst A (sym at) planned

-- and what it keeps
pub flow_rides : (domain : Domain) (readings : List (List Sample)) (number : ℕ) (time : ℕ) (id : FlowId) (flow : Flow) (packet : List ℕ)
    (found : Option ℕ) (it : Itinerary) (numbers : Numbers) (target hops : ℕ) (trip : Trip) (spot : JourneySpot) (entry : Entry)
    → it.port.0 < length (ports domain) → length packet ≤ 65575
    → slice_get (flows domain) id.0 ≡ Some flow → id.0 < length (flows domain) → IsPacket packet → IsSound packet
    → numbers ≡ numbers_of domain readings flow number found time → number < 4294967296
    → trip ≡ flow_trip domain id flow numbers target hops packet → spot.hops ≡ slice_index packet 7
    → entry.hops ≡ flow.hops → flow.hops < 256 → Journey domain trip (Enter spot entry) it
    → All (IsVisitIn domain) it.visits → length it.visits ≤ entry.hops + cond it.exited 1 0
    → HasRidden trip.size trip.inside it.exited it.visits → EndsInside domain it.end → Rides domain packet it
flow_rides domain readings number time id flow packet found it numbers target hops trip spot entry port short at known is_packet sound drawn small goes is same below
    journey visits few ridden ends =
    let P : Trip → Type 0 = λ t. Journey domain t (Enter spot entry) it × HasRidden t.size t.inside it.exited it.visits in
    let T : Trip = flow_trip domain id flow numbers target hops packet in
    let moved : P T = subst P goes (journey, ridden) in
    let inside : Inside = record { flow = id; numbers = numbers; exit = flow.exit; target = target; hops = hops - 1 } in
    let counted : numbers.number ≡ number = ap (λ (n : Numbers). n.number) drawn in
    let D : Option ℕ → Type 0 = λ direct. IsTrue (is_some direct) → IsTrue (is_some flow.direct) in
    let direct : D numbers.direct = subst D (sym (ap (λ (n : Numbers). n.direct) drawn)) (direct_there flow.direct flow.every number) in
    rides_flow domain packet it inside flow port short at known is_packet sound (omega (arith, counted, small)) direct
    (λ some. omega (arith, is, enters_high domain T spot entry it.visits moved.0.last moved.0.reaches some)) below moved.0.carried visits
    (omega (arith, few, same)) moved.1 ends
