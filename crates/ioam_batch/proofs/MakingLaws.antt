-- Laws of the outer packet that a job begins with.
use Rattle.std.proofs.Common.{◌≡◌, ℕ, zero, suc, ◌+◌, ◌<◌, ◌≤◌, true, List, [], ◌∷◌, length, Option, Some, None, is_some, IfSome, slice_get, refl, sym, ap, ◌∙◌, arith, true≢false}
use Rattle.std.specs.Prelude.{IsSome, slice_index}
use Rattle.ioam_batch.specs.Jobs.{GoesBy, Holds}
use Rattle.ioam_batch.specs.declared.job.Job.{Job}
use Rattle.ioam_ip.specs.Chain.{IsSound}
use Rattle.ioam_ip.specs.Packet.{IsPacket}
use Rattle.ioam_plan.specs.Rides.{Rides, RidesBy}
use Rattle.ioam_plan.specs.declared.itinerary.Itinerary.{Itinerary}
use Rattle.ioam_topo.specs.Domain.{flows}
use Rattle.ioam_topo.specs.declared.domain.Domain.{Domain}
use Rattle.ioam_topo.specs.declared.ids.FlowId.{FlowId}
use Rattle.ioam_topo.specs.declared.parts.Flow.{Flow}
use Rattle.ioam_tunnel.proofs.WireLaws.{limit-is}
use Rattle.ioam_tunnel.specs.Enclosed.{MayEnclose, tunnel_by, tunnel_of}
use Rattle.ioam_tunnel.specs.Size.{outer_size}
use Rattle.ioam_tunnel.specs.Wire.{Tunnel, hop_parts, limit_after, no_elements, wire}
use Rattle.ioam_tunnel.specs.declared.numbers.Numbers.{Numbers}

there : {X : Type 0} (xs : List X) (i : ℕ) → i < length xs → is_some (slice_get xs i) ≡ true
there [] i inside = absurd (omega (arith, inside))
there (x ∷ xs) zero inside = refl
there (x ∷ xs) (suc i) inside = there xs i (omega (arith, inside))

-- the hop limit of what is enclosed
pub start-limit : (tunnel : Tunnel) (packet : List ℕ) → packet ≡ wire tunnel 0 no_elements → slice_index packet 7 ≡ tunnel.hops
start-limit tunnel packet is =
    let limit : slice_index packet 7 ≡ limit_after tunnel 0 =
    ap (λ xs. slice_index xs 7) is ∙ limit-is tunnel (limit_after tunnel 0) (hop_parts tunnel no_elements) in
    omega (arith, limit)

module _ (domain : Domain) (flow : FlowId) (numbers : Numbers) (packet : List ℕ) (known : flow.0 < length (flows domain)) where
  pub hops-of : (n more : ℕ) → IfSome (slice_get (flows domain) flow.0) (λ f. n ≤ f.hops + more) → n ≤ (tunnel_of domain flow numbers packet).hops + more
  hops-of n more few = by-found (slice_get (flows domain) flow.0) (there (flows domain) flow.0 known) few
    where
      by-found : (found : Option Flow) → is_some found ≡ true → IfSome found (λ f. n ≤ f.hops + more) → n ≤ (tunnel_by domain found numbers packet).hops + more
      by-found None some few = absurd (true≢false (sym some))
      by-found (Some f) some few = few

  pub short-of : (n : ℕ) → IfSome (slice_get (flows domain) flow.0) (λ f. n ≡ outer_size f (length packet) (is_some numbers.direct) (is_some numbers.limit))
      → IfSome (slice_get (flows domain) flow.0) (λ f. MayEnclose f numbers packet) → n ≤ 65575
  short-of n sized may = by-found (slice_get (flows domain) flow.0) (there (flows domain) flow.0 known) sized may
    where
      by-found : (found : Option Flow) → is_some found ≡ true
          → IfSome found (λ f. n ≡ outer_size f (length packet) (is_some numbers.direct) (is_some numbers.limit))
          → IfSome found (λ f. MayEnclose f numbers packet) → n ≤ 65575
      by-found None some sized may = absurd (true≢false (sym some))
      by-found (Some f) some sized may = omega (arith, sized, may.size)

-- ---- what holds of a job that is made

flow-known : (domain : Domain) (packet : List ℕ) (it : Itinerary) (carried : Option (FlowId × Numbers)) → RidesBy domain packet it carried
    → IfSome carried (λ c. c.0.0 < length (flows domain))
flow-known domain packet it None rides = tt
flow-known domain packet it (Some carried) rides = rides.known

whole-by : (it : Itinerary) (octets : List ℕ) (carried : Option (FlowId × Numbers)) → GoesBy carried it octets → IsSome carried
    → IsPacket octets × IsSound octets
whole-by it octets None goes some = absurd (true≢false (sym some))
whole-by it octets (Some carried) goes some = (goes.is_packet, goes.is_sound)

pub holds-made : (domain : Domain) (packet : List ℕ) (job : Job) → Rides domain packet job.itinerary
    → GoesBy job.itinerary.carried job.itinerary job.packet.items → length job.packet.items ≤ 65575 → Holds domain job
holds-made domain packet job rides goes short = record {
  port = rides.port;
  ends = rides.ends;
  flow = flow-known domain packet job.itinerary job.itinerary.carried rides.carries;
  size = omega (arith, short);
  sound = whole-by job.itinerary job.packet.items job.itinerary.carried goes;
}
