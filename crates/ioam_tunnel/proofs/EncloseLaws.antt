-- What an entry node joins is the outer packet before any visit.
use Rattle.std.proofs.Common.{◌≡◌, ℕ, ◌+◌, ◌-◌, ◌<◌, false, cond, eqb, List, [], ◌∷◌, ◌++◌, length, map, slice_index, Option, Some, None, is_some, refl, ap, ◌∙◌, arith, length-append}
use Rattle.std.specs.List.{All}
use Rattle.std.proofs.lemmas.List.{length-set, map-append}
use Rattle.std.proofs.lemmas.Bool.Decides.{nat_tests}
use Rattle.ioam_data.specs.declared.namespace.Namespace.{Namespace}
use Rattle.ioam_ip.specs.Packet.{IsPacket}
use Rattle.ioam_ip.specs.Chain.{IsSound}
use Rattle.ioam_ip.specs.Laid.{Part, AreParts, header_of, header_if, value_if}
use Rattle.ioam_ip.specs.Sizes.{sized, header_size}
use Rattle.ioam_ip.proofs.SizesLaws.{length-header_if}
use Rattle.ioam_topo.specs.Sound.{IsFlow}
use Rattle.ioam_topo.specs.declared.parts.Flow.{Flow}
use Rattle.ioam_tunnel.specs.declared.numbers.Numbers.{Numbers}
use Rattle.ioam_tunnel.specs.Enclosed.{room_of, direct_parts, limit_parts, edge_parts, tunnel_between, MayEnclose}
use Rattle.ioam_tunnel.specs.Inner.{IsOuter}
use Rattle.ioam_tunnel.specs.Size.{trace_size, direct_sizes, limit_sizes, edge_sizes, outer_size}
use Rattle.ioam_tunnel.specs.Wire.{Tunnel, IsRoom, IsTunnel, AreConstant, next_value, trace_parts, hop_parts, no_elements, behind_outer, outer_header, packet_with, limit_after, wire}
use Rattle.ioam_tunnel.proofs.InnerLaws.{IsPacket-packet, IsSound-packet}
use Rattle.ioam_tunnel.proofs.SizeLaws.{sized-traces, sized-direct, sized-limit, sized-edge}
use Rattle.ioam_tunnel.proofs.WireLaws.{length-packet, AreParts-hop}

some_octets : (n : ℕ) → 0 < n → eqb n 0 ≡ false
some_octets n some = grind (arith, nat_tests)

pub value_by : (value next at : ℕ) (parts : List Part) → cond (eqb (length (header_if at parts)) 0) next value ≡ value_if value parts next
value_by value next at [] = refl
value_by value next at (part ∷ parts) = ap (λ b. cond b next value) (some_octets (length (header_of at (part ∷ parts))) (omega arith))

module _ (tunnel : Tunnel) (hop targets : List ℕ) (next first payload : ℕ)
    (targets_is : targets ≡ header_if 41 tunnel.targets) (next_is : next ≡ cond (eqb (length targets) 0) 41 60)
    (hop_is : hop ≡ header_if next (hop_parts tunnel no_elements)) (first_is : first ≡ cond (eqb (length hop) 0) next 0)
    (payload_is : payload ≡ length hop + length targets + length tunnel.inner) where
  abbrev parts : List Part
  parts = hop_parts tunnel no_elements

  next_value_is : next ≡ next_value tunnel
  next_value_is = next_is ∙ ap (λ xs. cond (eqb (length xs) 0) 41 60) targets_is ∙ value_by 60 41 41 tunnel.targets

  hop_header_is : hop ≡ header_if (next_value tunnel) parts
  hop_header_is = hop_is ∙ ap (λ n. header_if n parts) next_value_is

  first_value_is : first ≡ value_if 0 parts (next_value tunnel)
  first_value_is = first_is ∙ ap (λ xs. cond (eqb (length xs) 0) next 0) hop_header_is ∙ value_by 0 next (next_value tunnel) parts
      ∙ ap (λ n. value_if 0 parts n) next_value_is

  behind_is : hop ++ (targets ++ tunnel.inner) ≡ behind_outer tunnel parts
  behind_is = λ i. hop_header_is i ++ (targets_is i ++ tunnel.inner)

  pub length-behind : length hop + length targets + length tunnel.inner ≡ length (behind_outer tunnel parts)
  length-behind = omega (arith, ap length behind_is, length-append hop (targets ++ tunnel.inner), length-append targets tunnel.inner)

  pub joined : outer_header tunnel payload first tunnel.hops ++ (hop ++ (targets ++ tunnel.inner)) ≡ wire tunnel 0 no_elements
  unfolding packet_with
  joined =
      let limit : tunnel.hops ≡ limit_after tunnel 0 = omega arith in
      let long : payload ≡ length (behind_outer tunnel parts) = payload_is ∙ length-behind in
      λ i. outer_header tunnel (long i) (first_value_is i) (limit i) ++ behind_is i

-- ---- the tunnel of a flow

direct-constant : (flow : Flow) (kind seq : Option ℕ) → AreConstant (direct_parts flow kind seq)
direct-constant flow (Some kind) (Some seq) = (omega arith, refl, tt)
direct-constant flow (Some kind) None = tt
direct-constant flow None seq = tt

target-parts : (namespace : Namespace) (limit edge : Option ℕ) (numbers : Numbers) → AreParts (limit_parts limit ++ edge_parts namespace edge numbers)
target-parts namespace (Some limit) (Some kind) numbers = (omega arith, (omega arith, tt))
target-parts namespace (Some limit) None numbers = (omega arith, tt)
target-parts namespace None (Some kind) numbers = (omega arith, tt)
target-parts namespace None None numbers = tt

module _ (source target : ℕ) (flow : Flow) (numbers : Numbers) (packet : List ℕ) (is_flow : IsFlow flow) (may : MayEnclose flow numbers packet) where
  abbrev tunnel : Tunnel
  tunnel = tunnel_between source target flow numbers packet

  abbrev laid : List Part
  laid = hop_parts tunnel no_elements

  pub hop-length : (next : ℕ) → length (header_if next laid) ≡ header_size (map trace_size flow.traces ++ direct_sizes (is_some numbers.direct))
  hop-length next =
      let traces = trace_parts (map room_of flow.traces) no_elements in
      let directs = direct_parts flow flow.direct numbers.direct in
      length-header_if next laid ∙ ap header_size (map-append sized traces directs
      ∙ (λ i. sized-traces flow.traces i ++ sized-direct flow flow.direct numbers.direct is_flow.direct_id may.direct i))

  pub target-length : length (header_if 41 tunnel.targets) ≡ header_size (limit_sizes (is_some numbers.limit) ++ edge_sizes flow.edge)
  target-length =
      let limits = limit_parts numbers.limit in
      let edges = edge_parts flow.namespace flow.edge numbers in
      length-header_if 41 tunnel.targets ∙ ap header_size (map-append sized limits edges
      ∙ (λ i. sized-limit numbers.limit i ++ sized-edge flow.namespace flow.edge numbers i))

  -- all behind the outer header
  behind-length : 40 + length (behind_outer tunnel laid) ≡ outer_size flow (length packet) (is_some numbers.direct) (is_some numbers.limit)
  behind-length =
      let hop = header_if (next_value tunnel) laid in
      let targets = header_if 41 tunnel.targets in
      omega (
        arith,
        hop-length (next_value tunnel),
        target-length,
        length-append hop (targets ++ tunnel.inner),
        length-append targets tunnel.inner,
        length-set packet 7 (slice_index packet 7 - 1),
      )

  pub whole-length : length (wire tunnel 0 no_elements) ≡ outer_size flow (length packet) (is_some numbers.direct) (is_some numbers.limit)
  whole-length = length-packet tunnel (limit_after tunnel 0) laid ∙ behind-length

  pub IsTunnel-between : flow.hops < 256 → All IsRoom (map room_of flow.traces) → IsTunnel tunnel
  IsTunnel-between hops rooms = record {
    class_below = omega arith;
    label_below = omega (arith, is_flow.label_most);
    hops_below = hops;
    rooms = rooms;
    others = direct-constant flow flow.direct numbers.direct;
    targets = target-parts flow.namespace numbers.limit flow.edge numbers;
    payload_below = omega (arith, behind-length, may.size);
  }

-- the outer packet is one, its header for nodes lies within it, and its chain is whole where the packet's is
pub IsOuter-tunnel : (tunnel : Tunnel) → IsTunnel tunnel → IsOuter tunnel (hop_parts tunnel no_elements)
IsOuter-tunnel tunnel right = record {
  class_below = right.class_below;
  label_below = right.label_below;
  payload_below = right.payload_below;
  targets = right.targets;
  others = AreParts-hop tunnel no_elements right.others;
}

pub IsPacket-wire : (tunnel : Tunnel) → IsTunnel tunnel → IsPacket (wire tunnel 0 no_elements)
IsPacket-wire tunnel right = IsPacket-packet tunnel (limit_after tunnel 0) (hop_parts tunnel no_elements) (IsOuter-tunnel tunnel right)

pub IsSound-wire : (tunnel : Tunnel) → IsTunnel tunnel → IsPacket tunnel.inner → IsSound tunnel.inner → IsSound (wire tunnel 0 no_elements)
IsSound-wire tunnel right is_packet sound =
    IsSound-packet tunnel (limit_after tunnel 0) (hop_parts tunnel no_elements) right.targets (AreParts-hop tunnel no_elements right.others) is_packet sound
