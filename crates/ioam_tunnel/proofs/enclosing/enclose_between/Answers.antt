use Rattle.std.proofs.Common.{◌≡◌, ◌+◌, ◌-◌, ◌++◌, length, cond, eqb, ℕ, List, map, slice_index, append_assoc, refl, sym, ap, ◌∙◌, arith}
use Rattle.std.proofs.lemmas.List.{length-set}
use Rattle.ioam_ip.specs.Laid.{header_if}
use Rattle.ioam_ip.specs.Lowered.{lowered}
use Rattle.ioam_ip.specs.Sizes.{header_size}
use Rattle.ioam_tunnel.specs.Enclosed.{tunnel_between}
use Rattle.ioam_tunnel.specs.Outer.{Writing}
use Rattle.ioam_tunnel.specs.Size.{trace_size, direct_sizes, limit_sizes, edge_sizes}
use Rattle.ioam_tunnel.specs.Wire.{outer_start, addresses, outer_header, hop_parts, no_elements}
use Rattle.ioam_tunnel.proofs.EncloseLaws.{joined, hop-length, target-length, whole-length, IsTunnel-between}
use Rattle.ioam_tunnel.proofs.enclosing.enclose_between.Goals as goal

pub lay_hop-requires-clause-room : goal.lay_hop-requires-clause-room
lay_hop-requires-clause-room c =
    let source = c.args.ends.source in
    let target = c.args.ends.target in
    let flow = c.args.flow.now in
    let numbers = c.args.numbers.now in
    let packet = c.args.packet.now in
    let tunnel = tunnel_between source target flow numbers packet in
    let next = c.value_in_front-next.result in
    let hop : List ℕ = header_if next (hop_parts tunnel no_elements) in
    let hop_is : c.hop_size-hop.result ≡ length hop =
    c.hop_size-hop.ensures.value
    ∙ ap (λ b. header_size (map trace_size flow.traces ++ direct_sizes b)) c.is_some.ensures
    ∙ sym (hop-length source target flow numbers packet c.requires.flow c.requires.may next) in
    omega (arith, hop_is, c.in_ok-outer.ensures.most)

pub lay_targets-requires-clause-none : goal.lay_targets-requires-clause-none
lay_targets-requires-clause-none c = ap (λ (w : Writing). w.laid) c.lay_hop.ensures.value

pub lay_targets-requires-clause-small : goal.lay_targets-requires-clause-small
lay_targets-requires-clause-small c =
    omega (
      arith,
      ap (λ (w : Writing). w.most) c.lay_hop.ensures.value,
      c.in_ok-outer.ensures.most,
      c.hop_size-hop.ensures.small,
      c.target_size-targets.ensures.small,
    )

pub lay_targets-requires-clause-room : goal.lay_targets-requires-clause-room
lay_targets-requires-clause-room c =
    let source = c.args.ends.source in
    let target = c.args.ends.target in
    let flow = c.args.flow.now in
    let numbers = c.args.numbers.now in
    let packet = c.args.packet.now in
    let tunnel = tunnel_between source target flow numbers packet in
    let next = c.value_in_front-next.result in
    let hop : List ℕ = header_if next (hop_parts tunnel no_elements) in
    let hop_is : c.hop_size-hop.result ≡ length hop =
    c.hop_size-hop.ensures.value
    ∙ ap (λ b. header_size (map trace_size flow.traces ++ direct_sizes b)) c.is_some.ensures
    ∙ sym (hop-length source target flow numbers packet c.requires.flow c.requires.may next) in
    let targets : List ℕ = header_if 41 tunnel.targets in
    let targets_is : c.target_size-targets.result ≡ length targets =
    c.target_size-targets.ensures.value
    ∙ ap (λ b. header_size (limit_sizes b ++ edge_sizes flow.edge)) c.is_some-2.ensures
    ∙ sym (target-length source target flow numbers packet c.requires.flow c.requires.may) in
    let left = ap (λ (w : Writing). w.most) c.lay_hop.ensures.value in
    omega (arith, hop_is, targets_is, left, c.in_ok-outer.ensures.most)

pub carry-requires-clause-whole : goal.carry-requires-clause-whole
carry-requires-clause-whole c =
    let source = c.args.ends.source in
    let target = c.args.ends.target in
    let flow = c.args.flow.now in
    let numbers = c.args.numbers.now in
    let packet = c.args.packet.now in
    let tunnel = tunnel_between source target flow numbers packet in
    let next = c.value_in_front-next.result in
    let hop : List ℕ = header_if next (hop_parts tunnel no_elements) in
    let hop_is : c.hop_size-hop.result ≡ length hop =
    c.hop_size-hop.ensures.value
    ∙ ap (λ b. header_size (map trace_size flow.traces ++ direct_sizes b)) c.is_some.ensures
    ∙ sym (hop-length source target flow numbers packet c.requires.flow c.requires.may next) in
    let targets : List ℕ = header_if 41 tunnel.targets in
    let targets_is : c.target_size-targets.result ≡ length targets =
    c.target_size-targets.ensures.value
    ∙ ap (λ b. header_size (limit_sizes b ++ edge_sizes flow.edge)) c.is_some-2.ensures
    ∙ sym (target-length source target flow numbers packet c.requires.flow c.requires.may) in
    let left = ap (λ (w : Writing). w.most) c.lay_hop.ensures.value in
    omega (arith, hop_is, targets_is, left, ap (λ (w : Writing). w.most) c.lay_targets.ensures, c.in_ok-outer.ensures.most)

pub returns-clause-wire : goal.returns-clause-wire
returns-clause-wire c =
    let source = c.args.ends.source in
    let target = c.args.ends.target in
    let flow = c.args.flow.now in
    let numbers = c.args.numbers.now in
    let packet = c.args.packet.now in
    let tunnel = tunnel_between source target flow numbers packet in
    let next = c.value_in_front-next.result in
    let first = c.value_in_front.result in
    let hop : List ℕ = header_if next (hop_parts tunnel no_elements) in
    let targets : List ℕ = header_if 41 tunnel.targets in
    let payload : ℕ = c.hop_size-hop.result + c.target_size-targets.result + length packet in
    let hop_is : c.hop_size-hop.result ≡ length hop =
    c.hop_size-hop.ensures.value
    ∙ ap (λ b. header_size (map trace_size flow.traces ++ direct_sizes b)) c.is_some.ensures
    ∙ sym (hop-length source target flow numbers packet c.requires.flow c.requires.may next) in
    let targets_is : c.target_size-targets.result ≡ length targets =
    c.target_size-targets.ensures.value
    ∙ ap (λ b. header_size (limit_sizes b ++ edge_sizes flow.edge)) c.is_some-2.ensures
    ∙ sym (target-length source target flow numbers packet c.requires.flow c.requires.may) in
    let long : payload ≡ length hop + length targets + length (lowered 1 packet) =
    omega (arith, hop_is, targets_is, length-set packet 7 (slice_index packet 7 - 1)) in
    let head : List ℕ = outer_header tunnel payload first tunnel.hops in
    let class : outer_start c.class_of.result tunnel.label payload first tunnel.hops ++ addresses source target ≡ head =
    ap (λ k. outer_start k tunnel.label payload first tunnel.hops ++ addresses source target) c.class_of.ensures in
    c.in_ok-out.ensures
    ∙ ap (λ xs. xs ++ lowered 1 packet) (ap (λ (w : Writing). w.front) c.lay_targets.ensures
    ∙ ap (λ xs. xs ++ targets) (ap (λ (w : Writing). w.front) c.lay_hop.ensures.value
    ∙ ap (λ xs. xs ++ hop) (c.in_ok-outer.ensures.front ∙ c.head_of-head.ensures.octets ∙ class)))
    ∙ append_assoc (head ++ hop) targets (lowered 1 packet) ∙ append_assoc head hop (targets ++ lowered 1 packet)
    ∙ joined tunnel hop targets next first payload refl
    (c.value_in_front-next.ensures ∙ ap (λ n. cond (eqb n 0) 41 60) targets_is)
    refl
    (c.value_in_front.ensures ∙ ap (λ n. cond (eqb n 0) next 0) hop_is)
    long

pub returns-clause-size : goal.returns-clause-size
returns-clause-size c =
    ap length (returns-clause-wire c)
    ∙ whole-length c.args.ends.source c.args.ends.target c.args.flow.now c.args.numbers.now c.args.packet.now c.requires.flow c.requires.may

pub returns-clause-tunnel : goal.returns-clause-tunnel
returns-clause-tunnel c =
    IsTunnel-between c.args.ends.source c.args.ends.target c.args.flow.now c.args.numbers.now c.args.packet.now c.requires.flow c.requires.may
    c.head_of-head.ensures.hops c.lay_hop.ensures.sound
