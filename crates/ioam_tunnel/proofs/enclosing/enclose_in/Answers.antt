use Rattle.std.proofs.Common.{◌≡◌, length, ℕ, Option, is_some, IfSome, sym, ap, ◌∙◌, subst}
use Rattle.ioam_ip.specs.Chain.{IsSound}
use Rattle.ioam_ip.specs.Hop.{HopFits}
use Rattle.ioam_ip.specs.Packet.{IsPacket}
use Rattle.ioam_ip.proofs.SoundLaws.{IsSound-lowered, IsPacket-lowered}
use Rattle.ioam_topo.specs.declared.parts.Flow.{Flow}
use Rattle.ioam_tunnel.specs.Enclosed.{MayEnclose, tunnel_of, tunnel_by, tunnel_between, address_of}
use Rattle.ioam_tunnel.specs.Size.{outer_size}
use Rattle.ioam_tunnel.specs.Wire.{Tunnel, IsTunnel, wire, no_elements, limit_after, hop_parts}
use Rattle.ioam_tunnel.proofs.EncloseLaws.{IsPacket-wire, IsSound-wire}
use Rattle.ioam_tunnel.proofs.WireLaws.{HopFits-packet}
use Rattle.ioam_tunnel.proofs.enclosing.enclose_in.Goals as goal

pub enclose_between-requires-clause-may : goal.enclose_between-requires-clause-may
enclose_between-requires-clause-may c =
    subst (λ (f : Option Flow). IfSome f (λ found. MayEnclose found c.args.numbers.now c.args.packet.now)) c.flow-found.ensures.value c.requires.may

pub returns-clause-wire : goal.returns-clause-wire
returns-clause-wire c =
    let domain = c.args.domain.now in
    let numbers = c.args.numbers.now in
    let packet = c.args.packet.now in
    let found = c.flow-found.result.now in
    let same : tunnel_between c.node-entry.result.now.address c.node-exit.result.now.address found numbers packet ≡ tunnel_of domain c.args.flow numbers packet =
    (λ i. tunnel_between (address_of (sym c.node-entry.ensures.value i)) (address_of (sym c.node-exit.ensures.value i)) found numbers packet)
    ∙ ap (λ (f : Option Flow). tunnel_by domain f numbers packet) (sym c.flow-found.ensures.value) in
    c.in_ok-out.ensures.wire ∙ ap (λ (t : Tunnel). wire t 0 no_elements) same

pub returns-clause-tunnel : goal.returns-clause-tunnel
returns-clause-tunnel c =
    let domain = c.args.domain.now in
    let numbers = c.args.numbers.now in
    let packet = c.args.packet.now in
    let found = c.flow-found.result.now in
    let same : tunnel_between c.node-entry.result.now.address c.node-exit.result.now.address found numbers packet ≡ tunnel_of domain c.args.flow numbers packet =
    (λ i. tunnel_between (address_of (sym c.node-entry.ensures.value i)) (address_of (sym c.node-exit.ensures.value i)) found numbers packet)
    ∙ ap (λ (f : Option Flow). tunnel_by domain f numbers packet) (sym c.flow-found.ensures.value) in
    subst IsTunnel same c.in_ok-out.ensures.tunnel

pub returns-clause-size : goal.returns-clause-size
returns-clause-size c =
    let size : Flow → ℕ = λ f. outer_size f (length c.args.packet.now) (is_some c.args.numbers.now.direct) (is_some c.args.numbers.now.limit) in
    subst (λ (f : Option Flow). IfSome f (λ found. length c.in_ok-out.out.items ≡ size found)) (sym c.flow-found.ensures.value) c.in_ok-out.ensures.size

pub returns-clause-packet : goal.returns-clause-packet
returns-clause-packet c =
    let tunnel = tunnel_between c.node-entry.result.now.address c.node-exit.result.now.address c.flow-found.result.now c.args.numbers.now c.args.packet.now in
    subst (λ xs. IsPacket xs) (sym c.in_ok-out.ensures.wire) (IsPacket-wire tunnel c.in_ok-out.ensures.tunnel)

pub returns-clause-sound : goal.returns-clause-sound
returns-clause-sound c = λ sound.
    let packet = c.args.packet.now in
    let tunnel = tunnel_between c.node-entry.result.now.address c.node-exit.result.now.address c.flow-found.result.now c.args.numbers.now packet in
    subst (λ xs. IsSound xs) (sym c.in_ok-out.ensures.wire)
    (IsSound-wire tunnel c.in_ok-out.ensures.tunnel (IsPacket-lowered packet _ c.requires.packet) (IsSound-lowered packet _ sound))

pub returns-clause-fits : goal.returns-clause-fits
returns-clause-fits c =
    let tunnel = tunnel_between c.node-entry.result.now.address c.node-exit.result.now.address c.flow-found.result.now c.args.numbers.now c.args.packet.now in
    subst (λ xs. HopFits xs) (sym c.in_ok-out.ensures.wire) (HopFits-packet tunnel (limit_after tunnel 0) (hop_parts tunnel no_elements))
