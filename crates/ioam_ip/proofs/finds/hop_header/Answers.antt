use Rattle.std.proofs.Common.{◌≡◌, ℕ, ◌+◌, ◌*◌, true, eqb, slice_index, ap, refl, arith}
use Rattle.ioam_ip.specs.Hop.{has_hop}
use Rattle.ioam_ip.proofs.HopHeaderLaws.{hop_within, IsFilledRange-hop, IsHopRange-hop}
use Rattle.ioam_ip.proofs.finds.hop_header.Goals as goal

pub said_size-requires : goal.said_size-requires
said_size-requires c =
    let packet = c.args.packet.now in
    let there : has_hop packet ≡ true = ap (λ n. eqb n 0) c.if-packet-ne-HOP_BY_HOP.false in
    let size : ℕ = (slice_index packet 41 + 1) * 8 in
    omega (arith, hop_within packet c.requires.sound there size refl)

pub returns-clause-filled : goal.returns-clause-filled
returns-clause-filled c =
    let there : has_hop c.args.packet.now ≡ true = ap (λ n. eqb n 0) c.if-packet-ne-HOP_BY_HOP.false in
    IsFilledRange-hop c.args.packet.now c.requires.sound there c.said_size.result c.said_size.ensures.value

pub returns-clause-place : goal.returns-clause-place
returns-clause-place c =
    let there : has_hop c.args.packet.now ≡ true = ap (λ n. eqb n 0) c.if-packet-ne-HOP_BY_HOP.false in
    IsHopRange-hop c.args.packet.now c.requires.sound there c.said_size.result c.said_size.ensures.value c.said_size.ensures.most
