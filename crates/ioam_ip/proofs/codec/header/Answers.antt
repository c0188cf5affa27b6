use Rattle.std.proofs.Common.{rules, arith}
use Rattle.ioam_ip.specs.Packet.{IsPacket}
use Rattle.ioam_ip.proofs.HeaderLaws.{header_octets-read}
use Rattle.ioam_ip.proofs.codec.header.Goals as goal

pub returns-clause-octets : goal.returns-clause-octets
returns-clause-octets c =
    let packet : IsPacket c.args.octets.now = search rules in
    header_octets-read c.args.octets.now c.read_fields.result packet (λ i. omega (arith, c.type_inv.octets i)) c.read_fields.ensures
