use Rattle.std.proofs.Common.{List, ℕ, ◌++◌, subst, sym}
use Rattle.ioam_ip.specs.Header.{HasFields}
use Rattle.ioam_ip.specs.Packet.{IsPacket}
use Rattle.ioam_ip.proofs.HeaderLaws.{HasFields-written, IsPacket-written}
use Rattle.ioam_ip.proofs.codec.put_header.Goals as goal

pub returns-clause-fields : goal.returns-clause-fields
returns-clause-fields c =
    let P : List ℕ → Type 0 = λ octets. HasFields octets c.args.header.now in
    subst P (sym c.write_fields.ensures.octets) (HasFields-written c.args.header.now c.write_fields.ensures.fit)

pub returns-clause-packet : goal.returns-clause-packet
returns-clause-packet c = λ payload long.
    let P : List ℕ → Type 0 = λ octets. IsPacket (octets ++ payload) in
    subst P (sym c.write_fields.ensures.octets) (IsPacket-written c.args.header.now payload c.write_fields.ensures.fit long)
