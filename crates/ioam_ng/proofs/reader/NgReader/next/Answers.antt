use Rattle.std.proofs.Common.{◌≡◌, ◌≤◌, length, take, drop, arith, refl, ap, ◌∙◌, subst}
use Rattle.ioam_ng.specs.declared.block.Content.{Content}
use Rattle.ioam_ng.specs.Reader.{IsPacket}
use Rattle.ioam_ng.proofs.StandsLaws.{tells_more, tells_bad, tells_memory, octets_of_packet, held_kept, moved_packet, packet_told}
use Rattle.ioam_ng.proofs.reader.NgReader.next.Goals as goal

pub returns-in-More : goal.returns-in-More
returns-in-More c =
    let e = c.in-More.ensures in
    ((refl, λ _. tt, tells_more c.args.self.now c.advance.new.self _ e.skips c.self.view_is e.due.0 e.due.1), tt)

pub returns-in-Bad : goal.returns-in-Bad
returns-in-Bad c =
    let e = c.in-Bad.ensures in
    ((refl, λ _. tt, tells_bad c.args.self.now c.advance.new.self _ e.skips c.self.view_is c.start.result c.in-Bad.fault (c.start.ensures ∙ ap (λ r. r.start) c.self.view_is) e.due), tt)

pub returns-in-NoMemory : goal.returns-in-NoMemory
returns-in-NoMemory c =
    let e = c.in-NoMemory.ensures in
    ((refl, λ _. tt, tells_memory c.args.self.now c.advance.new.self _ e.skips c.self.view_is e.due), tt)

pub returns-in-Packet-content : goal.returns-in-Packet-content
returns-in-Packet-content c =
    let e = c.in-Packet.ensures in
    let old = c.args.self.now in
    let mid = c.advance.new.self in
    let b = c.in-Packet.block in
    let head = c.in-Packet-content.head in
    let kept = c.self.inside.octets in
    let Q : Content → Type 0 = λ x. IsPacket mid b x in
    let is = subst Q c.in-Packet-content.is e.due in
    let moved = moved_packet kept c.take.new.self c.self.inside.count c.self.inside.order c.self.inside.faces.items mid b head c.self.view_is c.in-Packet-content.is c.take.ensures in
    let fits : b.size ≤ length kept.pending = omega (arith, is.3, ap (λ r. length r.pending) c.self.view_is) in
    let same = held_kept kept c.take.new.self _ mid b.size c.self.view_is c.take.ensures fits in
    let octets = take head.captured c.taken-octets.result.now in
    let shown : octets ≡ take head.captured (drop 28 mid.pending) =
    ap (take head.captured) c.taken-octets.ensures ∙ octets_of_packet kept c.take.new.self b.size head.captured c.take.ensures fits is.4
    ∙ ap (λ r. take head.captured (drop 28 r.pending)) c.self.view_is in
    let told = packet_told old mid _ e.skips b head is moved same octets shown in
    ((refl, λ _. tt, (told.0, told.1, told.2, λ all taken stands. (told.3 all taken stands, tt), told.4 _, told.5, told.6, told.7)), tt)
