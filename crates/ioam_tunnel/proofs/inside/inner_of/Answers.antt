use Rattle.std.proofs.Common.{◌≡◌, ℕ, List, ◌∙◌, sym, ap, subst, length, take, drop, ◌-◌, true}
use Rattle.std.proofs.lemmas.List.{take_rest}
use Rattle.ioam_ip.specs.Packet.{IsPacket}
use Rattle.ioam_ip.specs.declared.chain.Head.{Head}
use Rattle.ioam_tunnel.proofs.InnerLaws.{none-first, head-first}
use Rattle.ioam_tunnel.proofs.inside.inner_of.Goals as goal

pub returns-in_default : goal.returns-in_default
returns-in_default c place is_packet at = none-first c.args.packet.now c.in_default.ensures.first place at

pub returns-then-head-ne-IPV6 : goal.returns-then-head-ne-IPV6
returns-then-head-ne-IPV6 c place is_packet at =
    let same = head-first c.args.packet.now c.in-Some.head c.in-Some.ensures.first place at in
    absurd (c.if-head-ne-IPV6.true (ap (λ (h : Head). h.value) same ∙ at.nested))

pub returns-then-not-is_packet : goal.returns-then-not-is_packet
returns-then-not-is_packet c place is_packet at =
    let same = head-first c.args.packet.now c.in-Some.head c.in-Some.ensures.first place at in
    let start = ap (λ (h : Head). h.range.start) same ∙ at.start in
    let packet = c.args.packet.now in
    let P : List ℕ → Type 0 = λ xs. IsPacket xs in
    let octets : take (length packet - c.in-Some.head.range.start) (drop c.in-Some.head.range.start packet) ≡ drop place packet =
    take_rest packet c.in-Some.head.range.start ∙ ap (λ n. drop n packet) start in
    let yes : c.is_packet.result ≡ true = c.is_packet.ensures.1 (subst P (sym octets) at.is_packet) in
    absurd (cc)
