use Rattle.std.proofs.Common.{◌≡◌, ◌++◌, ◌∙◌, length, arith}
use Rattle.std.specs.Prelude.{is_ok, if◌then◌else◌}
use Rattle.ioam_ng.specs.Text.{packet_front, packet_numbers, packet_tail, taken_by, IsSendable}
use Rattle.ioam_ng.proofs.TextLaws.{adds_by, adds_reading}
use Rattle.ioam_ng.proofs.put.put_ng_packet.Goals as goal

pub returns : goal.returns
returns c =
    let old = c.args.out.now.items in
    let p = c.args.packet.now in
    let front : c.octets.result.now ≡ packet_front c.args.link (length p.octets.now) = c.octets.ensures ∙ c.packet_front-front.ensures in
    let numbers : c.octets-2.result.now ≡ packet_numbers p.time (length p.octets.now) p.original = c.octets-2.ensures ∙ c.packet_numbers-numbers.ensures in
    let tail : c.octets-3.result.now ≡ packet_tail (length p.octets.now) = c.octets-3.ensures ∙ c.packet_tail-tail.ensures in
    let made = c.append_block.ensures ∙ (λ i. if is_ok c.append_block.result then old ++ (front i ++ (numbers i ++ (p.octets.now ++ tail i))) else old) in
    let fit : IsSendable (taken_by c.args.link p) = (c.requires.size, omega (arith, c.requires.time), omega arith) in
    record {
      octets = made;
      adds = λ sent was. adds_by old c.append_block.new.out.items (taken_by c.args.link p) sent c.append_block.result made was;
      reads = λ sent fits few was. adds_reading old c.append_block.new.out.items (taken_by c.args.link p) sent c.append_block.result made fit fits few was;
    }
