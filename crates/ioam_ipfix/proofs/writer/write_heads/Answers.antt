use Rattle.std.proofs.Common.{◌-◌, ◌%◌, ◌++◌, ap, ◌∙◌, arith}
use Rattle.ioam_base.specs.Octets.{written}
use Rattle.ioam_base.specs.Words.{two_octets, four_octets}
use Rattle.ioam_ipfix.proofs.RunLaws.{close-written}
use Rattle.ioam_ipfix.proofs.writer.write_heads.Goals as goal

pub returns : goal.returns
returns c = λ front content at is.
    let items = c.args.out.now.items in
    let start = c.args.start in
    let id = c.args.id in
    let size = c.len.result - start in
    let n = c.args.count % 4294967296 in
    let one = c.two.ensures.value ∙ ap (λ o. o ++ two_octets 10) c.new-heads.ensures in
    let two = c.two-2.ensures.value ∙ ap (λ o. o ++ two_octets size) one in
    let three = c.four.ensures.value ∙ ap (λ o. o ++ four_octets 0) two in
    let four = c.four-2.ensures.value ∙ ap (λ o. o ++ four_octets n) three in
    let five = c.four-3.ensures.value ∙ ap (λ o. o ++ four_octets 0) four in
    let six = c.two-3.ensures.value ∙ ap (λ o. o ++ two_octets id) five in
    let seven = c.octets.ensures ∙ c.two-4.ensures.value ∙ ap (λ o. o ++ two_octets (size - 16)) six in
    let put = c.put_at.ensures ∙ ap (λ o. written o start c.octets.result.now) c.as_mut_slice.ensures.value ∙ ap (λ h. written items start h) seven in
    close-written items c.put_at.new.octets front content c.args.out.now.len start c.args.count id size (omega (arith, c.args.out.now.ok.0)) at is (omega (arith, c.len.ensures)) put
