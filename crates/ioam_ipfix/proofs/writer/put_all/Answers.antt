use Rattle.std.proofs.Common.{◌+◌, ◌≤◌, ◌<◌, ◌++◌, length, refl, ap, ◌∙◌, arith}
use Rattle.ioam_ipfix.proofs.RunLaws.{next-template}
use Rattle.ioam_ipfix.proofs.WrittenLaws.{template-short}
use Rattle.ioam_ipfix.proofs.writer.put_all.Goals as goal

pub templates-preserved : goal.templates-preserved
templates-preserved c =
    let id = c.templates.id in
    let was = c.templates.invariant in
    let mid = c.templates.out.items in
    let new = c.put.new.out.items in
    let least : 256 ≤ id = omega (arith, c.templates.auto.id) in
    let most : id < 264 = omega (arith, c.templates-test.true) in
    let octets = c.octets.ensures ∙ c.template.ensures in
    let put = c.put.ensures.items ∙ ap (λ o. mid ++ o) octets in
    let size = ap length octets in
    let short = template-short id in
    let len = c.put.ensures.len in
    let cap = c.put.ensures.capacity in
    record {
      items = next-template c.args.out.now.items mid new id (id + 1) least most refl was.items put;
      len = omega (arith, len, size, short, was.len, least);
      grows = omega (arith, len, was.grows);
      room = omega (arith, cap, was.room);
    }
