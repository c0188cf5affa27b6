use Rattle.std.proofs.Common.{◌++◌, ap, ◌∙◌, arith}
use Rattle.std.specs.Prelude.{flat_map}
use Rattle.ioam_ipfix.specs.Data.{data_octets}
use Rattle.ioam_ipfix.specs.Written.{message_octets}
use Rattle.ioam_ipfix.proofs.RunLaws.{run-small, run-records, run-begins, run-first, closed}
use Rattle.ioam_ipfix.proofs.writer.put_message.Goals as goal

pub reserve_heads-requires : goal.reserve_heads-requires
reserve_heads-requires c = let small = run-small c.args.run.now c.requires in omega (arith, small)

pub put_records-requires-clause-records : goal.put_records-requires-clause-records
put_records-requires-clause-records c = let r = c.requires in (r.1, run-records r.0 r.1 r.2.alike, r.3)

pub first_template-requires : goal.first_template-requires
first_template-requires c = run-begins c.args.run.now c.requires

pub write_heads-requires-clause-open : goal.write_heads-requires-clause-open
write_heads-requires-clause-open c =
    let grown = c.put_records.ensures.len in
    let opened = c.in_ok-reserve_heads.ensures.len in
    omega (arith, grown.0, opened)

pub write_heads-requires-clause-small : goal.write_heads-requires-clause-small
write_heads-requires-clause-small c =
    let grown = c.put_records.ensures.len in
    let opened = c.in_ok-reserve_heads.ensures.len in
    let small = run-small c.args.run.now c.requires in
    omega (arith, grown.1, opened, small)

pub returns-clause-ok : goal.returns-clause-ok
returns-clause-ok c = λ id xs is text.
    let old = c.args.out.now.items in
    let content = flat_map data_octets xs in
    let first = run-first c.args.run.now c.first_template.result id xs is text c.first_template.ensures in
    closed old c.reserve_heads.new.out.items c.put_records.new.out.items c.write_heads.new.out.items content c.len-start.result c.args.count c.first_template.result
    (omega (arith, c.len-start.ensures, c.args.out.now.ok.0)) c.in_ok-reserve_heads.ensures.ok (c.put_records.ensures.items xs (run-records id xs is.alike) text) c.write_heads.ensures
    ∙ ap (λ n. old ++ message_octets c.args.count n content) first
