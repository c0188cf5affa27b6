use Rattle.std.proofs.Common.{◌++◌, ap, ◌∙◌}
use Rattle.std.specs.Prelude.{is_ok, if◌then◌else◌}
use Rattle.ioam_pcap.proofs.TextLaws.{begins_by, begins_reading}
use Rattle.ioam_pcap.proofs.put.put_head.Goals as goal

pub returns-clause-begins : goal.returns-clause-begins
returns-clause-begins c =
    let old = c.args.out.now.items in
    begins_by c.append.result old c.append.new.out.items (c.append.ensures ∙ ap (λ head. if is_ok c.append.result then old ++ head else old) c.head.ensures)

pub returns-clause-reads : goal.returns-clause-reads
returns-clause-reads c =
    let old = c.args.out.now.items in
    begins_reading c.append.result old c.append.new.out.items (c.append.ensures ∙ ap (λ head. if is_ok c.append.result then old ++ head else old) c.head.ensures)
