use Rattle.std.proofs.Common.{◌+◌, ◌++◌, List, ℕ, length, ap, ◌∙◌, arith}
use Rattle.ioam_dex.specs.Record.{Record}
use Rattle.ioam_dex.proofs.RecordLaws.{record_octets-length, record_size-small}
use Rattle.ioam_run_ipfix.specs.Packing.{Packed}
use Rattle.ioam_run_ipfix.proofs.PackingLaws.{packs-add}
use Rattle.ioam_run_ipfix.proofs.packing.Packing.add.Goals as goal

pub push-requires-clause-short : goal.push-requires-clause-short
push-requires-clause-short c =
    let x : Record = c.requires.whole.0 in
    let whole = c.requires.whole.1 in
    omega (arith, ap length whole.is, record_octets-length x whole.sayable.parts, record_size-small x whole.sayable.parts)

pub returns : goal.returns
returns c = λ x whole.
    let mid = c.close.new.self in
    let made : List ℕ → Packed = λ o. record { octets = mid.octets ++ o; held = mid.held + 1; template = c.template_of-template.result; before = mid.before } in
    packs-add c.args.self.now mid x c.template_of-template.result c.args.out.now.items c.close.new.out.items
    whole.sayable (c.template_of-template.ensures x whole) c.in_ok-close.ensures c.push.new.self (c.push.ensures ∙ ap made whole.is)
