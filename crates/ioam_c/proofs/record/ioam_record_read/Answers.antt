use Rattle.std.proofs.Common.{◌≡◌, length, drop, inl, refl, ap, ◌∙◌, rules}
use Rattle.ioam_dex.specs.Record.{record_of}
use Rattle.ioam_c.specs.Record.{record_in}
use Rattle.ioam_c.specs.declared.record.IoamRecord.{IoamRecord}
use Rattle.ioam_c.proofs.ElementLaws.{element_ends}
use Rattle.ioam_c.proofs.record.ioam_record_read.Goals as goal

pub returns-in-Some : goal.returns-in-Some
returns-in-Some c =
    let octets = c.args.octets.now in
    let x = record_of c.in-Some.export in
    let value : c.record_in.result ≡ record_in (length octets) x = search rules in
    let lies = ap (λ (e : IoamRecord). drop e.element octets) value ∙ element_ends octets x c.in-Some.ensures.reads in
    inl (x, c.in-Some.ensures.reads, (refl, (value, lies)))
