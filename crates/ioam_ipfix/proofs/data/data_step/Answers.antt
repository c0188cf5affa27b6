use Rattle.std.proofs.Common.{drop, sym, subst, arith}
use Rattle.ioam_dex.specs.Record.{IsRecord}
use Rattle.ioam_ipfix.specs.Data.{data_at}
use Rattle.ioam_ipfix.specs.Sets.{RecordPasses}
use Rattle.ioam_ipfix.proofs.DataLaws.{data_size-least, record-there, record-at}
use Rattle.ioam_ipfix.proofs.data.data_step.Goals as goal

pub returns-in-Some : goal.returns-in-Some
returns-in-Some c =
    let id = c.args.id in
    let octets = c.args.octets.now in
    let whole = c.in-Some.ensures in
    let least = data_size-least id octets in
    let pass = record-there id octets (λ i. omega (arith, c.type_inv.octets i)) c.requires whole.1 whole.2 in
    (whole.0, whole.1, whole.2, omega (arith, least, whole.0), subst (λ n. RecordPasses id octets (data_at id octets) (drop n octets)) (sym whole.0) pass)

pub returns-in-None : goal.returns-in-None
returns-in-None c =
    let id = c.args.id in
    let octets = c.args.octets.now in (
      (λ padding. let few = padding.0 in let many = c.if-octets-lt8.false in omega (arith, few, many)),
      λ x b pass.
          let there = record-at id octets (λ i. omega (arith, c.type_inv.octets i)) x b pass in
          c.in-None.ensures there.0 (subst (λ y. IsRecord y) there.1 pass.1.sayable),
    )
