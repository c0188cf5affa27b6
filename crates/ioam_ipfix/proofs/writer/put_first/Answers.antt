use Rattle.std.proofs.Common.{◌≡◌, ◌++◌, length, ap, ◌∙◌, arith}
use Rattle.ioam_base.specs.Octets.{u16_at}
use Rattle.ioam_dex.specs.Record.{record_octets}
use Rattle.ioam_ipfix.specs.Data.{moved}
use Rattle.ioam_ipfix.proofs.DataLaws.{moved-is}
use Rattle.ioam_ipfix.proofs.RunLaws.{first-is, first-size, first-fits, front-small}
use Rattle.ioam_ipfix.proofs.writer.put_first.Goals as goal

pub front_in-requires : goal.front_in-requires
front_in-requires c =
    let r = c.requires.begins in
    (r.0, first-is c.args.rest.now r.0 r.1 r.2 r.3 c.from-size.result (c.from-size.ensures ∙ c.u16_at.ensures))

pub put_moved-requires-clause-inside : goal.put_moved-requires-clause-inside
put_moved-requires-clause-inside c =
    let r = c.requires.begins in
    let whole = first-is c.args.rest.now r.0 r.1 r.2 r.3 c.from-size.result (c.from-size.ensures ∙ c.u16_at.ensures) in
    let front = c.front_in.ensures r.0 whole in
    let size = ap length whole.is in
    (omega (arith, front, size, front-small r.0), omega (arith, front))

pub put_moved-requires-clause-short : goal.put_moved-requires-clause-short
put_moved-requires-clause-short c =
    let r = c.requires.begins in
    let whole = first-is c.args.rest.now r.0 r.1 r.2 r.3 c.from-size.result (c.from-size.ensures ∙ c.u16_at.ensures) in
    let front = c.front_in.ensures r.0 whole in
    omega (arith, front, r.2.parts.short)

pub returns-clause-taken : goal.returns-clause-taken
returns-clause-taken c = λ x behind is_x is.
    let rest = c.args.rest.now in
    let at : c.from-size.result ≡ u16_at rest 2 = c.from-size.ensures ∙ c.u16_at.ensures in
    let size : c.from-size.result ≡ length (record_octets x) = at ∙ first-size rest x behind is_x is in
    let whole = first-is rest x behind is_x is c.from-size.result at in
    let front = c.front_in.ensures x whole in
    let many = ap length whole.is in
    let old = c.args.out.now.items in (
      size,
      c.put_moved.ensures.items ∙ ap (λ o. old ++ moved c.front_in.result o) whole.is
          ∙ ap (λ o. old ++ o) (moved-is x c.front_in.result (omega (arith, front, many))),
    )

pub returns-clause-size : goal.returns-clause-size
returns-clause-size c =
    let rest = c.args.rest.now in
    let r = c.requires.begins in
    let size : c.from-size.result ≡ length (record_octets r.0) = c.from-size.ensures ∙ c.u16_at.ensures ∙ first-size rest r.0 r.1 r.2 r.3 in
    let fits = first-fits rest r.0 r.1 r.2 r.3 in
    (omega (arith, size), omega (arith, size, fits))
