use Rattle.std.proofs.Common.{◌-◌, ◌<◌, ◌≤◌, length, take, drop, sym, ◌∙◌, subst, arith}
use Rattle.std.proofs.lemmas.Bool.{false≢true}
use Rattle.ioam_base.specs.Octets.{u24_at}
use Rattle.ioam_data.specs.Elements.{IsFilled}
use Rattle.ioam_data.specs.Written.{most_exported}
use Rattle.ioam_ipfix.proofs.DataLaws.{element-slice, sayable-at, sayable-agrees}
use Rattle.ioam_ipfix.proofs.data.data_whole.Goals as goal
use Rattle.ioam_ipfix.proofs.data.data_whole.Goals.{else-agrees-via-then-agrees+then-element-le-MOST_EXPORTED+else-is_filled, else-agrees-via-then-agrees+else-element-le-MOST_EXPORTED, else-agrees-via-else-agrees}

pub returns-then-is_filled : goal.returns-then-is_filled
returns-then-is_filled c =
    let octets = c.args.octets.now in
    let place = c.in-Some.ensures in
    let element = take (c.in-Some.to - c.in-Some.from) (drop c.in-Some.from octets) in
    let same = element-slice c.args.id octets c.in-Some.from c.in-Some.to place in
    let agrees = c.agrees.ensures.0 c.if-agrees.true in
    let kind = subst (λ k. IsFilled k element) c.at.ensures (c.is_filled.ensures.0 c.if-is_filled.true) in
    let filled = subst (λ e. IsFilled (u24_at octets 4) e) same kind in
    let short = subst (λ e. length e ≤ most_exported) same c.if-element-le-MOST_EXPORTED.true in
    (place.2, place.0, sayable-at c.args.id octets (λ i. omega (arith, c.type_inv.octets i)) agrees.0 agrees.1 filled short)

pub returns-else-agrees : goal.returns-else-agrees
returns-else-agrees c = λ room is.
    let octets = c.args.octets.now in
    let element = take (c.in-Some.to - c.in-Some.from) (drop c.in-Some.from octets) in
    let same = element-slice c.args.id octets c.in-Some.from c.in-Some.to c.in-Some.ensures in
    elim c.else-agrees.branch [
      | else-agrees-via-then-agrees+then-element-le-MOST_EXPORTED+else-is_filled w ↦
          let filled = subst (λ e. IsFilled (u24_at octets 4) e) (sym same) is.parts.filled in
          let kind = subst (λ k. IsFilled k element) (sym w.at.ensures) filled in
          absurd (false≢true (sym w.if-is_filled.false ∙ w.is_filled.ensures.1 kind))
      | else-agrees-via-then-agrees+else-element-le-MOST_EXPORTED w ↦
          let short : length element ≤ most_exported = subst (λ e. length e ≤ most_exported) (sym same) is.parts.short in
          let long : most_exported < length element = w.if-element-le-MOST_EXPORTED.false in
          absurd (omega (arith, short, long))
      | else-agrees-via-else-agrees w ↦
          absurd (false≢true (sym w.if-agrees.false ∙ c.agrees.ensures.1 (sayable-agrees c.args.id octets (λ i. omega (arith, c.type_inv.octets i)) is)))
    ]
