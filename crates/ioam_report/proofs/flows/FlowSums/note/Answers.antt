use Rattle.std.proofs.Common.{◌≡◌, ◌<◌, List, Option, length, slice_get, refl, sym, ap, subst, arith}
use Rattle.std.specs.Prelude.{IfSome, IsSomeAnd}
use Rattle.std.proofs.lemmas.Option.{slice_get_read}
use Rattle.ioam_topo.specs.declared.ids.FlowId.{FlowId}
use Rattle.ioam_tunnel.specs.declared.numbers.Numbers.{Numbers}
use Rattle.ioam_report.specs.Flows.{IsSumOf}
use Rattle.ioam_report.specs.declared.flows.FlowSum.{FlowSum}
use Rattle.ioam_report.proofs.FlowsLaws.{sums_more, sums_same}
use Rattle.ioam_report.proofs.flows.FlowSums.note.Goals as goal

pub returns-in-Some-clause-stands : goal.returns-in-Some-clause-stands
returns-in-Some-clause-stands c = λ flow arrivals few counts.
    let items : List FlowSum = c.self.inside.held.items in
    let same : items ≡ c.args.self.now = c.self.view_is in
    let P : List FlowSum → Type 0 = λ sums. IsSomeAnd (slice_get sums flow) (IsSumOf flow arrivals) in
    let Q : Option (FlowId × Numbers) → Type 0 = λ carried. IfSome carried (λ one. one.0.0 < length c.args.self.now) in
    let can : c.in-Some.flow.0 < length c.args.self.now = subst Q c.in-Some.is c.requires in
    let below : c.in-Some.flow.0 < length items = omega (arith, can, ap length same) in
    let here = slice_get_read items (length items) c.in-Some.flow.0 c.index_mut.result.now refl below c.index_mut.ensures.value in
    sums_more items c.index_mut.result.now c.note.new.self c.in-Some.flow c.in-Some.numbers flow arrivals c.args.itinerary.now c.in-Some.is
    here (c.note.ensures c.in-Some.flow arrivals c.args.itinerary.now few c.in-Some.is refl) (subst P (sym same) counts)

pub returns-in-None-clause-stands : goal.returns-in-None-clause-stands
returns-in-None-clause-stands c = λ flow arrivals few counts.
    sums_same c.args.self.now flow arrivals c.args.itinerary.now c.in-None.is counts
