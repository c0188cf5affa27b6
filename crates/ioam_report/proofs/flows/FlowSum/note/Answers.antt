use Rattle.std.proofs.Common.{rules}
use Rattle.ioam_report.proofs.FlowsLaws.{sum_more, noted_then, noted_else}
use Rattle.ioam_report.proofs.flows.FlowSum.note.Goals as goal

pub returns-then-exited : goal.returns-then-exited
returns-then-exited c = λ flow arrivals itinerary few some is.
    sum_more flow c.args.numbers.now c.args.exited itinerary some is c.args.self.now _ arrivals few (search rules) (search rules) (search rules)
    (λ noted stands. noted_then _ noted c.args.numbers.now.number c.args.exited c.if-exited.true (c.note.ensures.stands noted stands))

pub returns-else-exited : goal.returns-else-exited
returns-else-exited c = λ flow arrivals itinerary few some is.
    sum_more flow c.args.numbers.now c.args.exited itinerary some is c.args.self.now _ arrivals few (search rules) (search rules) (search rules)
    (λ noted stands. noted_else _ noted c.args.numbers.now.number c.args.exited c.if-exited.false stands)
