use Rattle.std.proofs.Common.{◌-◌, List, ℕ, cond, length, take, drop, arith, ap, ◌∙◌}
use Rattle.ioam_trace.specs.Filled.{filled}
use Rattle.ioam_node_visit.specs.Seeing.{view_of}
use Rattle.ioam_node_visit.specs.Step.{knows}
use Rattle.ioam_node_visit.proofs.StepLaws.{trace-put}
use Rattle.ioam_node_visit.proofs.visit.NodeVisit.fill_trace.Goals as goal

pub returns-clause-octets : goal.returns-clause-octets
returns-clause-octets c =
    let v = c.args.self.now in
    let body = c.args.body.now in
    let rest : List ℕ = take (length body - 2) (drop 2 body) in
    trace-put v.domain.now v.readings.now v.place v.time v.hops body c.fill_known-what.new.octets (omega (arith, c.if-body.false))
    (c.fill_known-what.ensures.octets
    ∙ ap (λ n. cond (knows v.domain.now v.place.node.0 n) (filled rest (view_of v.domain.now v.readings.now v.place v.time v.hops n)) rest) c.u16_at.ensures)
