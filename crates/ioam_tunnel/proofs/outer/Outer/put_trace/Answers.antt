use Rattle.std.proofs.Common.{◌*◌, arith}
use Rattle.ioam_tunnel.proofs.OuterLaws.{trace-put}
use Rattle.ioam_tunnel.proofs.outer.Outer.put_trace.Goals as goal

pub returns-clause-value : goal.returns-clause-value
returns-clause-value c =
    let trace = c.args.trace in
    trace-put c.args.self.now c.two.new.self c.two-2.new.self c.put_kind.new.self c.skip.new.self trace.namespace.0 trace.kind trace.capacity
    c.new-lengths.result.0 (4 * c.from.result)
    (omega (arith, c.new-lengths.ensures, c.words.ensures.value)) (omega (arith, c.from.ensures))
    c.two.ensures.value c.two-2.ensures.value c.put_kind.ensures.word c.skip.ensures.value
