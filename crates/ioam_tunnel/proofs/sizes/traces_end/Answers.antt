use Rattle.std.proofs.Common.{arith}
use Rattle.ioam_tunnel.proofs.LayLaws.{end-more, end-all}
use Rattle.ioam_tunnel.proofs.sizes.traces_end.Goals as goal

pub loop-trace-preserved : goal.loop-trace-preserved
loop-trace-preserved c = record {
  ends = end-more c.args.traces.now c.loop-trace.trace-index c.trace-item.result c.loop-trace-test.true c.trace-item.is
      c.loop-trace.end c.trace_end-end.result _ c.trace_end-end.ensures.value c.loop-trace.invariant.ends;
  small = omega (arith, c.loop-trace.invariant.small, c.trace_end-end.ensures.small);
}

pub returns-clause-value : goal.returns-clause-value
returns-clause-value c = end-all c.args.traces.now c.loop-trace.trace-index c.loop-trace.end _ c.loop-trace-test.false c.loop-trace.invariant.ends
