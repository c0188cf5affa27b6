use Rattle.std.proofs.Common.{inl, refl}
use Rattle.ioam_trace.specs.Read.{elements_in}
use Rattle.ioam_c.proofs.TraceLaws.{by_remaining}
use Rattle.ioam_c.proofs.trace.ioam_trace_head.Goals as goal

pub returns-in-Ok : goal.returns-in-Ok
returns-in-Ok c = inl (
  c.in-Ok.trace.head,
  elements_in c.in-Ok.trace,
  by_remaining c.args.octets.now c.in-Ok.trace.head (elements_in c.in-Ok.trace) c.in-Ok.ensures.reads.0,
  (refl, c.head_of.ensures),
)
