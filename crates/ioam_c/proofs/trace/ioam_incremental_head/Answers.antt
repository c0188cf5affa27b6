use Rattle.std.proofs.Common.{inl, refl}
use Rattle.ioam_trace.specs.Read.{incremental_elements}
use Rattle.ioam_c.proofs.trace.ioam_incremental_head.Goals as goal

pub returns-in-Ok : goal.returns-in-Ok
returns-in-Ok c = inl (
  c.in-Ok.trace.head,
  incremental_elements c.in-Ok.trace,
  c.in-Ok.ensures.decodes.0,
  (refl, c.head_of.ensures),
)
