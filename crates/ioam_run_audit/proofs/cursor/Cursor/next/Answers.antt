use Rattle.std.proofs.Common.{refl}
use Rattle.ioam_run_audit.specs.declared.cursor.Next.TheVariants as next
use Rattle.ioam_run_audit.proofs.CursorLaws.{next_of, one_end}
use Rattle.ioam_run_audit.proofs.cursor.Cursor.next.Goals as goal

pub returns-in-Over-clause-next : goal.returns-in-Over-clause-next
returns-in-Over-clause-next c = next_of c.args.self.now
    (record { reader = c.step.new.reader; taken = c.step.new.taken; packet = c.step.new.held; end = c.in-Over.end; ended = c.args.self.now.ended })
    (next.Over c.in-Over.end) (rw c.in-Over.is at c.in-Ok.ensures.stepped) refl (λ how is. one_end c.in-Over.end how is)
    (λ other. absurd (other c.in-Over.end refl))
