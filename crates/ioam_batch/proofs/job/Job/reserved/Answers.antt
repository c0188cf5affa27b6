use Rattle.std.proofs.Common.{◌≡◌, ◌+◌, ◌*◌, ◌∙◌, arith}
use Rattle.ioam_batch.specs.Jobs.{reserved_of}
use Rattle.ioam_batch.proofs.ReservedLaws.{reserved-fresh}
use Rattle.ioam_batch.proofs.job.Job.reserved.Goals as goal

pub returns-clause-fresh : goal.returns-clause-fresh
returns-clause-fresh c = λ domain fresh.
    let is : c.len.result + c.kept.result + 274 * c.given.result ≡ reserved_of c.args.self.now =
    omega (arith, c.len.ensures, c.kept.ensures.value, c.given.ensures.value) in
    is ∙ reserved-fresh domain c.args.self.now fresh
