use Rattle.std.proofs.Common.{◌+◌, ◌++◌, ap, take, drop, ◌∙◌}
use Rattle.ioam_base.specs.Fed.{Kept}
use Rattle.ioam_base.proofs.FedLaws.{moved_on}
use Rattle.ioam_base.proofs.fed.Fed.take.Goals as goal

pub returns : goal.returns
returns c =
    let n = c.args.count in
    let on : Kept → Kept = λ k. record { given = k.given ++ take n k.pending; start = k.start + n; pending = drop n k.pending } in
    moved_on c.self.inside.buffer.items c.self.inside.taken c.self.inside.start n ∙ ap on c.self.view_is
