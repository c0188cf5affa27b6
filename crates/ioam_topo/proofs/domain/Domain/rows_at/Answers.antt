use Rattle.std.proofs.Common.{◌≡◌, ◌≤◌, length, ap, sym, ◌∙◌, arith}
use Rattle.std.proofs.lemmas.Bool.Decides.{nat_tests}
use Rattle.ioam_topo.specs.Domain.{nodes, node_data}
use Rattle.ioam_topo.proofs.IndexLaws.{no_rows}
use Rattle.ioam_topo.proofs.domain.Domain.rows_at.Goals as goal

pub returns-in-None : goal.returns-in-None
returns-in-None c =
    let size : length c.deref.result.now ≡ length (nodes c.args.self.now) = ap length c.deref.ensures.value ∙ c.args.self.now.indexed.all in
    let none = c.in-None.ensures.lookup in
    let past : length (nodes c.args.self.now) ≤ c.args.node.0 = grind (arith, nat_tests, size, none) in
    sym (no_rows (length (nodes c.args.self.now)) c.args.node.0 (node_data c.args.self.now) c.args.self.now.sound_data.placed past)
