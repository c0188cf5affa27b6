use Rattle.std.proofs.Common.{◌≡◌, ◌++◌, rules}
use Rattle.std.specs.Prelude.{is_ok, if◌then◌else◌}
use Rattle.std.proofs.lemmas.Grind.{common_steps}
use Rattle.ioam_edge.specs.Edge.{edge_octets}
use Rattle.ioam_edge.proofs.EdgeLaws.{appended_size}
use Rattle.ioam_edge.proofs.putting.put.Goals as goal

pub returns-clause-size : goal.returns-clause-size
returns-clause-size c =
    let edge = c.args.edge.now in
    let old = c.args.out.now.items in
    let made : c.append.new.out.items ≡ (if is_ok c.append.result then old ++ edge_octets edge else old) = search (rules, common_steps) in
    appended_size c.append.result old c.append.new.out.items edge c.requires.fields made
