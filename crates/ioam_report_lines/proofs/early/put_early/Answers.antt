use Rattle.std.proofs.Common.{◌≡◌, ◌++◌, ap, ◌∙◌, rules}
use Rattle.ioam_data.specs.Fields.{past, when_has, hop_node_at, faces_at, number_at}
use Rattle.ioam_report_lines.proofs.EarlyLaws.{same-words}
use Rattle.ioam_report_lines.proofs.early.put_early.Goals as goal

pub returns-clause-value : goal.returns-clause-value
returns-clause-value g c =
    let kind = c.args.kind in
    let octets = c.args.element.now in
    let hop_node : c.hop_node-hop_node.result ≡ when_has kind 0 (hop_node_at octets) = c.hop_node-hop_node.ensures.value in
    let faces : c.faces-faces.result ≡ when_has kind 1 (faces_at (past kind 0 1 octets)) = search rules in
    let seconds : c.number-seconds.result ≡ when_has kind 2 (number_at (past kind 1 1 (past kind 0 1 octets))) = search rules in
    let fraction : c.number-fraction.result ≡ when_has kind 3 (number_at (past kind 2 1 (past kind 1 1 (past kind 0 1 octets)))) = search rules in
    c.put_early_fields.ensures.value ∙ ap (λ xs. xs ++ c.args.line.now) (same-words hop_node faces seconds fraction)
