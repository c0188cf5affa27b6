use Rattle.std.proofs.Common.{◌≡◌, ◌*◌, ◌-◌, ◌/◌, ◌≤◌, ℕ, List, length, length-drop, drop, sym, ap, ◌∙◌, arith, rules}
use Rattle.ioam_data.specs.Kind.{words}
use Rattle.ioam_report_lines.proofs.CountLaws.{length-equal}
use Rattle.ioam_report_lines.proofs.lines.count_early.Goals as goal

pub returns : goal.returns
returns c =
    let trace = c.args.trace.now in
    let used : List ℕ = drop (4 * trace.head.remaining) trace.area.now in
    let long : length used ≡ length trace.area.now - 4 * trace.head.remaining = length-drop (4 * trace.head.remaining) trace.area.now in
    let room : words trace.head.kind ≤ trace.head.node_len = omega (arith, c.requires.early.exact) in
    let counted = length-equal trace.head.kind trace.head.node_len used c.requires.early.no_snapshot room c.requires.filled in
    let used_is : c.saturating_sub-used.result ≡ length trace.area.now - 4 * trace.head.remaining = search rules in
    let size_is : c.from.result ≡ trace.head.node_len = search rules in
    ap (λ n. n / (4 * c.from.result)) used_is
    ∙ ap (λ n. (length trace.area.now - 4 * trace.head.remaining) / (4 * n)) size_is
    ∙ ap (λ n. n / (4 * trace.head.node_len)) (sym long)
    ∙ counted
