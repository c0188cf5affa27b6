use Rattle.std.proofs.Common.{◌≡◌, ◌*◌, ◌-◌, ◌%◌, ◌<◌, ◌≤◌, length, Some, subst, rules, ℕ}
use Rattle.ioam_data.specs.Kind.{words}
use Rattle.ioam_trace.specs.Area.{EndsWith}
use Rattle.ioam_trace.proofs.EqualLaws.{last-equal}
use Rattle.ioam_trace.proofs.elements.last_of_equal.Goals as goal

pub returns : goal.returns
returns c =
    let kind = c.args.kind in
    let node_len = c.args.node_len in
    let used = c.args.used.now in
    let room : words kind ≤ node_len = search rules in
    let filled : 0 < 4 * node_len = search rules in
    let some : 4 * node_len ≤ length used = search rules in
    let same : node_len ≡ c.from-size.result = search rules in
    let P : ℕ → Type 0 = λ n. EndsWith kind node_len used (Some (length used - length used % (4 * n) - 4 * n, 4 * n)) in
    subst P same (last-equal kind node_len used c.requires room filled some)
