use Rattle.std.proofs.Common.{sym, ◌∙◌}
use Rattle.ioam_report_groups.proofs.groups.put_lines.Goals as goal

pub returns-clause-groups : goal.returns-clause-groups
returns-clause-groups c = λ xs s. sym c.groups.ensures.groups ∙ c.groups.ensures.exact xs s
