use Rattle.ioam_report_groups.proofs.GroupsLaws.{records_text-is}
use Rattle.ioam_report_groups.proofs.groups.put_groups.Goals as goal

pub returns-clause-records : goal.returns-clause-records
returns-clause-records c = λ xs s few. records_text-is c.args.collector.now xs (c.put_lines.ensures.groups xs s) s few

pub returns-in_err-put_lines-clause-records : goal.returns-in_err-put_lines-clause-records
returns-in_err-put_lines-clause-records c = λ xs s few. records_text-is c.args.collector.now xs (c.put_lines.ensures.groups xs s) s few
