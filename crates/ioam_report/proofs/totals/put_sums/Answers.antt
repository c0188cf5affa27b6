use Rattle.ioam_report.proofs.SumsLaws.{sums_text-of}
use Rattle.ioam_report.proofs.totals.put_sums.Goals as goal

pub returns-in_err-put_packets_line-clause-arrivals : goal.returns-in_err-put_packets_line-clause-arrivals
returns-in_err-put_packets_line-clause-arrivals c = λ arrivals stand. sums_text-of c.args.domain.now c.args.sums.now arrivals stand

pub returns-in_err-settle-clause-arrivals : goal.returns-in_err-settle-clause-arrivals
returns-in_err-settle-clause-arrivals c = λ arrivals stand. sums_text-of c.args.domain.now c.args.sums.now arrivals stand

pub returns-clause-arrivals : goal.returns-clause-arrivals
returns-clause-arrivals c = λ arrivals stand. sums_text-of c.args.domain.now c.args.sums.now arrivals stand
