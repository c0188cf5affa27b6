use Rattle.std.proofs.Common.{rules, arith}
use Rattle.ioam_clock.proofs.NumberLaws.{number_read}
use Rattle.ioam_clock.proofs.numbers.number.Goals as goal

pub returns-clause-written : goal.returns-clause-written
returns-clause-written c = number_read c.args.limit c.args.word.now c.ok_or.result (omega arith) (search rules)
