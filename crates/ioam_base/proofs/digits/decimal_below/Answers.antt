use Rattle.std.proofs.Common.{None, arith}
use Rattle.std.proofs.lemmas.Grind.{common_steps}
use Rattle.ioam_base.proofs.DecimalLaws.{decimal_read}
use Rattle.ioam_base.proofs.digits.decimal_below.Goals as goal

pub returns-then-limit-eq0-clause-read : goal.returns-then-limit-eq0-clause-read
returns-then-limit-eq0-clause-read c = decimal_read c.args.limit c.args.text.now None (omega arith) (grind (arith, common_steps))

pub returns-clause-read : goal.returns-clause-read
returns-clause-read c = decimal_read c.args.limit c.args.text.now c.digits_below.result (omega arith) (grind (arith, common_steps))
