use Rattle.std.proofs.Common.{◌∙◌}
use Rattle.ioam_delay_counts.proofs.CourseLaws.{whole_is}
use Rattle.ioam_delay_counts.proofs.course.whole_delay.Goals as goal

pub returns : goal.returns
returns c = c.between.ensures ∙ whole_is c.args.sights.now _ c.if-sights-lt2.false
