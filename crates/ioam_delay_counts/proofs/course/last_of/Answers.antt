use Rattle.std.proofs.Common.{◌≡◌, ℕ, length, ap, ◌∙◌}
use Rattle.std.specs.Prelude.{◌==◌}
use Rattle.ioam_delay_counts.proofs.CourseLaws.{last_is}
use Rattle.ioam_delay_counts.proofs.course.last_of.Goals as goal

pub returns : goal.returns
returns c = last_is c.args.sights.now _ (λ (none : length c.args.sights.now ≡ 0). cc (c.if-is_empty.ensures ∙ ap (λ (n : ℕ). n == 0) none))
