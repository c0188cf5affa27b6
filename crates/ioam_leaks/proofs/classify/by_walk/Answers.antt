use Rattle.std.proofs.Common.{subst, sym, ◌∙◌}
use Rattle.ioam_ip.specs.Walks.{Tells}
use Rattle.ioam_ip.specs.declared.answer.Walk.{Walk}
use Rattle.ioam_leaks.proofs.FindingLaws.{carries_from}
use Rattle.ioam_leaks.proofs.classify.by_walk.Goals as goal

pub returns-in-Whole-true-default-default-default : goal.returns-in-Whole-true-default-default-default
returns-in-Whole-true-default-default-default c =
    let told = subst (λ (walk : Walk). Tells c.args.packet.now walk) c.in-Whole-true-default-default-default.is c.requires.tells in
    carries_from c.args.packet.now (told.carries.0 (sym c.in-Whole-true-default-default-default.ioam-is ∙ c.in-Whole-true-default-default-default.ioam-test))
