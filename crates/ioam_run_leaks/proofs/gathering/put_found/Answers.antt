use Rattle.std.proofs.Common.{ap, ◌∙◌}
use Rattle.ioam_base.proofs.ResultLaws.{OnOk-map}
use Rattle.ioam_leaks.specs.declared.finding.Finding.{Finding}
use Rattle.ioam_leaks.specs.declared.finding.Finding.TheVariants.{Clean, Leaks}
use Rattle.ioam_run_leaks.specs.declared.observe.Observed.TheVariants.{Seen, Missed}
use Rattle.ioam_run_leaks.proofs.GatheringLaws.{Adds-nothing, found_so}
use Rattle.ioam_run_leaks.proofs.gathering.put_found.Goals as goal

pub returns-in-Clean : goal.returns-in-Clean
returns-in-Clean c = found_so _ _ _ _ c.args.seen.now (Seen c.in-Seen.packet Clean)
    (c.in-Seen.is ∙ ap (λ (finding : Finding). Seen c.in-Seen.packet finding) c.in-Clean.is) (Adds-nothing c.args.outputs.now c.requires.width)

pub returns-in-Leaks : goal.returns-in-Leaks
returns-in-Leaks c = OnOk-map c.put_leaking.result _ _ c.put_leaking.ensures
    (λ adds. found_so _ _ _ _ c.args.seen.now (Seen c.in-Seen.packet (Leaks c.in-Leaks.leak))
    (c.in-Seen.is ∙ ap (λ (finding : Finding). Seen c.in-Seen.packet finding) c.in-Leaks.is) adds)

pub returns-in-Missed : goal.returns-in-Missed
returns-in-Missed c = found_so _ _ _ _ c.args.seen.now (Missed c.in-Missed.field-0) c.in-Missed.is (Adds-nothing c.args.outputs.now c.requires.width)
