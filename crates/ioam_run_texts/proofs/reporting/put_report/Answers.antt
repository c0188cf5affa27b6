use Rattle.std.proofs.Common.{refl}
use Rattle.ioam_run_texts.specs.Standing.{job_lines}
use Rattle.ioam_run_texts.proofs.AddsLaws.{report-told}
use Rattle.ioam_run_texts.proofs.reporting.put_report.Goals as goal

pub returns : goal.returns
returns c = report-told c.args.domain.now c.args.outputs.now _ _ (job_lines c.args.domain.now c.args.number c.args.job.now) c.place_of_report-at.result (c.place_of_report-at.ensures.place c.args.domain.now c.requires.width) c.requires.width refl
    c.in_ok-put_lines.ensures
