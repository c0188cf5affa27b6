use Rattle.ioam_run_texts.specs.Standing.{job_texts}
use Rattle.ioam_run_texts.proofs.TellingLaws.{all-adds, are-texts}
use Rattle.ioam_run_texts.proofs.telling.put_job.Goals as goal

pub returns-clause-exact : goal.returns-clause-exact
returns-clause-exact c =
    let left = c.in_ok-put_left.ensures in (
      left.0,
      left.3,
      all-adds c.args.domain.now c.args.number c.args.job.now left.0 c.args.outputs.now c.put_left.new.outputs c.put_taps.new.outputs
          c.put_report.new.outputs c.put_exports.new.outputs
          left.1 c.in_ok-put_taps.ensures c.in_ok-put_report.ensures c.in_ok-put_exports.ensures,
    )

pub returns-clause-texts : goal.returns-clause-texts
returns-clause-texts c =
    let left = c.in_ok-put_left.ensures in (
      job_texts c.args.domain.now c.args.number c.args.job.now left.0,
      all-adds c.args.domain.now c.args.number c.args.job.now left.0 c.args.outputs.now c.put_left.new.outputs c.put_taps.new.outputs
          c.put_report.new.outputs c.put_exports.new.outputs
          left.1 c.in_ok-put_taps.ensures c.in_ok-put_report.ensures c.in_ok-put_exports.ensures,
      are-texts c.args.domain.now c.args.number c.args.job.now left.0 left.2,
    )
