use Rattle.std.proofs.Common.{subst}
use Rattle.ioam_run_files.specs.Setting.{IsDomainFirst}
use Rattle.ioam_run_domain.specs.Promise.{RunNames}
use Rattle.ioam_run_domain.proofs.domain_run.read_names.Goals as goal

pub returns-clause-in_turn : goal.returns-clause-in_turn
returns-clause-in_turn g c =
    let P : RunNames → Type 0 = λ f. IsDomainFirst (g.D.Desk.writing c.args.desk.now) f.domain f.readings g.D.Desk.tells (g.D.Desk.reading c.args.desk.now)
    (g.D.Desk.reading c.read_setting.new.desk) in
    subst P c.files.view_is c.read_setting.ensures.in_turn
