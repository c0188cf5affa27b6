use Rattle.std.proofs.Common.{ℕ, List, MatchResult, subst}
use Rattle.ioam_desk.specs.Desk.{holds}
use Rattle.ioam_desk.specs.Whole.{ReadsWhole, FailsWhole}
use Rattle.ioam_run_files.proofs.SettingLaws.{whole_keeps}
use Rattle.ioam_run_files.proofs.setting.read_file.Goals as goal

pub returns-clause-inputs : goal.returns-clause-inputs
returns-clause-inputs g c =
    let P : List ℕ → Type 0 = λ name. MatchResult c.read_whole.result
    (λ octets. ReadsWhole g.D.Desk.tells (g.D.Desk.reading c.args.desk.now) (g.D.Desk.reading c.read_whole.new.desk) (holds (g.D.Desk.writing c.args.desk.now) name) name c.args.limit octets.items)
    (FailsWhole g.D.Desk.tells (g.D.Desk.reading c.args.desk.now) (g.D.Desk.reading c.read_whole.new.desk) (holds (g.D.Desk.writing c.args.desk.now) name) name c.args.limit) in
    subst P c.text.ensures c.read_whole.ensures.inputs

pub returns-clause-kept : goal.returns-clause-kept
returns-clause-kept g c = whole_keeps g.D.Desk.tells (g.D.Desk.reading c.args.desk.now) (g.D.Desk.reading c.read_whole.new.desk) _ _ _ _ c.read_whole.result c.read_whole.ensures.inputs
