use Rattle.std.proofs.Common.{◌≡◌, ◌∙◌, subst}
use Rattle.ioam_desk_outputs.specs.Names.{AreApart}
use Rattle.ioam_run_audit.specs.Promise.{audit_files}
use Rattle.ioam_run_audit.proofs.audit.run_at.Goals as goal

pub run_files-requires : goal.run_files-requires
run_files-requires g c =
    let lent : c.deref.result.now ≡ audit_files c.args.files.now = c.deref.ensures.value ∙ c.in-Ok.ensures in
    record { names = c.deref-in-None.ensures.value ∙ c.in-Ok.ensures; apart = subst AreApart lent c.in-None.ensures }
