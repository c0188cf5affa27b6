use Rattle.ioam_desk_outputs.specs.Names.{name_at}
use Rattle.ioam_run_part.proofs.part.run_names.Given as goal

-- the names of the files
abbrev pub ghost-run_files : goal.ghost-run_files
ghost-run_files g a = record { exports = name_at a.ins.now 0; part = name_at a.outs.now 0 }
