use Rattle.ioam_run_part.proofs.KeptLaws.{lines_put}
use Rattle.ioam_run_part.proofs.kept.LinesSource.put.Goals as goal

pub returns : goal.returns
returns c = lines_put c.args.self.now.collector c.args.out.now.items c.put_kept.new.out.items c.in_ok-put_kept.ensures.text c.put_kept.ensures.lines
