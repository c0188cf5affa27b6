use Rattle.ioam_ng.proofs.StandsLaws.{Skips-push}
use Rattle.ioam_ng.proofs.reader.NgReader.advance.Goals as goal

pub passing-preserved : goal.passing-preserved
passing-preserved c =
    let e = c.in-Passed.ensures in
    Skips-push c.args.self.now c.passing.self c.step.new.self c.passing.invariant e.0 e.1 e.2 e.4
