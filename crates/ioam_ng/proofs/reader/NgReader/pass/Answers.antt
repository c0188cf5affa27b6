use Rattle.ioam_ng.proofs.StandsLaws.{Stands-skips, Skips-kept, skips_fault}
use Rattle.ioam_ng.proofs.reader.NgReader.pass.Goals as goal

pub returns-clause-stands : goal.returns-clause-stands
returns-clause-stands c octets taken stands = Stands-skips c.args.self.now c.advance.new.self c.advance.ensures.skips octets taken stands

pub returns-clause-kept : goal.returns-clause-kept
returns-clause-kept c = Skips-kept c.args.self.now c.advance.new.self c.advance.ensures.skips

pub returns-clause-faulty : goal.returns-clause-faulty
returns-clause-faulty c = skips_fault c.args.self.now c.advance.new.self c.advance.ensures.skips

pub returns-clause-held : goal.returns-clause-held
returns-clause-held c = c.advance.ensures.skips.held
