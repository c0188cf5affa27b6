use Rattle.std.proofs.Common.{rules}
use Rattle.std.proofs.lemmas.List.{drop_all}
use Rattle.ioam_line.proofs.buffer.LineBuffer.clear.Goals as goal

pub returns : goal.returns
returns g c = drop_all _ c.self.inside.octets (search rules)
