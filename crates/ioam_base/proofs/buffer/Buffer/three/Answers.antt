use Rattle.std.proofs.Common.{◌+◌, ◌++◌, ap, ◌∙◌, arith, take}
use Rattle.ioam_base.specs.Words.{three_octets}
use Rattle.ioam_base.proofs.WrittenLaws.{written-ahead}
use Rattle.ioam_base.proofs.buffer.Buffer.three.Goals as goal

pub returns-clause-value : goal.returns-clause-value
returns-clause-value c = ap (take (c.self.inside.len + 3)) c.put_u24_at.ensures ∙ written-ahead c.self.inside.octets (three_octets c.args.number) c.self.inside.len (omega arith)
    ∙ ap (λ front. front ++ three_octets c.args.number) c.self.view_is
