use Rattle.std.proofs.Common.{◌+◌, ◌++◌, ap, ◌∙◌, arith, take}
use Rattle.ioam_base.specs.Words.{two_octets}
use Rattle.ioam_base.proofs.WrittenLaws.{written-ahead}
use Rattle.ioam_base.proofs.buffer.Buffer.two.Goals as goal

pub returns-clause-value : goal.returns-clause-value
returns-clause-value c = ap (take (c.self.inside.len + 2)) c.put_u16_at.ensures ∙ written-ahead c.self.inside.octets (two_octets c.args.number) c.self.inside.len (omega arith)
    ∙ ap (λ front. front ++ two_octets c.args.number) c.self.view_is
