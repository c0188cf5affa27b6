use Rattle.std.proofs.Common.{◌+◌, ◌++◌, ap, ◌∙◌, arith, take}
use Rattle.ioam_base.specs.Words.{eight_octets}
use Rattle.ioam_base.proofs.WrittenLaws.{written-ahead}
use Rattle.ioam_base.proofs.buffer.Buffer.eight.Goals as goal

pub returns-clause-value : goal.returns-clause-value
returns-clause-value c = ap (take (c.self.inside.len + 8)) c.put_u64_at.ensures ∙ written-ahead c.self.inside.octets (eight_octets c.args.number) c.self.inside.len (omega arith)
    ∙ ap (λ front. front ++ eight_octets c.args.number) c.self.view_is
