use Rattle.std.proofs.Common.{take, ap, ◌∙◌, arith}
use Rattle.ioam_ipfix.specs.Reading.{Reading}
use Rattle.ioam_ipfix.proofs.ViewLaws.{owed-some, owed-none}
use Rattle.ioam_ipfix.proofs.reader.IpfixReader.owed.Goals as goal

pub returns-then-self-len : goal.returns-then-self-len
returns-then-self-len c =
    let inside = c.self.inside in
    owed-some (take inside.size inside.octets.pending) inside.places.items inside.given inside.size
    (omega (arith, c.if-self-len.true, c.len.ensures, inside.places.ok.0))
    ∙ ap (λ (r : Reading). r.owed) c.self.view_is

pub returns-else-self-len : goal.returns-else-self-len
returns-else-self-len c =
    let inside = c.self.inside in
    owed-none (take inside.size inside.octets.pending) inside.places.items inside.given inside.size
    (omega (arith, c.if-self-len.false, c.len.ensures, inside.places.ok.0))
    ∙ ap (λ (r : Reading). r.owed) c.self.view_is
