use Rattle.ioam_run_texts.proofs.LeavingLaws.{inside-said}
use Rattle.ioam_run_texts.proofs.leaving.inside.Goals as goal

pub returns-in-Some-clause-exact : goal.returns-in-Some-clause-exact
returns-in-Some-clause-exact c = inside-said (λ rest. rest.now) c.rest.result c.args.packet.now c.in-Some.range.start c.in-Some.ensures.packet
    c.in-Some.ensures.there.0 (c.rest.ensures.octets c.in-Some.ensures.there.0.is_packet.header_there)
