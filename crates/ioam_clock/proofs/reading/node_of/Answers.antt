use Rattle.ioam_clock.proofs.ReadingLaws.{node_of_unreadable, node_of_found}
use Rattle.ioam_clock.specs.Reading.{node_names}
use Rattle.ioam_clock.proofs.reading.node_of.Goals as goal

pub returns-in_default-clause-value : goal.returns-in_default-clause-value
returns-in_default-clause-value c = node_of_unreadable (node_names c.args.domain.now) c.args.word.now c.in_default.ensures.cases.0

pub returns-in-Some-clause-value : goal.returns-in-Some-clause-value
returns-in-Some-clause-value c = node_of_found (node_names c.args.domain.now) c.args.word.now c.in-Ok.name.now c.in-Some.node
    c.in-Ok.ensures.cases.1 c.in-Ok.ensures.cases.0 c.in-Some.ensures.value
