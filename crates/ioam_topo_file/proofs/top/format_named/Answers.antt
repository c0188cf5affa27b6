use Rattle.ioam_topo_file.proofs.TopLaws.{named_ptp, named_ntp, named_posix, named_none}
use Rattle.ioam_topo_file.proofs.top.format_named.Goals as goal

pub returns-then-eq : goal.returns-then-eq
returns-then-eq c = named_ptp c.args.name.now c.eq.result c.eq.ensures c.if-eq.true

pub returns-then-eq-2 : goal.returns-then-eq-2
returns-then-eq-2 c = named_ntp c.args.name.now c.eq.result c.eq-else-eq.result c.eq.ensures c.eq-else-eq.ensures
    c.if-eq.false c.if-eq-2.true

pub returns-then-eq-3 : goal.returns-then-eq-3
returns-then-eq-3 c = named_posix c.args.name.now c.eq.result c.eq-else-eq.result c.eq-else-eq-2.result c.eq.ensures
    c.eq-else-eq.ensures c.eq-else-eq-2.ensures c.if-eq.false c.if-eq-2.false c.if-eq-3.true

pub returns-else-eq-3 : goal.returns-else-eq-3
returns-else-eq-3 c = named_none c.args.name.now c.eq.result c.eq-else-eq.result c.eq-else-eq-2.result c.eq.ensures
    c.eq-else-eq.ensures c.eq-else-eq-2.ensures c.if-eq.false c.if-eq-2.false c.if-eq-3.false
