use Rattle.std.proofs.Common.{ap, length, arith}
use Rattle.std.proofs.lemmas.Bool.Decides.{nat_tests}
use Rattle.ioam_topo.proofs.ApartLaws.{pairs_differ}
use Rattle.ioam_topo_tables.proofs.ApartLaws.{flows_apart, ids_few}
use Rattle.ioam_topo_tables.proofs.apart.flows_differ.Goals as goal

pub returns : goal.returns
returns c = flows_apart c.args.flows.now.items.items c.args.flows.now.names c.args.flows.now.taken.keys
    c.requires.named c.requires.keyed c.len.ensures.apart (pairs_differ c.args.flows.now.taken.keys c.len-3.ensures.unique)

pub prove-unreachable-requires-2 : goal.prove-unreachable-requires-2
prove-unreachable-requires-2 c =
    let few = ids_few c.args.flows.now.items.items in
    let many = ap length c.requires.keyed in
    grind (arith, nat_tests, few, many, c.len-3.ensures.len, c.len-4.ensures, c.if-prove-2.true)
