use Rattle.std.proofs.Common.{◌-◌, arith}
use Rattle.std.proofs.lemmas.Bool.Decides.{nat_tests}
use Rattle.ioam_pool.proofs.GuideLaws.{on_inside, start_is}
use Rattle.ioam_pool.proofs.guides.start_from.Goals as goal

pub bounds-cells-guide : goal.bounds-cells-guide
bounds-cells-guide c = on_inside _ _ _ (c.requires.guided (c.args.count - 1) (record { chain = 0; cell = 0 }) (grind (arith, nat_tests)) (grind (arith, nat_tests)))

pub returns-in-Less : goal.returns-in-Less
returns-in-Less c = start_is c.args.cells.now c.args.head _ c.index-cells-guide.result c.args.item.now (c.requires.guided (c.args.count - 1) (record { chain = 0; cell = 0 }) (grind (arith, nat_tests)) (grind (arith, nat_tests))) c.in-Less.ensures
