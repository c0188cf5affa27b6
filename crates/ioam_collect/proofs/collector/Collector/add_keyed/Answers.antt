use Rattle.ioam_base.specs.declared.memory.NoMemory.{NoMemory}
use Rattle.ioam_collect.proofs.CollectedLaws.{store_adds}
use Rattle.ioam_collect.proofs.collector.Collector.add_keyed.Goals as goal

pub returns : goal.returns
returns c =
    rw (← c.self.view_is) (store_adds c.self.inside.store c.add.new.self c.self.inside.read c.self.inside.unkeyed c.count.new.self c.args.key c.args.item
    NoMemory c.in_ok-added.added c.in_ok-added.ensures.adds c.in_ok-added.ensures.is_of c.count.ensures)
