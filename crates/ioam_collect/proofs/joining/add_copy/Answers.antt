use Rattle.std.proofs.Common.{◌∙◌}
use Rattle.ioam_base.specs.declared.memory.NoMemory.{NoMemory}
use Rattle.ioam_collect.proofs.JoiningLaws.{entry_is, takes_copy}
use Rattle.ioam_collect.proofs.joining.add_copy.Goals as goal

pub returns : goal.returns
returns c =
    takes_copy NoMemory c.args.store.now c.add.new.self c.args.key c.args.item.now c.in_ok-copy.copy c.in_ok-added.added c.is_full.result
    (entry_is c.args.item.now c.in_ok-copy.copy c.hops.result c.core.result.now c.extra.result.now (c.in_ok-copy.ensures.value ∙ c.new-parts.ensures) c.hops.ensures
    c.core.ensures.octets c.extra.ensures.octets)
    c.is_full.ensures c.in_ok-added.ensures.adds c.in_ok-added.ensures.is_of
