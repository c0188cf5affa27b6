use Rattle.ioam_collect.proofs.SlotLaws.{at_more, slots_more}
use Rattle.ioam_collect.proofs.key_map.KeyMap.insert.Goals as goal

pub returns-clause-slots : goal.returns-clause-slots
returns-clause-slots c =
    c.put_in.ensures.slots c.insert.new.self
    (at_more c.args.self.now.map c.insert.new.self c.args.key c.args.chain c.requires.absent c.in-Ok.ensures.updates.0)
    (c.widen.ensures.stay c.insert.new.self
    (slots_more c.args.self.now.map c.insert.new.self c.args.key c.args.chain c.requires.absent c.in-Ok.ensures.updates.0 _ c.requires.slots))
