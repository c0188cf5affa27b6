use Rattle.std.proofs.Common.{◌≤◌, ap, ◌∙◌, length, map, get_or, false, arith}
use Rattle.std.proofs.lemmas.List.{length-map}
use Rattle.ioam_batch.specs.Ran.{passed}
use Rattle.ioam_batch.proofs.RanLaws.{closes}
use Rattle.ioam_batch.proofs.tunnel.exit.Goals as goal
use Rattle.ioam_plan.specs.Journey.{outward_by}

pub exit-requires-clause-outward : goal.exit-requires-clause-outward
exit-requires-clause-outward c = c.requires.visit.outward ∙ ap (outward_by c.args.domain.now) c.requires.stays

pub returns-clause-closed : goal.returns-clause-closed
returns-clause-closed c tunnel visits is some so =
    let done = map passed visits in
    let some_done : 1 ≤ length done = omega (arith, some, length-map visits passed) in
    closes c.args.domain.now c.args.readings.now tunnel visits c.args.visit.now c.args.packet.now c.exit.new.packet
    c.args.crossings.now.past c.cross.new.self.past c.args.room.now c.exit.new.room (get_or c.args.crossings.now.ahead 0 false)
    some c.requires.stays so (c.exit.ensures.closed tunnel done is some_done so.packet_is) c.cross.ensures.past c.requires.tap c.exit.ensures.notes
    (c.exit.ensures.exported tunnel done is some_done so.packet_is)
