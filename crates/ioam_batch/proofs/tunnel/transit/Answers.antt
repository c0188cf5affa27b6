use Rattle.std.proofs.Common.{◌≤◌, length, map, get_or, false, arith}
use Rattle.std.proofs.lemmas.List.{length-map}
use Rattle.ioam_batch.specs.Ran.{passed}
use Rattle.ioam_batch.proofs.RanLaws.{passes}
use Rattle.ioam_batch.proofs.tunnel.transit.Goals as goal

pub returns-clause-sent : goal.returns-clause-sent
returns-clause-sent c tunnel visits is some so =
    let done = map passed visits in
    let some_done : 1 ≤ length done = omega (arith, some, length-map visits passed) in
    passes c.args.domain.now c.args.readings.now tunnel visits c.args.visit.now c.args.packet.now c.transit.new.packet
    c.args.crossings.now.past c.cross.new.self.past c.args.room.now c.transit.new.room (get_or c.args.crossings.now.ahead 0 false)
    some so (c.transit.ensures.wire tunnel done is some_done so.packet_is) c.cross.ensures.past c.requires.tap c.transit.ensures.notes
    (c.transit.ensures.exported tunnel done is some_done so.packet_is)
