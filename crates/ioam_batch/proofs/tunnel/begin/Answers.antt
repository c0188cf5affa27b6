use Rattle.std.proofs.Common.{get_or, false}
use Rattle.ioam_batch.proofs.RanLaws.{enters}
use Rattle.ioam_batch.proofs.tunnel.begin.Goals as goal

pub returns-clause-sent : goal.returns-clause-sent
returns-clause-sent c tunnel is so =
    enters c.args.domain.now c.args.readings.now tunnel c.args.visit.now c.args.packet.now c.begin.new.packet
    c.args.crossings.now.past c.cross.new.self.past c.args.room.now c.begin.new.room (get_or c.args.crossings.now.ahead 0 false)
    so (c.begin.ensures.wire tunnel is so.packet_is) c.cross.ensures.past c.requires.tap c.begin.ensures.notes
    (c.begin.ensures.exported tunnel is so.packet_is)
