use Rattle.std.proofs.Common.{◌≡◌, ℕ, List, length, ap, arith}
use Rattle.ioam_run_node.specs.Passage.{passed_on}
use Rattle.ioam_run_node.specs.Seat.{seat_of}
use Rattle.ioam_run_node.proofs.SendingLaws.{adds_for}
use Rattle.ioam_run_node.proofs.post.Post.send.Goals as goal

pub returns-clause-adds : goal.returns-clause-adds
returns-clause-adds c =
    adds_for (seat_of c.args.self.now) c.args.outputs.now c.put_all.new.outputs c.args.number c.args.time c.args.way c.args.packet.now
    c.in_ok-sent.sent.packet.items c.way_name.result.now c.in_ok-sent.sent.room.notes c.in_ok-sent.sent.room.exports
    c.in_ok-sent.ensures.packet c.way_name.ensures c.in_ok-sent.ensures.notes c.in_ok-sent.ensures.exports c.in_ok-put_all.ensures

pub returns-clause-fits : goal.returns-clause-fits
returns-clause-fits c =
    let same : length c.in_ok-sent.sent.packet.items ≡ length (passed_on (seat_of c.args.self.now) c.args.time c.args.way c.args.packet.now) =
    ap (λ (octets : List ℕ). length octets) c.in_ok-sent.ensures.packet in
    omega (arith, same, c.in_ok-sent.ensures.size, c.requires.short)
