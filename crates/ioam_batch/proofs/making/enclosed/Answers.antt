use Rattle.std.proofs.Common.{◌≤◌, ◌+◌, if◌then◌else◌, length, arith}
use Rattle.ioam_batch.proofs.MakingLaws.{hops-of, short-of, start-limit}
use Rattle.ioam_batch.proofs.ReservedLaws.{options-few}
use Rattle.ioam_batch.proofs.making.enclosed.Goals as goal
use Rattle.ioam_tunnel.specs.Enclosed.{tunnel_of}

pub returns-clause-goes : goal.returns-clause-goes
returns-clause-goes c =
    let rides = c.requires in
    let out = c.in_ok-out.out in
    let more = if c.args.itinerary.now.exited then 1 else 0 in
    let tunnel = tunnel_of c.args.domain.now c.args.flow c.args.numbers.now c.args.packet.now in
    let few : length c.args.itinerary.now.visits ≤ tunnel.hops + more =
    hops-of c.args.domain.now c.args.flow c.args.numbers.now c.args.packet.now rides.known (length c.args.itinerary.now.visits) more rides.few in
    record {
      is_packet = c.in_ok-out.ensures.packet;
      is_sound = c.in_ok-out.ensures.sound rides.sound;
      sends = rides.sends;
      hops = omega (arith, few, start-limit tunnel out.items c.in_ok-out.ensures.wire);
    }

pub returns-clause-short : goal.returns-clause-short
returns-clause-short c =
    let rides = c.requires in
    short-of c.args.domain.now c.args.flow c.args.numbers.now c.args.packet.now rides.known (length c.in_ok-out.out.items) c.in_ok-out.ensures.size rides.may

pub returns-clause-options : goal.returns-clause-options
returns-clause-options c =
    options-few c.args.domain.now c.args.flow c.args.numbers.now c.args.packet.now c.in_ok-out.out.items c.in_ok-out.ensures.tunnel c.in_ok-out.ensures.wire
