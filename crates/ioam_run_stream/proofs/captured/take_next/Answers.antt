use Rattle.std.proofs.Common.{refl, arith}
use Rattle.ioam_capture.specs.Reader.{taken_of}
use Rattle.ioam_run_stream.proofs.captured.take_next.Goals as goal

pub returns-then-taken-from-clause-next : goal.returns-then-taken-from-clause-next
returns-then-taken-from-clause-next g c =
    let told = rw c.in-Packet.is at c.next.follows.holds-at-none in (
      (refl, refl),
      omega arith,
      (taken_of c.in-Packet.link c.in-Packet.packet, λ octets taken stands. (told.3 octets taken stands).0),
    )

pub returns-in_ok-take-in-Packet-clause-next : goal.returns-in_ok-take-in-Packet-clause-next
returns-in_ok-take-in-Packet-clause-next g c =
    let told = rw c.in-Packet.is at c.next.follows.holds-at-none in
    let gathers = c.in_ok-take-in-Packet.ensures.gathers in
    record {
      below = omega arith;
      counted = c.in_ok-take-in-Packet.ensures.counted;
      record_is = taken_of c.in-Packet.link c.in-Packet.packet;
      stands = λ octets taken stands. (told.3 octets taken stands).0;
      added = gathers.0;
      adds = gathers.1;
      gathered = gathers.2;
    }

pub returns-in-Bad-clause-next : goal.returns-in-Bad-clause-next
returns-in-Bad-clause-next g c =
    let told = rw c.in-Bad.is at c.next.follows.holds-at-none in
    ((refl, refl), λ octets taken stands more. (told.3 octets taken stands).1.0 more)
