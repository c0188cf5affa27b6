use Rattle.std.proofs.Common.{refl, arith}
use Rattle.ioam_capture.specs.Reader.{taken_of}
use Rattle.ioam_run_stream.proofs.StepLaws.{stands_still}
use Rattle.ioam_run_audit.proofs.cursor.step.Goals as goal

pub returns-then-taken-ge-MOST_PACKETS-clause-stepped : goal.returns-then-taken-ge-MOST_PACKETS-clause-stepped
returns-then-taken-ge-MOST_PACKETS-clause-stepped c =
    let told = rw c.in-Packet.is at c.next.follows.holds-at-none in (
      refl,
      omega arith,
      (taken_of c.in-Packet.link c.in-Packet.packet, λ octets taken stands. (told.3 octets taken stands).0),
    )

pub returns-in_ok-why-in-Packet-clause-stepped : goal.returns-in_ok-why-in-Packet-clause-stepped
returns-in_ok-why-in-Packet-clause-stepped c =
    let told = rw c.in-Packet.is at c.next.follows.holds-at-none in (
      omega arith,
      refl,
      (taken_of c.in-Packet.link c.in-Packet.packet, (λ octets taken stands. (told.3 octets taken stands).0), c.in_ok-why-in-Packet.ensures),
    )

pub returns-in-Bad-clause-stepped : goal.returns-in-Bad-clause-stepped
returns-in-Bad-clause-stepped c =
    let told = rw c.in-Bad.is at c.next.follows.holds-at-none in
    (refl, λ octets taken stands more. (told.3 octets taken stands).1.0 more)

pub returns-in-More-clause-stepped : goal.returns-in-More-clause-stepped
returns-in-More-clause-stepped c =
    let told = rw c.in-More.is at c.next.follows.holds-at-none in (
      refl,
      told.0.0,
      λ octets taken stands. stands_still c.next.follows.lender-at-none octets taken (told.3 octets taken stands).0,
    )
