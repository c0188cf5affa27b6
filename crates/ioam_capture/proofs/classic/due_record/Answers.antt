use Rattle.ioam_capture.proofs.DueLaws.{classic-record, classic-bad}
use Rattle.ioam_capture.proofs.classic.due_record.Goals as goal

pub returns-in-Packet-clause-due : goal.returns-in-Packet-clause-due
returns-in-Packet-clause-due c =
    classic-record c.args.reader.now c.args.ended c.in-Packet.time
    (λ octets entries stands. let (e, here, time, size) = c.in-Packet.ensures.shows octets entries stands in (e, here, time))

pub returns-in-Bad-clause-due : goal.returns-in-Bad-clause-due
returns-in-Bad-clause-due c octets taken stream stands shows =
    let (entries, stood, is) = stands.2 in
    let (at, bad) = c.in-Bad.ensures.shows octets entries stood in
    classic-bad c.args.reader.now c.args.ended c.in-Bad.at c.in-Bad.fault at (λ o e s. (c.in-Bad.ensures.shows o e s).1) octets taken stream stands shows
