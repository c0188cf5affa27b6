use Rattle.ioam_capture.proofs.DueLaws.{ng-record, ng-bad}
use Rattle.ioam_capture.proofs.blocks.due_packet.Goals as goal

pub returns-in-Packet-clause-due : goal.returns-in-Packet-clause-due
returns-in-Packet-clause-due c octets taken stream stands shows =
    let (packet, has, time) = rw c.in-Packet.is at c.in_ok-time.ensures.shows in
    ng-record c.pass.new.self c.args.ended c.in-Packet.time packet has time octets taken stream (stands.0, c.in_ok-time.ensures.stands octets taken stands.1) shows

pub returns-in-More-clause-due : goal.returns-in-More-clause-due
returns-in-More-clause-due c octets taken stream stands shows =
    c.waiting.ensures octets taken stream (stands.0, c.in_ok-time.ensures.stands octets taken stands.1) shows

pub returns-in-Bad-clause-due : goal.returns-in-Bad-clause-due
returns-in-Bad-clause-due c octets taken stream stands shows =
    let (at, bad) = rw c.in-Bad.is at c.in_ok-time.ensures.shows in
    ng-bad c.pass.new.self c.args.ended c.in-Bad.at c.in-Bad.fault at bad octets taken stream (stands.0, c.in_ok-time.ensures.stands octets taken stands.1) shows
