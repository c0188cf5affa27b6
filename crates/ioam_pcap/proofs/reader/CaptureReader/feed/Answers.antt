use Rattle.std.proofs.Common.{◌++◌, subst}
use Rattle.std.proofs.lemmas.Result.{on_ok_weaker}
use Rattle.ioam_pcap.specs.Reading.{Reading}
use Rattle.ioam_pcap.specs.Reader.{Stands, HasFault}
use Rattle.ioam_pcap.proofs.StandsLaws.{Stands-feed, fed_with}
use Rattle.ioam_pcap.proofs.BehindLaws.{FaultAt-behind}
use Rattle.ioam_pcap.proofs.reader.CaptureReader.feed.Goals as goal

pub returns-clause-stands : goal.returns-clause-stands
returns-clause-stands c = on_ok_weaker c.feed.result (λ fed octets entries stands.
    let new = fed_with c.self.inside.octets c.feed.new.self c.self.inside.form c.args.self.now c.args.piece.now c.self.view_is fed in
    let Q : Reading → Type 0 = λ r. Stands r (octets ++ c.args.piece.now) entries in
    subst Q new (Stands-feed c.args.self.now c.args.piece.now octets entries stands)) c.feed.ensures.ok

pub returns-clause-faulty : goal.returns-clause-faulty
returns-clause-faulty c = on_ok_weaker c.feed.result (λ fed f has.
    let old = c.args.self.now in
    let new = fed_with c.self.inside.octets c.feed.new.self c.self.inside.form old c.args.piece.now c.self.view_is fed in
    let Q : Reading → Type 0 = λ r. HasFault r f in
    subst Q new (FaultAt-behind old.pending c.args.piece.now old.form 0 f has)) c.feed.ensures.ok
