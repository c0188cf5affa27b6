use Rattle.std.proofs.Common.{◌++◌, subst}
use Rattle.std.proofs.lemmas.Result.{on_ok_weaker}
use Rattle.ioam_dex.specs.Reading.{Reading}
use Rattle.ioam_dex.specs.Reader.{Stands, HasFault}
use Rattle.ioam_dex.proofs.FaultLaws.{Fault-behind}
use Rattle.ioam_dex.proofs.ReaderLaws.{Stands-feed, fed_with}
use Rattle.ioam_dex.proofs.reader.ExportReader.feed.Goals as goal

pub returns-clause-stands : goal.returns-clause-stands
returns-clause-stands c = on_ok_weaker c.feed.result (λ fed octets records stands.
    let new = fed_with c.self.inside.octets c.feed.new.self c.args.self.now c.args.piece.now c.self.view_is fed in
    let Q : Reading → Type 0 = λ r. Stands r (octets ++ c.args.piece.now) records in
    subst Q new (Stands-feed c.args.self.now c.args.piece.now octets records stands)) c.feed.ensures.ok

pub returns-clause-faulty : goal.returns-clause-faulty
returns-clause-faulty c = on_ok_weaker c.feed.result (λ fed f has.
    let old = c.args.self.now in
    let new = fed_with c.self.inside.octets c.feed.new.self old c.args.piece.now c.self.view_is fed in
    let Q : Reading → Type 0 = λ r. HasFault r f in
    subst Q new (Fault-behind old.pending c.args.piece.now f has)) c.feed.ensures.ok
