use Rattle.std.proofs.Common.{◌++◌, subst}
use Rattle.std.proofs.lemmas.Result.{on_ok_weaker}
use Rattle.ioam_ng.specs.Reading.{Reading, place_of}
use Rattle.ioam_ng.specs.Reader.{Stands, IsFaulty}
use Rattle.ioam_ng.proofs.StandsLaws.{Stands-feed, fed_with}
use Rattle.ioam_ng.proofs.ReadsLaws.{HasFault-behind}
use Rattle.ioam_ng.proofs.reader.NgReader.feed.Goals as goal

pub returns-clause-stands : goal.returns-clause-stands
returns-clause-stands c = on_ok_weaker c.feed.result (λ fed octets taken stands.
    let new = fed_with c.self.inside.octets c.feed.new.self _ c.args.self.now c.args.piece.now c.self.view_is fed in
    let Q : Reading → Type 0 = λ r. Stands r (octets ++ c.args.piece.now) taken in
    subst Q new (Stands-feed c.args.self.now c.args.piece.now octets taken stands)) c.feed.ensures.ok

pub returns-clause-faulty : goal.returns-clause-faulty
returns-clause-faulty c = on_ok_weaker c.feed.result (λ fed f has.
    let old = c.args.self.now in
    let new = fed_with c.self.inside.octets c.feed.new.self _ old c.args.piece.now c.self.view_is fed in
    let Q : Reading → Type 0 = λ r. IsFaulty r f in
    subst Q new (HasFault-behind c.args.piece.now (place_of old) f has)) c.feed.ensures.ok
