use Rattle.std.proofs.Common.{◌++◌, sym, subst}
use Rattle.ioam_ipfix.specs.Reading.{Reading, place_of}
use Rattle.ioam_ipfix.specs.Reader.{Stands, IsFaulty}
use Rattle.ioam_ipfix.proofs.MessageLaws.{fault-behind}
use Rattle.ioam_ipfix.proofs.ReaderLaws.{Stands-feed, fed-exact}
use Rattle.ioam_ipfix.proofs.reader.IpfixReader.feed.Goals as goal

pub returns-clause-ok : goal.returns-clause-ok
returns-clause-ok c =
    fed-exact c.args.piece.now c.args.self.now c.feed_piece.new.self c.in_ok-feed_piece.ensures.rest c.in_ok-feed_piece.ensures.held

pub returns-clause-stands : goal.returns-clause-stands
returns-clause-stands c = λ octets given stands.
    let Q : Reading → Type 0 = λ r. Stands r (octets ++ c.args.piece.now) given in
    let exact = fed-exact c.args.piece.now c.args.self.now c.feed_piece.new.self c.in_ok-feed_piece.ensures.rest c.in_ok-feed_piece.ensures.held in
    subst Q (sym exact) (Stands-feed c.args.self.now c.args.piece.now octets given stands)

pub returns-clause-faulty : goal.returns-clause-faulty
returns-clause-faulty c = λ f bad.
    let Q : Reading → Type 0 = λ r. IsFaulty r f in
    let exact = fed-exact c.args.piece.now c.args.self.now c.feed_piece.new.self c.in_ok-feed_piece.ensures.rest c.in_ok-feed_piece.ensures.held in
    subst Q (sym exact) (bad.0, fault-behind c.args.piece.now (place_of c.args.self.now) f bad.1)
