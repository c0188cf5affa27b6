use Rattle.ioam_run_part.proofs.UnreadLaws.{fed_more, may_feed}
use Rattle.ioam_run_part.proofs.intakes.FlatIntakeIntake.take.Goals as goal

pub feed-requires : goal.feed-requires
feed-requires c =
    let standing = c.requires.stands in
    may_feed 0 standing.octets c.args.self.keeper.reader c.args.self.left standing.stands.0 c.args.piece.now c.requires.needed c.requires.few

pub returns-clause-takes : goal.returns-clause-takes
returns-clause-takes c = λ begun octets takes.
    let keeps = c.in_ok-feed.ensures.keeps octets takes.1 in
    (fed_more 0 octets c.args.self.keeper.reader c.args.self.left takes.0 c.args.piece.now c.requires.needed c.requires.few c.in_ok-feed.field-0.reader keeps.stands, keeps)
