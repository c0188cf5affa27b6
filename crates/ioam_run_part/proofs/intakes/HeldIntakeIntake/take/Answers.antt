use Rattle.ioam_run_part.proofs.UnreadLaws.{fed_more, may_feed}
use Rattle.ioam_run_part.proofs.intakes.HeldIntakeIntake.take.Goals as goal

pub feed-requires : goal.feed-requires
feed-requires c =
    let standing = c.requires.stands in
    may_feed 1048576 standing.octets c.args.self.reader c.args.self.left standing.stands c.args.piece.now c.requires.needed c.requires.few

pub returns-clause-takes : goal.returns-clause-takes
returns-clause-takes c = λ begun octets fed. fed_more 1048576 octets c.args.self.reader c.args.self.left fed c.args.piece.now c.requires.needed c.requires.few
    c.in_ok-feed.field-0 (c.in_ok-feed.ensures.stands 1048576 octets fed.stands)
