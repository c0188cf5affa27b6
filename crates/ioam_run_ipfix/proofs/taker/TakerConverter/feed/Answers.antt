use Rattle.std.proofs.Common.{refl, arith}
use Rattle.ioam_run_answer.proofs.CallLaws.{OnOk_both}
use Rattle.ioam_run_ipfix.proofs.TakerLaws.{taker_feeds, taker_fits, taker_room}
use Rattle.ioam_run_ipfix.proofs.taker.TakerConverter.feed.Goals as goal

pub feed-requires : goal.feed-requires
feed-requires c = omega (arith, c.requires.few, taker_fits c.args.self.now c.requires.stands c.requires.waits)

pub returns : goal.returns
returns c = OnOk_both c.feed.result _ _ _ c.feed.ensures.ok c.feed.ensures.stands
    (λ is stands. taker_feeds c.args.self.now (record { reader = c.feed.new.self; room = c.args.self.now.room; given = c.args.self.now.given; cause = c.args.self.now.cause })
    c.args.octets.now c.requires.some (omega (arith, c.requires.few, taker_fits c.args.self.now c.requires.stands c.requires.waits)) is (λ i. omega (arith, c.type_inv.octets i)) stands refl
    (taker_room c.args.self.now c.requires.stands) refl)
