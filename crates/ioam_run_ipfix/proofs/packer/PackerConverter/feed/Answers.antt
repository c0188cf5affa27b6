use Rattle.std.proofs.Common.{refl, arith}
use Rattle.ioam_run_answer.proofs.CallLaws.{OnOk_both}
use Rattle.ioam_run_ipfix.proofs.PackerLaws.{packer_feeds, packer_room}
use Rattle.ioam_run_ipfix.proofs.packer.PackerConverter.feed.Goals as goal

pub feed-requires : goal.feed-requires
feed-requires c = omega (arith, c.requires.few, packer_room c.args.self.now c.requires.stands c.requires.waits)

pub returns : goal.returns
returns c = OnOk_both c.feed.result _ _ _ c.feed.ensures.ok c.feed.ensures.stands
    (λ is stands. packer_feeds c.args.self.now (record { reader = c.feed.new.self; packing = c.args.self.now.packing; cause = c.args.self.now.cause }) c.args.octets.now c.requires.some
    (omega (arith, c.requires.few, packer_room c.args.self.now c.requires.stands c.requires.waits)) is stands refl refl)
