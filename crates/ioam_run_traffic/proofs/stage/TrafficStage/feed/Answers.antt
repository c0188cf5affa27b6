use Rattle.ioam_base.proofs.ResultLaws.{OnOk-map}
use Rattle.ioam_run_traffic.proofs.StepsLaws.{feeds_piece, on_both, standing_short}
use Rattle.ioam_run_traffic.proofs.stage.TrafficStage.feed.Goals as goal

pub feed-requires : goal.feed-requires
feed-requires g c = record {
  short = standing_short _ _ _ c.args.self.now c.requires.stands c.args.input c.requires.waits.phase_is;
  some = c.requires.some;
  few = c.requires.few;
}

pub returns : goal.returns
returns g c = OnOk-map c.feed.result _ _ (on_both c.feed.result _ _ c.feed.ensures.fed c.feed.ensures.room)
    (λ both. feeds_piece _ _ _ c.args.self.now c.args.input c.requires.waits.phase_is c.args.octets.now _ c.feed.new.self both.0 both.1)
