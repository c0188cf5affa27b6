use Rattle.std.proofs.Common.{true}
use Rattle.ioam_run_traffic.proofs.StepsLaws.{feeds_end, standing_short}
use Rattle.ioam_run_traffic.proofs.stage.TrafficStage.end.Goals as goal

pub end-requires : goal.end-requires
end-requires g c = standing_short _ _ _ c.args.self.now c.requires.stands c.args.input c.requires.waits.phase_is

pub returns : goal.returns
returns g c = feeds_end _ _ _ c.args.self.now c.args.input c.requires.waits.phase_is true c.end.new.self c.end.ensures.ended c.end.ensures.room
