use Rattle.std.proofs.Common.{subst}
use Rattle.ioam_ip.specs.Framing.{Framing}
use Rattle.ioam_run_answer.proofs.CallLaws.{IfOk-map}
use Rattle.ioam_run_delays.specs.Observation.{FramingShows}
use Rattle.ioam_run_delays.proofs.gathering.count_record.Goals as goal

pub returns-in-Packet : goal.returns-in-Packet
returns-in-Packet c = IfOk-map c.count_sound.result _ _ (λ skipped shows. (
  shows.0,
  (let P : Framing → Type 0 = λ framing. FramingShows c.args.units framing shows.0 in subst P c.in-Packet.ensures.framing shows.1),
  shows.2,
  shows.3,
)) c.count_sound.ensures
