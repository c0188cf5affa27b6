use Rattle.std.proofs.Common.{Some, refl}
use Rattle.ioam_delay_traces.specs.Shown.{shown_of}
use Rattle.ioam_run_delays.proofs.gathering.count_sound.Goals as goal

pub returns-in_ok-count_packet-in-Whole : goal.returns-in_ok-count_packet-in-Whole
returns-in_ok-count_packet-in-Whole c =
    (Some (shown_of c.args.units c.args.packet.now), (c.in-Whole.ensures.whole.0 refl, refl, c.count_packet.ensures.listed), refl, c.in_ok-count_packet-in-Whole.ensures.grows)
