-- Packets that leave a domain.
use Rattle.std.specs.Prelude.{◌≡◌, [], ◌∷◌, if◌then◌else◌, is_some, length}
use Rattle.ioam_run_traffic.specs.Fate.{Fate}
use Rattle.ioam_run_traffic.specs.Texts.{fate_leaves, last_time}
use Rattle.ioam_run_traffic.specs.Lowered.{lowered}
use Rattle.ioam_run_traffic.specs.End.TheVariants.{Left}
use Rattle.ioam_topo.specs.declared.ids.PortId.{PortId}

-- An arrival whose journey ends by a port leaves as one packet, at the time of its last visit: as it came, but for its hop
-- limit, which is less by one for each visit, or by two where it went through a tunnel (RFC 8200 section 3, RFC 2473
-- section 3).
abbrev pub LeavesOnce : Fate → Type 0
LeavesOnce fate = (port : PortId) → fate.itinerary.end ≡ Left port → fate_leaves fate ≡ record {
  time = last_time fate.itinerary.visits;
  octets = lowered (if is_some fate.itinerary.carried then 2 else length fate.itinerary.visits) fate.packet;
} ∷ []
