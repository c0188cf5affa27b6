-- Which visits send their packet on a link with a tap.
use Rattle.std.specs.Prelude.{ℕ, Bool, false, List, map, get_or, Option, Some, None, count_by, is_some, slice_get}
use Rattle.ioam_plan.specs.declared.itinerary.Visit.{Visit}
use Rattle.ioam_topo.specs.declared.domain.Domain.{Domain}
use Rattle.ioam_topo.specs.declared.ids.Way.{Way}
use Rattle.ioam_topo.specs.declared.ids.Way.TheVariants as way
use Rattle.ioam_topo.specs.declared.parts.Link.{Link}
use Rattle.ioam_topo.specs.Domain.{links}

-- whether a link is there and has a tap
abbrev pub has_tap : Option Link → Bool
has_tap None = false
has_tap (Some link) = is_some link.tap

-- whether a way leads to a link with a tap
abbrev pub taps_by : Domain → Option Way → Bool
taps_by domain None = false
taps_by domain (Some (way.Link link)) = has_tap (slice_get (links domain) link.0)
taps_by domain (Some (way.Port port)) = false

-- whether a visit sends its packet on a link with a tap
abbrev pub is_tapped : Domain → Visit → Bool
is_tapped domain visit = taps_by domain visit.way

-- whether the one at this place does, of these visits; past the last there is none that does
abbrev pub is_tapped_at : Domain → List Visit → ℕ → Bool
is_tapped_at domain visits i = get_or (map (is_tapped domain) visits) i false

-- how many of them do
abbrev pub tap_count : Domain → List Visit → ℕ
tap_count domain visits = count_by (is_tapped domain) visits
