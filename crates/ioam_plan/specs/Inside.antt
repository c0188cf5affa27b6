-- A journey stays inside its domain: its nodes and its ports are those of the domain.
use Rattle.std.specs.Prelude.{◌<◌, length, All}
use Rattle.ioam_topo.specs.declared.domain.Domain.{Domain}
use Rattle.ioam_topo.specs.Domain.{nodes, ports}
use Rattle.ioam_plan.specs.declared.itinerary.Itinerary.{Itinerary}
use Rattle.ioam_plan.specs.declared.itinerary.Visit.{Visit}
use Rattle.ioam_plan.specs.declared.itinerary.End.{End}
use Rattle.ioam_plan.specs.declared.itinerary.End.TheVariants.{Left, Drop}

-- the visit is at a node of the domain
abbrev pub IsVisitOf : Domain → Visit → Type 0
IsVisitOf domain visit = visit.place.node.0 < length (nodes domain)

-- the port by which the packet leaves is one of the domain, or the node that drops it is
abbrev pub EndsInside : Domain → End → Type 0
EndsInside domain (Left port) = port.0 < length (ports domain)
EndsInside domain (Drop reason node) = node.0 < length (nodes domain)

-- each visit is of a node of the domain, and the end is inside it
abbrev pub StaysInside : Domain → Itinerary → Type 0
StaysInside domain itinerary = All (IsVisitOf domain) itinerary.visits × EndsInside domain itinerary.end
