-- The interface by which a way leaves its node.
use Rattle.std.specs.Prelude.{ℕ, Option, option_map, slice_get}
use Rattle.ioam_topo.specs.Domain.{links, ports}
use Rattle.ioam_topo.specs.declared.domain.Domain.{Domain}
use Rattle.ioam_topo.specs.declared.ids.Way.{Way}
use Rattle.ioam_topo.specs.declared.ids.Way.TheVariants as way

-- the id of the interface at the start of a link, or that of a port
abbrev pub outward_of : Domain → Way → Option ℕ
outward_of domain (way.Link link) = option_map (λ l. l.out_id) (slice_get (links domain) link.0)
outward_of domain (way.Port port) = option_map (λ p. p.id) (slice_get (ports domain) port.0)
