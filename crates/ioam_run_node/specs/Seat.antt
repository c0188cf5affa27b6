-- Where packets are visited: a node of a domain, with the readings of all nodes, and the id of the interface of the
-- node by which they come.
use Rattle.std.specs.Prelude.{ℕ, List}
use Rattle.ioam_clock.specs.declared.sample.Sample.{Sample}
use Rattle.ioam_topo.specs.declared.domain.Domain.{Domain}
use Rattle.ioam_topo.specs.declared.ids.NodeId.{NodeId}
use Rattle.ioam_run_node.specs.declared.post.Post.{Post}

-- a node of a domain, the readings of all nodes' clocks, and the interface of the node by which packets come
pub record Seat : Type 0 where
  pub domain : Domain
  pub samples : List (List Sample)
  pub node : NodeId
  pub inward : ℕ

-- that of a node of a domain
abbrev pub seat_at : Domain → List (List Sample) → NodeId → ℕ → Seat
seat_at domain samples node inward = record { domain = domain; samples = samples; node = node; inward = inward }

-- what a `Post` is seen as
abbrev pub seat_of : Post → Seat
seat_of post = record { domain = post.domain.now; samples = post.readings.now; node = post.node; inward = post.inward }
