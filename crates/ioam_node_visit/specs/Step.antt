-- What a node changes in the options of a packet: the data of the traces in namespaces that it knows (RFC 9197
-- section 4.4.1).
use Rattle.std.specs.Prelude.{ℕ, Bool, ◌&&◌, nat_le, if◌then◌else◌, List, ◌++◌, length, take, drop, slice_get}
use Rattle.ioam_base.specs.Octets.{u16_at}
use Rattle.ioam_clock.specs.declared.sample.Sample.{Sample}
use Rattle.ioam_node.specs.declared.place.Place.{Place}
use Rattle.ioam_topo.specs.declared.domain.Domain.{Domain}
use Rattle.ioam_topo.specs.Domain.{nodes, spaces_of}
use Rattle.ioam_topo.specs.Spaces.{knows_space}
use Rattle.ioam_trace.specs.Filled.{filled}
use Rattle.ioam_node_visit.specs.Met.{met_of}
use Rattle.ioam_node_visit.specs.Seeing.{view_of}
use Rattle.ioam_node_visit.specs.declared.met.Met.{Met}
use Rattle.ioam_node_visit.specs.declared.met.Met.TheVariants.{Cut, Trace, Direct, Other}

-- whether a node knows a namespace
abbrev pub knows : Domain → ℕ → ℕ → Bool
knows domain node space = knows_space (spaces_of (slice_get (nodes domain) node)) space

-- the namespace of a trace, behind the reserved octet and the IOAM-Option-Type
abbrev pub space_in : List ℕ → ℕ
space_in body = u16_at body 2

-- a node adds to a trace whose header is there and whose namespace it knows
abbrev pub adds : Domain → ℕ → List ℕ → Bool
adds domain node body = nat_le 10 (length body) && knows domain node (space_in body)

-- the data of a trace as the node at a place leaves them, at a time, of a packet that is sent on with this hop limit:
-- it adds what it knows of the trace's own namespace
unfoldable pub trace_step : Domain → List (List Sample) → Place → ℕ → ℕ → List ℕ → List ℕ
trace_step domain readings place time hops body =
    if adds domain place.node.0 body
    then take 2 body ++ filled (drop 2 body) (view_of domain readings place time hops (space_in body))
    else body

-- the data of an option, by what it is to the node
abbrev pub step_by : Domain → List (List Sample) → Place → ℕ → ℕ → Met → List ℕ → List ℕ
step_by domain readings place time hops Cut body = body
step_by domain readings place time hops Trace body = trace_step domain readings place time hops body
step_by domain readings place time hops Direct body = body
step_by domain readings place time hops Other body = body

-- the data of an option as the node leaves them
unfoldable pub node_step : Domain → List (List Sample) → Place → ℕ → ℕ → ℕ → List ℕ → List ℕ
node_step domain readings place time hops kind body = step_by domain readings place time hops (met_of kind body) body
