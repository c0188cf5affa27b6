-- What is counted of the traces of packets.
use Rattle.std.specs.Prelude.{◌≡◌, ℕ, ℤ, Bool, true, false, List, [], ◌∷◌, map, Option, None}
use Rattle.ioam_delays.specs.Sights.{between, gap_of, tail_of}
use Rattle.ioam_delays.specs.declared.sight.Sight.{Sight}
use Rattle.ioam_delays.specs.declared.sight.Stamp.{Stamp}
use Rattle.ioam_delay_counts.specs.declared.filled.Fill.{Fill}
use Rattle.ioam_delay_counts.specs.declared.keys.HopKey.{HopKey}
use Rattle.ioam_delay_counts.specs.declared.keys.NodeKey.{NodeKey}
use Rattle.ioam_delay_counts.specs.declared.keys.SpaceKey.{SpaceKey}
use Rattle.ioam_delay_counts.specs.declared.keys.Step.{Step}
use Rattle.ioam_delay_counts.specs.declared.keys.WayKey.{WayKey}

-- a trace: its namespace, whether Overflow is set, the hop limit of its packet, and what its elements say, the oldest first
pub record Course : Type 0 where
  pub namespace : ℕ
  pub overflow : Bool
  pub limit : ℕ
  pub sights : List Sight

-- whether nothing was written
abbrev pub is_empty : List Sight → Bool
is_empty [] = true
is_empty (sight ∷ sights) = false

-- what is counted of its namespace
abbrev pub space_of : Course → SpaceKey × Fill
space_of course = (record { 0 = course.namespace }, record { overflow = course.overflow; empty = is_empty course.sights })

-- what is counted of its nodes
abbrev pub node_seen : ℕ → Sight → NodeKey × Sight
node_seen namespace sight = (record { namespace = namespace; node = sight.node }, sight)

abbrev pub nodes_from : ℕ → List Sight → List (NodeKey × Sight)
nodes_from namespace sights = map (node_seen namespace) sights

-- the hop from one element to the next
abbrev pub hop_passed : ℕ → Sight → Sight → HopKey × Option ℤ
hop_passed namespace from to =
    (record { namespace = namespace; from = from.node; to = to.node; past = gap_of from.hops to.hops }, between from.stamp to.stamp)

-- what is counted of its hops
abbrev pub hops_from : ℕ → List Sight → List (HopKey × Option ℤ)
hops_from namespace [] = []
hops_from namespace (from ∷ []) = []
hops_from namespace (from ∷ to ∷ sights) = hop_passed namespace from to ∷ hops_from namespace (to ∷ sights)

-- the nodes of its way, each with how many before it wrote nothing, behind an element of this hop limit
abbrev pub steps_of : Option ℕ → List Sight → List Step
steps_of before [] = []
steps_of before (sight ∷ sights) = record { past = gap_of before sight.hops; node = sight.node } ∷ steps_of sight.hops sights

-- the hop limit of the last element, behind one of this hop limit
abbrev pub last_hops : Option ℕ → List Sight → Option ℕ
last_hops before [] = before
last_hops before (sight ∷ sights) = last_hops sight.hops sights

-- the time stamp of the last element, behind one of this time stamp
abbrev pub last_stamp : Stamp → List Sight → Stamp
last_stamp before [] = before
last_stamp before (sight ∷ sights) = last_stamp sight.stamp sights

-- the delay from the first element to the last, of two or more
abbrev pub whole_delay : List Sight → Option ℤ
whole_delay [] = None
whole_delay (first ∷ []) = None
whole_delay (first ∷ second ∷ sights) = between first.stamp (last_stamp second.stamp sights)

-- the way of a trace, and its delay
pub record IsWay (course : Course) (way : WayKey) (delay : Option ℤ) : Type 0 where
  pub namespace_is : way.namespace ≡ course.namespace
  pub steps_are : way.steps.items ≡ steps_of None course.sights
  pub tail_is : way.tail ≡ tail_of (last_hops None course.sights) course.limit
  pub overflow_is : way.overflow ≡ course.overflow
  pub delay_is : delay ≡ whole_delay course.sights
