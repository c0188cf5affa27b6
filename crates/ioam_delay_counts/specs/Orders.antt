-- The order of the rows of tables.
use Rattle.std.specs.Prelude.{Bool, not, ◌&&◌, nat_lt}
use Rattle.ioam_delay_counts.specs.Keys.{id_of, in_turn, known_before, length_of, steps_before}
use Rattle.ioam_delay_counts.specs.declared.keys.HopKey.{HopKey}
use Rattle.ioam_delay_counts.specs.declared.keys.NodeKey.{NodeKey}
use Rattle.ioam_delay_counts.specs.declared.keys.SpaceKey.{SpaceKey}
use Rattle.ioam_delay_counts.specs.declared.keys.WayKey.{WayKey}

-- namespaces come by their number
abbrev pub space_before : SpaceKey → SpaceKey → Bool
space_before one other = nat_lt one.0 other.0

-- nodes by their namespace, then the node
abbrev pub node_before : NodeKey → NodeKey → Bool
node_before one other = in_turn nat_lt one.namespace other.namespace (known_before (id_of one.node) (id_of other.node))

-- hops by their namespace, the first node, the second, and how many are between
abbrev pub hop_before : HopKey → HopKey → Bool
hop_before one other =
    in_turn nat_lt one.namespace other.namespace
    (in_turn known_before (id_of one.from) (id_of other.from)
    (in_turn known_before (id_of one.to) (id_of other.to) (known_before (length_of one.past) (length_of other.past))))

-- what orders ways of the same steps: how many are after the last, and then without Overflow before with it
abbrev pub ends_before : WayKey → WayKey → Bool
ends_before one other = in_turn known_before (length_of one.tail) (length_of other.tail) (not one.overflow && other.overflow)

-- ways by their namespace, the steps, and their ends
abbrev pub way_before : WayKey → WayKey → Bool
way_before one other = in_turn nat_lt one.namespace other.namespace (steps_before (ends_before one other) one.steps.items other.steps.items)
