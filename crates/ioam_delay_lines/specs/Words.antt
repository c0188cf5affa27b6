-- The words for nodes, gaps and ways.
use Rattle.std.specs.Prelude.{ℕ, Bool, List, [], ◌++◌, ◌==◌, if◌then◌else◌, codes, decimal, flat_map, length}
use Rattle.ioam_delays.specs.declared.sight.Gap.{Gap}
use Rattle.ioam_delays.specs.declared.sight.Gap.TheVariants as gap
use Rattle.ioam_delays.specs.declared.sight.Node.{Node}
use Rattle.ioam_delays.specs.declared.sight.Node.TheVariants as node
use Rattle.ioam_delay_counts.specs.declared.keys.Step.{Step}
use Rattle.ioam_delay_counts.specs.declared.keys.WayKey.{WayKey}

-- the id of a node, or that it wrote none
abbrev pub node_text : Node → List ℕ
node_text (node.Id id) = decimal id
node_text node.Unknown = codes "-"

-- how many wrote nothing, or that it isn't known
abbrev pub gap_text : Gap → List ℕ
gap_text (gap.Nodes nodes) = decimal nodes
gap_text gap.Unknown = codes "?"

-- the mark of nodes that wrote nothing, if there are some
abbrev pub mark_text : Gap → List ℕ
mark_text (gap.Nodes nodes) = if nodes == 0 then [] else codes " *" ++ decimal nodes
mark_text gap.Unknown = codes " *?"

-- how many before a node wrote nothing, and the node
abbrev pub step_text : Step → List ℕ
step_text step = mark_text step.past ++ codes " " ++ node_text step.node

-- the end of a way
abbrev pub end_text : Bool → Bool → List ℕ
end_text overflow empty = if overflow then codes " +" else (if empty then codes " none" else [])

-- a way
abbrev pub way_text : WayKey → List ℕ
way_text way = flat_map step_text way.steps.items ++ mark_text way.tail ++ end_text way.overflow (length way.steps.items == 0)
