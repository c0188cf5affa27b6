-- The lines of each namespace: its own, those of its ways, of its hops and of its nodes.
use Rattle.std.specs.Prelude.{ℕ, zero, suc, ◌-◌, ◌^◌, ◌==◌, ◌&&◌, max, nat_le, if◌then◌else◌, List, [], ◌++◌, length}
use Rattle.std.specs.List.{flat_map, fold}
use Rattle.ioam_delay_counts.specs.declared.table.Row.{Row}
use Rattle.ioam_delay_counts.specs.declared.filled.Filled.{Filled}
use Rattle.ioam_delay_counts.specs.declared.keys.HopKey.{HopKey}
use Rattle.ioam_delay_counts.specs.declared.keys.NodeKey.{NodeKey}
use Rattle.ioam_delay_counts.specs.declared.keys.SpaceKey.{SpaceKey}
use Rattle.ioam_delay_counts.specs.declared.keys.WayKey.{WayKey}
use Rattle.ioam_delay_counts.specs.declared.passed.Passed.{Passed}
use Rattle.ioam_delay_counts.specs.declared.seen.Seen.{Seen}
use Rattle.ioam_delay_counts.specs.declared.sums.Sums.{Sums}
use Rattle.ioam_delay_lines.specs.Hops.{drawing_text, hop_row, whole_of}
use Rattle.ioam_delay_lines.specs.Rows.{node_row, space_row, way_row}

-- a node, with its picture
unfoldable pub seen_text : Row NodeKey Seen → List ℕ
seen_text row = node_row row.key row.tally ++ drawing_text row.tally.delays

-- the nodes of a namespace
abbrev pub node_line : ℕ → Row NodeKey Seen → List ℕ
node_line namespace row = if row.key.namespace == namespace then seen_text row else []

unfoldable pub nodes_text : ℕ → List (Row NodeKey Seen) → List ℕ
nodes_text namespace rows = flat_map (node_line namespace) rows

-- a hop, with its picture, in a namespace whose delays add up to this
unfoldable pub passed_text : ℕ → Row HopKey Passed → List ℕ
passed_text whole row = hop_row whole row.key row.tally ++ drawing_text row.tally.delays

-- the hops of a namespace
abbrev pub hop_line : ℕ → ℕ → Row HopKey Passed → List ℕ
hop_line namespace whole row = if row.key.namespace == namespace then passed_text whole row else []

unfoldable pub hops_text : ℕ → ℕ → List (Row HopKey Passed) → List ℕ
hops_text namespace whole rows = flat_map (hop_line namespace whole) rows

-- its ways of so many traces, in a namespace with this many
abbrev pub way_line : ℕ → ℕ → ℕ → Row WayKey Passed → List ℕ
way_line namespace traces count row =
    if row.key.namespace == namespace && row.tally.count == count then way_row traces row.key row.tally else []

unfoldable pub ways_of : ℕ → ℕ → ℕ → List (Row WayKey Passed) → List ℕ
ways_of namespace traces count rows = flat_map (way_line namespace traces count) rows

-- the most traces up to a limit that a way of the namespace has, or 0
abbrev pub next_more : ℕ → ℕ → ℕ → Row WayKey Passed → ℕ
next_more namespace limit most row =
    if row.key.namespace == namespace && nat_le row.tally.count limit then max row.tally.count most else most

unfoldable pub next_count : ℕ → ℕ → List (Row WayKey Passed) → ℕ
next_count namespace limit rows = fold (next_more namespace limit) 0 rows

-- its ways of no more traces than a limit, those of the most first, and those of as many in their order
unfoldable pub ways_up_to : ℕ → ℕ → List (Row WayKey Passed) → ℕ → ℕ → List ℕ
ways_up_to namespace traces rows zero limit = []
ways_up_to namespace traces rows (suc left) limit =
    let count = next_count namespace limit rows in
    if count == 0 then [] else ways_of namespace traces count rows ++ ways_up_to namespace traces rows left (count - 1)

-- all of them
abbrev pub ways_text : ℕ → ℕ → List (Row WayKey Passed) → List ℕ
ways_text namespace traces rows = ways_up_to namespace traces rows (length rows) (2 ^ 64 - 1)

-- what follows the line of a namespace
unfoldable pub space_parts : Sums → ℕ → ℕ → List ℕ
space_parts sums namespace traces =
    ways_text namespace traces sums.ways.rows.items
    ++ hops_text namespace (whole_of namespace sums.hops.rows.items) sums.hops.rows.items
    ++ nodes_text namespace sums.nodes.rows.items

-- the lines of a namespace
abbrev pub space_lines : Sums → Row SpaceKey Filled → List ℕ
space_lines sums row = space_row row.key row.tally ++ space_parts sums row.key.0 row.tally.count

-- the lines of all
unfoldable pub spaces_text : Sums → List ℕ
spaces_text sums = flat_map (space_lines sums) sums.spaces.rows.items
