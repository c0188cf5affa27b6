-- The lines of what a node did with the IOAM options of a packet.
use Rattle.std.specs.Prelude.{ℕ, Bool, if◌then◌else◌, List, ◌++◌, codes, decimal}
use Rattle.std.specs.List.{flat_map}
use Rattle.ioam_node_visit.specs.declared.note.NodeNote.{NodeNote}
use Rattle.ioam_node_visit.specs.declared.note.What.{What}
use Rattle.ioam_node_visit.specs.declared.note.What.TheVariants as what

-- the kind of an option
abbrev pub kind_text : Bool → List ℕ
kind_text direct = if direct then codes "  direct " else codes "  trace "

-- what was done, behind the kind of the option and its namespace
abbrev pub done_line : Bool → ℕ → List ℕ → List ℕ
done_line direct namespace done = kind_text direct ++ decimal namespace ++ codes " " ++ done ++ codes "\n"

-- by what was done; of an option that is too short for its header nothing else is said
abbrev pub what_line : Bool → ℕ → What → List ℕ
what_line direct namespace (what.Added words) = done_line direct namespace (codes "added " ++ decimal words)
what_line direct namespace what.Overflowed = done_line direct namespace (codes "overflow")
what_line direct namespace what.AlreadyOver = done_line direct namespace (codes "over")
what_line direct namespace what.Unsuited = done_line direct namespace (codes "unsuited")
what_line direct namespace what.Unknown = done_line direct namespace (codes "unknown")
what_line direct namespace what.Exported = done_line direct namespace (codes "exported")
what_line direct namespace what.Short = codes "  option short\n"

-- the line of a note: the kind of option, its namespace, and what was done
abbrev pub note_line : NodeNote → List ℕ
note_line note = what_line note.direct note.namespace.0 note.what

-- a line for each, in the order of the options
abbrev pub notes_text : List NodeNote → List ℕ
notes_text notes = flat_map note_line notes
