-- What is read of the element that was written for a view.
use Rattle.std.specs.Prelude.{ℕ, ◌-◌, ◌*◌, ◌≡◌, List, [], replicate, Option, Some, None}
use Rattle.ioam_data.specs.Kind.{words}
use Rattle.ioam_data.specs.View.{Seen, IsSeen}
use Rattle.ioam_data.specs.Table.{table, shown_by}
use Rattle.ioam_data.specs.Written.{element_of}
use Rattle.ioam_data.specs.Fields.{Held, named, when_has}

-- the schema and the data of a snapshot; a node without data writes a schema of all ones
abbrev pub given_snapshot : Option (ℕ × List ℕ) → ℕ × List ℕ
given_snapshot None = (16777215, [])
given_snapshot (Some given) = given

-- the fields as a view fills them in, all ones where it can't
abbrev pub shown : ℕ → ℕ → Seen → Held
shown kind node_len view =
    named (shown_by table kind view) (replicate (4 * (node_len - words kind)) 255) (when_has kind 22 (given_snapshot view.snapshot))

-- octets that were written for a view are read as that view shows
abbrev pub ReadsBack : ℕ → ℕ → List ℕ → Held → Type 0
ReadsBack kind node_len octets values = (view : Seen) → IsSeen view → octets ≡ element_of kind node_len view
    → values ≡ shown kind node_len view
