-- The octets of an element by its fields (RFC 9197 section 4.4.2): what is read of an element tells all of
-- it, whoever wrote it.
use Rattle.std.specs.Prelude.{ℕ, List, [], ◌++◌, Option, Some, None}
use Rattle.ioam_data.specs.Fields.{Held, numbers_of}
use Rattle.ioam_data.specs.Table.{table, spelt_by}
use Rattle.ioam_data.specs.Written.{snapshot_of}

-- Length, the schema and the data
abbrev pub snapshot_octets : ℕ × List ℕ → List ℕ
snapshot_octets given = snapshot_of (Some given)

-- the octets of a snapshot that is there
abbrev pub snapshot_if : Option (ℕ × List ℕ) → List ℕ
snapshot_if None = []
snapshot_if (Some given) = snapshot_octets given

-- the fields in bit order, the filler, and the snapshot
abbrev pub held_octets : Held → List ℕ
held_octets held = spelt_by table (numbers_of held) ++ (held.filler ++ snapshot_if held.snapshot)
