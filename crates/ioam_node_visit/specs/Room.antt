-- Room for what nodes note and export, as its callers see it.
use Rattle.std.specs.Prelude.{ℕ, List}
use Rattle.ioam_node_visit.specs.declared.note.NodeNote.{NodeNote}

-- the notes and the octets of the records that it holds, for how many more IOAM options it has room, and how many notes and
-- how many octets of records its memory has places for
pub record Room : Type 0 where
  pub notes : List NodeNote
  pub exports : List ℕ
  pub spare : ℕ
  pub capacities : ℕ × ℕ
